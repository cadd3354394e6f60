use Rattle.std.proofs.Common.{sym, ◌∙◌, ap}
use Rattle.std.specs.Option.{option_copied_mut}
use Rattle.std.specs.Ordering.{nat_cmp}
use Rattle.std.specs.Cmp.{nat_cmp_total}
use Rattle.book_frame.proofs.Written.{written_is_put}
use Rattle.book_frame.proofs.seats.count_to.Goals as goal

pub returns-in-Some : goal.returns-in-Some
returns-in-Some c =
    (c.get_mut.follows.holds c.args.number).0
    ∙ written_is_put nat_cmp nat_cmp_total c.args.seat c.in-Some.next.now c.args.number
    c.args.seats.now.entries c.in-Some.ensures.ordered
    (sym c.get_mut.follows.claims.0 ∙ ap option_copied_mut c.in-Some.is)
