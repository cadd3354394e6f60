use Rattle.std.proofs.Common.{◌%◌, ◌/◌, ◌∙◌, sym, arith}
use Rattle.segments.proofs.Joined.{slice_get-seen, slice_get-none}
use Rattle.segments.proofs.segments.get_in.Goals as goal

pub returns-in-Some : goal.returns-in-Some
returns-in-Some g c =
    c.get.ensures
    ∙ sym (slice_get-seen c.args.segments.now.items c.in-Some.segment.now (c.args.at / 1024)
    (c.args.at % 1024) c.args.at c.requires (omega arith) (omega arith)
    (sym c.in-Some.ensures))

pub returns-in-None : goal.returns-in-None
returns-in-None g c =
    sym (slice_get-none c.args.segments.now.items (c.args.at / 1024) (c.args.at % 1024) c.args.at
    c.requires (omega arith) (omega arith) (sym c.in-None.ensures))
