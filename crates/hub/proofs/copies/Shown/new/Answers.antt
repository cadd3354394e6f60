use Rattle.std.proofs.Common.{Some, false, sym, subst, refl, ap}
use Rattle.hub.specs.Changing.{AreKeptOf, sets_of}
use Rattle.hub.specs.Copied.{Copied}
use Rattle.hub.specs.Trailed.{StandsAt, Trailed}
use Rattle.hub.proofs.Held.{opened_whole}
use Rattle.hub.proofs.Trailing.{stands_opened}
use Rattle.hub.proofs.copies.Shown.new.Goals as goal

pub invariant_of-result : goal.invariant_of-result
invariant_of-result c = (
  tt,
  subst (λ (t : Trailed). StandsAt c.args.book t) (sym c.open-trail.ensures)
      (stands_opened c.args.book c.args.at.config c.args.at.opening c.requires.opened),
  subst (λ (t : Trailed). AreKeptOf (Some c.new-changes.result) t) (sym c.open-trail.ensures)
      (c.new-changes.ensures (sets_of c.args.book.config c.args.book.moment)),
)

pub returns : goal.returns
returns c =
    let copied : Copied = record {
      at = c.args.at;
      state = c.args.book;
      took = c.open-trail.result;
    } in
    ap (λ (x : Copied). record { copied = x; part = false }) (opened_whole copied c.args.at refl
    c.requires.opened c.open-trail.ensures c.requires.empty)
