use Rattle.std.proofs.Common.{ℕ, Option, subst}
use Rattle.book_machine.specs.Leaving.{IsAddedPlace}
use Rattle.book.proofs.Dropped.{none_kept}
use Rattle.book.proofs.verdicts.Verdicts.drop_one.Goals as goal

pub returns-in-None : goal.returns-in-None
returns-in-None c = λ state later name fewer added held.
    none_kept state later name c.args.self.now.standing.filters fewer
    (subst (λ (place : Option ℕ). IsAddedPlace state name place) c.in-None.is added) held

pub returns-in-Some : goal.returns-in-Some
returns-in-Some c = λ state later name fewer added held.
    c.drop_place.ensures state later name fewer
    (subst (λ (place : Option ℕ). IsAddedPlace state name place) c.in-Some.is added) held
