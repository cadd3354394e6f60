use Rattle.std.proofs.Common.{◌≡◌, ◌∙◌, ap, arith, false, length, refl, sym}
use Rattle.std.proofs.lemmas.Bool.Decides.{nat_tests}
use Rattle.std.proofs.lemmas.List.{nil_from_length}
use Rattle.telling.specs.Telling.{definitions}
use Rattle.telling.proofs.teller.Teller.before.Goals as goal

pub returns-then-is_empty-clause-first : goal.returns-then-is_empty-clause-first
unfolding definitions
returns-then-is_empty-clause-first c =
    let short : length c.args.pushed.now ≡ 0 =
    grind (arith, nat_tests, c.is_empty.ensures, c.if-is_empty.true) in
    let first : c.args.self.now.begun ≡ false =
    ap (λ t. t.begun) (sym c.self.view_is) ∙ c.if-self.false in
    rw (first, nil_from_length c.args.pushed.now short) refl
