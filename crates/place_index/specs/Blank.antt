use Rattle.std.specs.Prelude.{◌≡◌, ◌==◌, ℕ, List, true, length}
use Rattle.std.proofs.Common.{◌∙◌, sym}
use Rattle.std.proofs.lemmas.Bool.{eqb-true}
use Rattle.std.proofs.lemmas.List.{nil_from_length}

-- there is one list without items
pub one_empty : (x y : List ℕ) → (length x == 0) ≡ true → (length y == 0) ≡ true → x ≡ y
one_empty x y none neither =
    nil_from_length x (eqb-true (length x) 0 none)
    ∙ sym (nil_from_length y (eqb-true (length y) 0 neither))
