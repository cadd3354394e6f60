-- What stands first where a set has no keys, and where no key moved.
use Rattle.std.proofs.Common.{◌≡◌, ℕ, ◌<◌, List, [], ◌∷◌, length, map, refl, arith}
use Rattle.pushed_keys.specs.Moves.{moved_stands, unmoved}
use Rattle.pushed_keys.specs.Stands.{only_told, stands}
use Rattle.pushed_keys.specs.declared.moved.Moved.{Moved}
use Rattle.pushed_keys.specs.declared.told.Mark.{Mark}

pub told_first : {A : Type 0} (key : A → List ℕ) (set : List A) (marks rest : List Mark)
    (mark : Mark) → length set < 1 → marks ≡ mark ∷ rest
    → stands (map key set) marks ≡ only_told mark ∷ stands (map key set) rest
unfolding stands
told_first key [] marks rest mark none is = rw is refl
told_first key (k ∷ set) marks rest mark none is = absurd (omega (arith, none))

pub none_told_first : {A : Type 0} (key : A → List ℕ) (set : List A) (marks : List Mark)
    → length set < 1 → marks ≡ [] → stands (map key set) marks ≡ []
unfolding stands
none_told_first key [] marks none is = rw is refl
none_told_first key (k ∷ set) marks none is = absurd (omega (arith, none))

pub unmoved_first : (moves : List Moved) (marks rest : List Mark) (mark : Mark)
    → length moves < 1 → marks ≡ mark ∷ rest
    → moved_stands moves marks ≡ unmoved mark ∷ moved_stands moves rest
unfolding moved_stands
unmoved_first [] marks rest mark none is = rw is refl
unmoved_first (move ∷ moves) marks rest mark none is = absurd (omega (arith, none))

pub none_moved_first : (moves : List Moved) (marks : List Mark) → length moves < 1 → marks ≡ []
    → moved_stands moves marks ≡ []
unfolding moved_stands
none_moved_first [] marks none is = rw is refl
none_moved_first (move ∷ moves) marks none is = absurd (omega (arith, none))
