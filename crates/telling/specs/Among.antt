-- Keys among keys, and what marks say of them.
use Rattle.std.specs.Prelude.{◌≡◌, ◌⊎◌, ℕ, true, List, [], ◌∷◌}
use Rattle.pushed_keys.specs.Rules.{is_told}
use Rattle.pushed_keys.specs.declared.pushed.Pushed.{Pushed}
use Rattle.pushed_keys.specs.declared.told.Mark.{Mark}

-- a key is one of these
abbrev pub IsAmong : List ℕ → List (List ℕ) → Type 0
IsAmong key [] = ⊥
IsAmong key (other ∷ keys) = (other ≡ key) ⊎ IsAmong key keys

-- a key was put at a moment from which on it is told now
abbrev pub IsMarked : Pushed → ℕ → List ℕ → List Mark → Type 0
IsMarked table now key [] = ⊥
IsMarked table now key (mark ∷ marks) =
    ((mark.key ≡ key) × (is_told table now mark.put ≡ true)) ⊎ IsMarked table now key marks

-- this holds of each mark's key and moment
abbrev pub AllMarks : (List ℕ → ℕ → Type 0) → List Mark → Type 0
AllMarks Put [] = Unit {0}
AllMarks Put (mark ∷ marks) = Put mark.key mark.put × AllMarks Put marks

-- a key with the moment at which it was last put is one of these marks
abbrev pub IsMarkOf : List Mark → List ℕ → ℕ → Type 0
IsMarkOf [] key put = ⊥
IsMarkOf (mark ∷ marks) key put =
    ((mark.key ≡ key) × (mark.put ≡ put)) ⊎ IsMarkOf marks key put
