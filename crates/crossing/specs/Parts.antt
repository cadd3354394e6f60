-- Conditions on values that only fall, and when their joint truth changes.
use Rattle.std.specs.Prelude.{◌≡◌, ◌≢◌, ℕ, ◌≤◌, suc, Bool, ◌⊎◌, List, [], ◌∷◌, Option, None, Some}
use Rattle.std.specs.List.{list_all, AllByRecursion}
use Rattle.agg_types.specs.Op.{op_holds}
use Rattle.crossing.specs.First.{IsFlatSoon}
use Rattle.crossing.specs.declared.change.Part.{Part}

-- a condition holds of its value at a moment
abbrev pub part_holds : {F : Type 0} → (F → ℕ → ℕ) → Part F → ℕ → Bool
part_holds value part t = op_holds part.op (value part.fall t) part.bound

-- all of them hold at a moment
abbrev pub all_hold : {F : Type 0} → (F → ℕ → ℕ) → List (Part F) → ℕ → Bool
all_hold value parts t = list_all (λ part. part_holds value part t) parts

-- at a moment their joint truth is another than at `now`
abbrev pub Differs : {F : Type 0} → (F → ℕ → ℕ) → List (Part F) → ℕ → ℕ → Type 0
Differs value parts now t = all_hold value parts t ≢ all_hold value parts now

-- the truth of one condition turns between a moment and the next
abbrev pub TurnsAfter : {F : Type 0} → (F → ℕ → ℕ) → ℕ → Part F → Type 0
TurnsAfter value d part = part_holds value part (suc d) ≢ part_holds value part d

-- that of some condition turns
abbrev pub AnyTurnsAfter : {F : Type 0} → (F → ℕ → ℕ) → ℕ → List (Part F) → Type 0
AnyTurnsAfter value d [] = ⊥
AnyTurnsAfter value d (part ∷ parts) = TurnsAfter value d part ⊎ AnyTurnsAfter value d parts

-- a moment was found, no later than another
abbrev pub IsBy : Option ℕ → ℕ → Type 0
IsBy None t = ⊥
IsBy (Some found) t = found ≤ t

-- one of two is this moment
abbrev pub IsOneOf : Option ℕ × Option ℕ → ℕ → Type 0
IsOneOf turns t = (turns.0 ≡ Some t) ⊎ (turns.1 ≡ Some t)

-- every value stays soon
abbrev pub AreFlatSoon : {F : Type 0} → (F → ℕ) → ℕ → List (Part F) → Type 0
AreFlatSoon flat now parts = AllByRecursion (λ part. IsFlatSoon now (flat part.fall)) parts
