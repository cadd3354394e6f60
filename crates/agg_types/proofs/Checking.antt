-- The first fault of an entry is the first of the entries that begin with it, where those before it
-- have none.
use Rattle.std.proofs.Common.{◌≡◌, ℕ, ◌<◌, List, [], ◌∷◌, ◌++◌, length, get_or, take, drop}
use Rattle.std.proofs.Common.{Some}
use Rattle.std.proofs.Math.Seq.{drop-cons}
use Rattle.std.specs.Prelude.{slice_get}
use Rattle.agg_types.specs.Check.{each}
use Rattle.agg_types.specs.declared.check.ConfigFault.{ConfigFault}

-- the first of two lists is the first of the one in front, if it has one
pub slice_get-append_first : (xs ys : List ConfigFault) (fault : ConfigFault)
    → slice_get xs 0 ≡ Some fault → slice_get (xs ++ ys) 0 ≡ Some fault
slice_get-append_first [] ys fault h = cc
slice_get-append_first (x ∷ xs) ys fault h = h

-- a fault of the entry at i is the first of those from i on
pub each-fault_at : {A : Type 0} (faults : List A → A → List ConfigFault) (xs : List A) (i : ℕ)
    (x : A) (fault : ConfigFault) → i < length xs → x ≡ get_or xs i x
    → slice_get (faults (take i xs) x) 0 ≡ Some fault
    → slice_get (each faults (take i xs) (drop i xs)) 0 ≡ Some fault
each-fault_at faults xs i x fault h e found =
    rw (drop-cons xs i x h, ← e) (slice_get-append_first (faults (take i xs) x) _ fault found)
