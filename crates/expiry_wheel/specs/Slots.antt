-- The slots of a wheel, and what stands in them.
use Rattle.std.specs.Prelude.{◌≡◌, ℕ, zero, suc, ◌+◌, ◌*◌, ◌/◌, ◌%◌, ◌==◌, ◌<◌, ◌≤◌, true, List, []}
use Rattle.std.specs.Prelude.{◌∷◌, ◌++◌, length, take, drop, slice_index_or, if◌then◌else◌, Some, ⊤}
use Rattle.std.specs.declared.cmp.Ordering.{Ordering}
use Rattle.std.specs.List.{AllByRecursion, list_any}
use Rattle.expiry_wheel.specs.Entries.{IsInOrder, first_moment}

-- the slot of a moment, on a wheel that counts from `now` and has this many levels above the
-- lowest. In base 256, the level is the highest place at which the moment differs from `now`, and
-- the slot its digit there.
unfoldable pub slot_of : ℕ → ℕ → ℕ → ℕ
slot_of zero now at = at
slot_of (suc levels) now at =
    if at / 256 == now / 256 then at % 256 else 256 + slot_of levels (now / 256) (at / 256)

-- the first moment after `now` that has the slot of `at`
unfoldable pub start_of : ℕ → ℕ → ℕ → ℕ
start_of zero now at = at
start_of (suc levels) now at =
    if at / 256 == now / 256 then at else 256 * start_of levels (now / 256) (at / 256)

-- the entries of slots, one after another
abbrev pub entries_in : {T : Type 0} → List (List (ℕ × T)) → List (ℕ × T)
entries_in [] = []
entries_in (slot ∷ slots) = slot ++ entries_in slots

-- from slot k on, each holds entries beyond `end` of its own moments, in order
abbrev pub AreSlotted : {T : Type 0} → (T → T → Ordering) → ℕ → ℕ → ℕ → List (List (ℕ × T)) → Type 0
AreSlotted cmp now end k [] = ⊤
AreSlotted cmp now end k (slot ∷ slots) =
    IsInOrder cmp slot × AllByRecursion (λ e. (end < e.0) × (slot_of 7 now e.0 ≡ k)) slot
    × AreSlotted cmp now end (suc k) slots

-- all up to `end` is near, and all beyond it stands in its slot
pub record IsWheel {T : Type 0} (cmp : T → T → Ordering) (now end : ℕ) (near : List (ℕ × T))
    (slots : List (List (ℕ × T))) : Type 0 where
  pub counted : now ≤ end
  pub complete : length slots ≡ 2048
  pub ordered : IsInOrder cmp near
  pub until : AllByRecursion (λ e. e.0 ≤ end) near
  pub slotted : AreSlotted cmp now end 0 slots

-- the first and the last moment of some entries
pub record SpansEntries {T : Type 0} (entries : List (ℕ × T)) (ends : ℕ × ℕ) : Type 0 where
  pub first : first_moment entries ≡ Some ends.0
  pub last : list_any (λ e. e.0 == ends.1) entries ≡ true
  pub bound : AllByRecursion (λ e. e.0 ≤ ends.1) entries

-- the first slot, from one on, that holds entries
pub record IsFirstOccupied {T : Type 0} (slots : List (List (ℕ × T))) (from k : ℕ) : Type 0 where
  pub since : from ≤ k
  pub within : k < length slots
  pub none_before : entries_in (drop from (take k slots)) ≡ []
  pub some_here : slice_index_or slots k [] ≡ [] → ⊥
