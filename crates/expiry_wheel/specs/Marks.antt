-- Marks of slots, a bit each, in words of 64.
use Rattle.std.specs.Prelude.{◌≡◌, ℕ, ◌/◌, ◌%◌, ◌<◌, ◌≤◌, ◌↔◌, List, [], length, slice_index}
use Rattle.std.specs.Prelude.{slice_index_or}
use Rattle.std.specs.Int.{bit_at}

-- the mark of a slot, 0 or 1
unfoldable pub mark_of : List ℕ → ℕ → ℕ
mark_of words slot = bit_at (slice_index words (slot / 64)) (slot % 64)

-- no slot from one on and before another is marked
abbrev pub AreUnmarked : List ℕ → ℕ → ℕ → Type 0
AreUnmarked words from until = (slot : ℕ) → from ≤ slot → slot < until → mark_of words slot ≡ 0

-- the first marked slot from one on
pub record IsFirstMarked (words : List ℕ) (from slot : ℕ) : Type 0 where
  pub since : from ≤ slot
  pub within : slot < 2048
  pub marked : mark_of words slot ≡ 1
  pub none_before : AreUnmarked words from slot

-- there are 2048 slots, and exactly those that hold something are marked
pub record AreMarked {X : Type 0} (words : List ℕ) (slots : List (List X)) : Type 0 where
  pub complete : length slots ≡ 2048
  pub exact : (slot : ℕ) → (mark_of words slot ≡ 0) ↔ (slice_index_or slots slot [] ≡ [])
