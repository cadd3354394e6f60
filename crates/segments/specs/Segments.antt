use Rattle.std.specs.Prelude.{◌≡◌, ◌≤◌, ◌<◌, ◌+◌, ◌-◌, ◌*◌, ◌^◌, ◌++◌, ℕ, List, [], ◌∷◌, length, ⊤}
use Rattle.std.specs.Prelude.{slice_index_or, refl}
use Rattle.std.specs.Coded.{Coded, code_by, coded×, coded_ℕ, coded_list}

-- the items of a list, and for how many further ones there is memory
pub record Roomy (X : Type 0) : Type 0 where
  pub items : List X
  pub room : ℕ

-- it is stored as the pair of its fields
abbrev pub roomy_code : {X : Type 0} → Coded X → Coded (Roomy X)
roomy_code {X} item =
    code_by (List X × ℕ) (coded× (coded_list item) coded_ℕ) (λ r. (r.items, r.room))
    (λ p. record { items = p.0; room = p.1 }) (λ _. refl)

-- the items of segments, one segment after another
abbrev pub joined : {X : Type 0} → List (List X) → List X
joined [] = []
joined (segment ∷ segments) = segment ++ joined segments

-- each segment but the last has 1024 items, and the last at most so many
abbrev pub AreFull : {X : Type 0} → List (List X) → Type 0
AreFull [] = ⊤
AreFull (segment ∷ []) = length segment ≤ 1024
AreFull (segment ∷ (next ∷ segments)) = (length segment ≡ 1024) × AreFull (next ∷ segments)

-- each segment has 1024 items
abbrev pub AreComplete : {X : Type 0} → List (List X) → Type 0
AreComplete [] = ⊤
AreComplete (segment ∷ segments) = (length segment ≡ 1024) × AreComplete segments

-- no segment has an item
abbrev pub AreBlank : {X : Type 0} → List (List X) → Type 0
AreBlank [] = ⊤
AreBlank (segment ∷ segments) = (segment ≡ []) × AreBlank segments

-- the last segment has room for a further item
pub record HasRoom {X : Type 0} (segments : List (List X)) : Type 0 where
  pub some : 0 < length segments
  pub short : length (slice_index_or segments (length segments - 1) []) < 1024

-- segments, and blank ones that may come behind them in a list that has memory for so many
pub record AreListed {X : Type 0} (segments blank : List (List X)) (most : ℕ) : Type 0 where
  pub full : AreFull segments
  pub blanks : AreBlank blank
  pub within : length segments + length blank ≤ most

-- so many items lie in the segments, and so many further ones find room there and in blank ones
pub record AreRoomy {X : Type 0} (segments blank : List (List X)) (most len room : ℕ)
    : Type 0 where
  pub listed : AreListed segments blank most
  pub counted : len ≡ length (joined segments)
  pub roomy : len + room ≤ 1024 * (length segments + length blank)
  pub small : len + room < 2 ^ 64
