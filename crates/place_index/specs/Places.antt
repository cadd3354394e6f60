use Rattle.std.specs.Prelude.{◌≡◌, ◌≢◌, ◌<◌, ◌≤◌, ℕ, zero, suc, List, [], ◌∷◌, Option, Some, None}
use Rattle.std.specs.Prelude.{◌+◌, slice_index_or, slice_set, refl}
use Rattle.std.specs.Coded.{Coded, code_by, coded×, coded_ℕ, coded_list, coded_option}
use Rattle.std.specs.BTreeMap.{insert_entry}
use Rattle.std.specs.Cmp.Lexicographic.{slice_cmp}
use Rattle.std.specs.Option.{option_map}
use Rattle.std.specs.Ordering.{nat_cmp}

-- what an index is to its callers: its places, each empty or a key with its value, and for how
-- many further keys there is room
pub record Numbered (K V : Type 0) : Type 0 where
  pub places : List (Option (K × V))
  pub room : ℕ

-- it is stored as the pair of its fields
abbrev pub numbered_code : {K V : Type 0} → Coded K → Coded V → Coded (Numbered K V)
numbered_code {K} {V} key value =
    code_by (List (Option (K × V)) × ℕ)
    (coded× (coded_list (coded_option (coded× key value))) coded_ℕ)
    (λ n. (n.places, n.room)) (λ p. record { places = p.0; room = p.1 }) (λ _. refl)

-- what lies in the place of a number: nothing, or a key with its value
abbrev pub item_at : {K V : Type 0} → List (Option (K × V)) → ℕ → Option (K × V)
item_at places at = slice_index_or places at None

-- the key that lies in the place of a number
abbrev pub key_at : {K V : Type 0} → List (Option (K × V)) → ℕ → Option K
key_at places at = option_map (λ item. item.0) (item_at places at)

-- the value that lies in the place of a number
abbrev pub value_at : {K V : Type 0} → List (Option (K × V)) → ℕ → Option V
value_at places at = option_map (λ item. item.1) (item_at places at)

-- the places with another item in one of them, or in the next behind the last
abbrev pub laid : {X : Type 0} → List X → ℕ → X → List X
laid [] at item = item ∷ []
laid (x ∷ places) zero item = item ∷ places
laid (x ∷ places) (suc at) item = x ∷ laid places at item

-- the places with another value beside the key in one of them
abbrev pub revalued : {K V : Type 0} → List (Option (K × V)) → ℕ → V → List (Option (K × V))
revalued places at value =
    slice_set places at (option_map (λ item. (item.0, value)) (item_at places at))

-- how many places are filled
abbrev pub filled : {X : Type 0} → List (Option X) → ℕ
filled [] = 0
filled (None ∷ places) = filled places
filled (Some item ∷ places) = filled places + 1

-- the keys with their values in the order of the keys, whatever their places
abbrev pub in_order : {V : Type 0} → List (Option (List ℕ × V)) → List (List ℕ × V)
in_order [] = []
in_order (None ∷ places) = in_order places
in_order (Some item ∷ places) = insert_entry (slice_cmp nat_cmp) (in_order places) item.0 item.1

-- no key lies in two places
abbrev pub AreDistinct : {K V : Type 0} → List (Option (K × V)) → Type 0
AreDistinct {K} places = (p q : ℕ) (key : K) → key_at places p ≡ Some key
    → key_at places q ≡ Some key → p ≡ q

-- no place holds the key
abbrev pub IsAbsent : {K V : Type 0} → List (Option (K × V)) → K → Type 0
IsAbsent places key = (at : ℕ) → key_at places at ≢ Some key

-- the places from one number up to another are empty
abbrev pub AreEmpty : {K V : Type 0} → List (Option (K × V)) → ℕ → ℕ → Type 0
AreEmpty places from to = (at : ℕ) → from ≤ at → at < to → item_at places at ≡ None
