-- The keys of a table with their rows, each once, in any order.
use Rattle.std.proofs.Common.{◌≡◌, ℕ, zero, suc, ◌<◌, ◌≤◌, List, [], ◌∷◌, length, refl, sym, ◌∙◌}
use Rattle.std.proofs.Common.{ap, arith}
use Rattle.std.specs.Prelude.{Option, Some, None, map, filter, drop, ◌≢◌}
use Rattle.std.specs.BTreeMap.{is_at}
use Rattle.std.specs.Cmp.Lexicographic.{slice_cmp}
use Rattle.std.specs.List.Sorted.{IsStrictlySortedBy}
use Rattle.std.specs.Map.{keys_of, lookup}
use Rattle.std.specs.Ordering.{nat_cmp}
use Rattle.std.specs.Option.{option_map}
use Rattle.place_index.specs.Places.{item_at, key_at, value_at, AreDistinct, AreEmpty, in_order}
use Rattle.peer_rows.specs.declared.row.Row.{Row}
use Rattle.peer_rows.specs.Places.{Places, Keys, by_place}
use Rattle.peer_rows.specs.Table.{Spot, EachPeerOnce, rows_in, same_key}
use Rattle.peer_rows.specs.Walk.{AreKeysOf, IsEachKey, if_any}
use Rattle.peer_rows.proofs.Kept.{rows_of_key, none_of_key}
use Rattle.peer_rows.proofs.Keying.{peers-lookup}
use Rattle.peer_rows.proofs.Listed.{distinct_keys, lookup-by_place}
use Rattle.place_index.proofs.Ordered.{lookup-in_order}

-- the keys as they lie
pub keys_as_they_lie : (places : Places) → AreDistinct places
    → AreKeysOf (in_order places) (by_place places)
keys_as_they_lie places d = record {
  once = distinct_keys places d;
  alike = λ q. lookup-by_place places q ∙ sym (lookup-in_order places q);
}

-- ---- what is found of a key among those of a table
if_some : (rows : List (ℕ × Row)) → rows ≢ [] → Some rows ≡ if_any rows
if_some [] some = absurd (some refl)
if_some (row ∷ rows) some = refl

module _ (es : Keys) (key : List ℕ) (s : IsStrictlySortedBy (slice_cmp nat_cmp) (keys_of es))
    (once : EachPeerOnce es) where
  found_if_any : lookup (is_at (slice_cmp nat_cmp key)) es
      ≡ if_any (map (λ e. (e.0.1, e.1)) (filter (λ e. same_key key e.0.0) (rows_in es)))
  found_if_any = by (lookup (is_at (slice_cmp nat_cmp key)) es) refl
    where
      by : (o : Option (List (ℕ × Row))) → lookup (is_at (slice_cmp nat_cmp key)) es ≡ o
          → o ≡ if_any (map (λ e. (e.0.1, e.1)) (filter (λ e. same_key key e.0.0) (rows_in es)))
      by None is = ap (λ (l : List (Spot × Row)). if_any (map (λ e. (e.0.1, e.1)) l))
          (sym (none_of_key es key is))
      by (Some rows) is =
          if_some rows (peers-lookup (is_at (slice_cmp nat_cmp key)) es rows once is).some
          ∙ ap if_any (sym (rows_of_key es key rows s is))

pub each_of_table : (es walk : Keys) → IsStrictlySortedBy (slice_cmp nat_cmp) (keys_of es)
    → EachPeerOnce es → AreKeysOf es walk
    → IsEachKey (λ key. map (λ e. (e.0.1, e.1))
    (filter (λ e. same_key key e.0.0) (rows_in es))) walk
each_of_table es walk s once are = record {
  once = are.once;
  exact = λ key. are.alike key ∙ found_if_any es key s once;
}

-- the same of rows that are the same
pub each_alike : (f g : List ℕ → List (ℕ × Row)) (walk : Keys)
    → ((key : List ℕ) → g key ≡ f key) → IsEachKey f walk → IsEachKey g walk
each_alike f g walk same are = record {
  once = are.once;
  exact = λ key. are.exact key ∙ ap if_any (sym (same key));
}

-- ---- the keys that are left from a place on
pub left_none : (places : Places) (from : ℕ) → AreEmpty places from (length places)
    → by_place (drop from places) ≡ []
left_none [] zero empty = refl
left_none [] (suc from) empty = refl
left_none (None ∷ places) zero empty =
    left_none places zero (λ at low within. empty (suc at) (omega arith) (omega (arith, within)))
left_none (Some item ∷ places) zero empty =
    let none : Some item ≡ None = empty zero (omega arith) (omega arith) in cc
left_none (x ∷ places) (suc from) empty =
    left_none places from (λ at low within.
    empty (suc at) (omega (arith, low)) (omega (arith, within)))

pub left_some : (places : Places) (from at : ℕ) (item : List ℕ × List (ℕ × Row)) → from ≤ at
    → AreEmpty places from at → item_at places at ≡ Some item
    → by_place (drop from places) ≡ item ∷ by_place (drop (suc at) places)
left_some [] zero at item low empty is = cc
left_some [] (suc from) at item low empty is = cc
left_some (None ∷ places) zero zero item low empty is = cc
left_some (Some x ∷ places) zero zero item low empty is = cc
left_some (None ∷ places) zero (suc at) item low empty is =
    left_some places zero at item (omega arith)
    (λ k below within. empty (suc k) (omega arith) (omega (arith, within))) is
left_some (Some x ∷ places) zero (suc at) item low empty is =
    let none : Some x ≡ None = empty zero (omega arith) (omega arith) in cc
left_some (x ∷ places) (suc from) zero item low empty is = absurd (omega (arith, low))
left_some (x ∷ places) (suc from) (suc at) item low empty is =
    left_some places from at item (omega (arith, low))
    (λ k below within. empty (suc k) (omega (arith, below)) (omega (arith, within))) is

-- a key and a value that lie in one place
pub item_of : (places : Places) (at : ℕ) (key : List ℕ) (rows : List (ℕ × Row))
    → Some key ≡ key_at places at → Some rows ≡ value_at places at
    → item_at places at ≡ Some (key, rows)
item_of places at key rows own held = by (item_at places at) own held
  where
    by : (o : Option (List ℕ × List (ℕ × Row))) → Some key ≡ option_map (λ item. item.0) o
        → Some rows ≡ option_map (λ item. item.1) o → o ≡ Some (key, rows)
    by None own held = cc
    by (Some item) own held =
        let first : item.0 ≡ key = cc in
        let second : item.1 ≡ rows = cc in
        ap (λ k. Some (k, item.1)) first ∙ ap (λ r. Some (key, r)) second

-- what is left is shorter by one
pub shorter : {X : Type 0} (s t : List X) (x : X) → s ≡ x ∷ t → length t < length s
shorter s t x e = rw e (omega arith)
