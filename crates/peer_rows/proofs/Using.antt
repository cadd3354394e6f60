-- How many keys have a row: each of the keys' entries has one.
use Rattle.std.proofs.Common.{◌≡◌, ℕ, false, List, [], ◌∷◌, ◌++◌, refl, ◌∙◌, ap}
use Rattle.std.specs.Prelude.{map}
use Rattle.std.specs.declared.cmp.Ordering.TheVariants.{Less}
use Rattle.std.specs.Ordering.{is_eq, nat_cmp, ordering_reverse}
use Rattle.std.specs.Cmp.Lexicographic.{slice_cmp, nat_list_cmp_total}
use Rattle.std.specs.Map.{keys_of}
use Rattle.std.specs.List.{dedup, dedup_from}
use Rattle.std.specs.List.Sorted.{IsStrictlySortedBy}
use Rattle.peer_rows.specs.declared.row.Row.{Row}
use Rattle.peer_rows.specs.Spread.{part}
use Rattle.peer_rows.specs.Peers.{ArePeers}
use Rattle.peer_rows.specs.Table.{Spot, spot, same_key, rows_in, EachPeerOnce}
use Rattle.std.proofs.lemmas.Cmp.{tied_itself}
use Rattle.place_index.proofs.Sorted.{above_first, sorted_others, AllAbove}
use Rattle.peer_rows.proofs.Keying.{Keys}

-- a key's own rows are passed over
dedup_from-part : (k : List ℕ) (rows : List (ℕ × Row)) (rest : List (Spot × Row))
    → dedup_from same_key k (map (λ e. e.0.0) (part spot k rows ++ rest)) ≡ dedup_from same_key k
    (map (λ e. e.0.0) rest)
dedup_from-part k [] rest = refl
dedup_from-part k (r ∷ rows) rest =
    rw (tied_itself nat_list_cmp_total k) (dedup_from-part k rows rest)

-- a key above another is another
another : (k j : List ℕ) → slice_cmp nat_cmp k j ≡ Less → same_key j k ≡ false
another k j less = ap is_eq (nat_list_cmp_total.antisymm j k ∙ ap ordering_reverse less)

dedup_from-rows_in : (k : List ℕ) (es : Keys) → AllAbove (slice_cmp nat_cmp) k es
    → IsStrictlySortedBy (slice_cmp nat_cmp) (keys_of es) → EachPeerOnce es
    → dedup_from same_key k (map (λ e. e.0.0) (rows_in es)) ≡ k ∷ keys_of es
dedup_from-rows_in k [] above s once = refl
dedup_from-rows_in k (e ∷ es) above s once =
    by (dedup_from-rows_in e.0 es (above_first (slice_cmp nat_cmp) e.0 es s)
    (sorted_others (slice_cmp nat_cmp) e.0 es s) once.1) e.1 once.0
  where
    by : dedup_from same_key e.0 (map (λ f. f.0.0) (rows_in es)) ≡ e.0 ∷ keys_of es
        → (rows : List (ℕ × Row)) → ArePeers rows
        → dedup_from same_key k (map (λ f. f.0.0) (part spot e.0 rows ++ rows_in es))
        ≡ k ∷ e.0 ∷ keys_of es
    by more [] are = absurd (are.some refl)
    by more (r ∷ rows) are = rw (another k e.0 above.0)
        (ap (λ ks. k ∷ ks) (dedup_from-part e.0 rows (rows_in es) ∙ more))

pub dedup-rows_in : (es : Keys) → IsStrictlySortedBy (slice_cmp nat_cmp) (keys_of es)
    → EachPeerOnce es → dedup same_key (map (λ e. e.0.0) (rows_in es)) ≡ keys_of es
dedup-rows_in [] s once = refl
dedup-rows_in (e ∷ es) s once = by e.1 once.0
  where
    by : (rows : List (ℕ × Row)) → ArePeers rows
        → dedup same_key (map (λ f. f.0.0) (part spot e.0 rows ++ rows_in es)) ≡ e.0 ∷ keys_of es
    by [] are = absurd (are.some refl)
    by (r ∷ rows) are = dedup_from-part e.0 rows (rows_in es)
        ∙ dedup_from-rows_in e.0 es (above_first (slice_cmp nat_cmp) e.0 es s)
        (sorted_others (slice_cmp nat_cmp) e.0 es s) once.1
