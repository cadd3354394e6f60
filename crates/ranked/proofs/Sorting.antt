-- What a walk over all bounds finds is the ranking.
use Rattle.std.proofs.Common.{◌≡◌, ℕ, Bool, true, false, cond, ◌&&◌, ◌||◌, ◌==◌, List, [], ◌∷◌, map}
use Rattle.std.proofs.Common.{take, Option, None, Some, Ordering, refl, sym, ap, ◌∙◌, eqb, ltb}
use Rattle.std.proofs.Common.{arith}
use Rattle.std.specs.Prelude.{filter, nat_lt, is_some}
use Rattle.std.proofs.lemmas.Bool.{or_right}
use Rattle.std.proofs.lemmas.Bool.Decides.{nat_tests}
use Rattle.std.proofs.lemmas.Cmp.{eq_by_cmp_equiv, nat_list_cmp_total, tied_itself}
use Rattle.std.proofs.lemmas.Map.Keys.{IsDistinct-from_sorted}
use Rattle.std.proofs.lemmas.Map.Lookups.{exact_bytes}
use Rattle.std.proofs.lemmas.Map.Made.{is_some-lookup}
use Rattle.std.specs.BTreeMap.{is_at}
use Rattle.std.specs.Cmp.{both_ways, nat_cmp_total}
use Rattle.std.specs.Cmp.Lexicographic.{slice_cmp}
use Rattle.std.specs.List.{AllByRecursion, IsDistinct, list_any}
use Rattle.std.specs.List.Sorted.{IsStrictlySortedBy}
use Rattle.std.specs.Map.{keys_of}
use Rattle.std.specs.Ordering.{is_eq, nat_cmp, ordering_then}
use Rattle.std.specs.declared.cmp.Ordering.TheVariants.{Less, Equal, Greater}
use Rattle.expiry_wheel.specs.Entries.{IsInOrder, entry_cmp}
use Rattle.fleet_model.proofs.Entries.{equal_from}
use Rattle.fleet_model.proofs.Every.{every-filter}
use Rattle.fleet_model.proofs.Members.{among, among-filter, any-map, same_members}
use Rattle.fleet_model.proofs.Ranks.{Untied, all-put, any-in_order, any-put, entry_among}
use Rattle.fleet_model.proofs.Ranks.{rank_cmp_exact, rank_cmp_total, sorted-in_order, sorted-put}
use Rattle.fleet_model.proofs.Ranks.{tied_parts}
use Rattle.fleet_model.specs.Laws.{is_key_among}
use Rattle.fleet_model.specs.Ranking.{in_order, put_in_order, rank_cmp}
use Rattle.fleet_model.specs.Seats.{is_number}
use Rattle.fleet_model.specs.Values.{same_key}
use Rattle.ranked.proofs.Indexed.{entries_kept}
use Rattle.ranked.specs.Bounds.{IsByKey, IsIndexOf, first_ranked, zeros_at}
use Rattle.ranked.specs.Walk.{found, put_all, worth}

abbrev Entries : Type 0
Entries = List (List ℕ × ℕ)

abbrev pub with_value : (List ℕ → ℕ) → List ℕ → List ℕ × ℕ
with_value value key = (key, value key)

-- ---- putting all, one after the other
any-put_all : (p : List ℕ × ℕ → Bool) (candidates xs : Entries) → list_any p (put_all candidates xs)
    ≡ (list_any p candidates || list_any p xs)
unfolding put_all
any-put_all p candidates [] = by (list_any p candidates)
  where
    by : (b : Bool) → b ≡ (b || false)
    by true = refl
    by false = refl
any-put_all p candidates (x ∷ xs) =
    any-put_all p (put_in_order rank_cmp x candidates) xs
    ∙ ap (λ b. b || list_any p xs) (any-put rank_cmp p x candidates)
    ∙ turned (p x) (list_any p candidates) (list_any p xs)
  where
    turned : (a b c : Bool) → ((a || b) || c) ≡ (b || (a || c))
    turned true true c = refl
    turned true false c = refl
    turned false b c = refl

-- none of some items ties with any of others
abbrev Apart : Entries → Entries → Type 0
Apart xs others = AllByRecursion (λ x. AllByRecursion (λ y. is_eq (rank_cmp x y) ≡ false) others) xs

apart-put : (x : List ℕ × ℕ) (candidates xs : Entries)
    → AllByRecursion (λ y. is_eq (rank_cmp x y) ≡ false) xs → Apart xs candidates
    → Apart xs (put_in_order rank_cmp x candidates)
apart-put x candidates [] h apart = tt
apart-put x candidates (y ∷ ys) h apart = (
  all-put rank_cmp (λ z. is_eq (rank_cmp y z) ≡ false) x candidates
      ((eq_by_cmp_equiv rank_cmp_total).symm y x ∙ h.0) apart.0,
  apart-put x candidates ys h.1 apart.1,
)

sorted-put_all : (candidates xs : Entries) → IsStrictlySortedBy rank_cmp candidates
    → Untied rank_cmp xs → Apart xs candidates → IsStrictlySortedBy rank_cmp (put_all candidates xs)
unfolding put_all
sorted-put_all candidates [] h untied apart = h
sorted-put_all candidates (x ∷ xs) h untied apart =
    sorted-put_all (put_in_order rank_cmp x candidates) xs
    (sorted-put rank_cmp_total x candidates apart.0 h) untied.1
    (apart-put x candidates xs untied.0 apart.1)

-- ---- keys that differ, each with its value
untied_later : (value : List ℕ → ℕ) (key : List ℕ) (keys : List (List ℕ))
    → AllByRecursion (λ other. same_key key other ≡ false) keys
    → AllByRecursion (λ e. is_eq (rank_cmp (with_value value key) e) ≡ false)
    (map (with_value value) keys)
untied_later value key [] h = tt
untied_later value key (other ∷ keys) h = (
  tied_parts (nat_cmp (value other) (value key)) (slice_cmp nat_cmp key other)
      ∙ ap (λ b. is_eq (nat_cmp (value other) (value key)) && b) h.0
      ∙ and_no (is_eq (nat_cmp (value other) (value key))),
  untied_later value key keys h.1,
)
  where
    and_no : (b : Bool) → (b && false) ≡ false
    and_no true = refl
    and_no false = refl

untied_keys : (value : List ℕ → ℕ) (keys : List (List ℕ)) → IsDistinct same_key keys
    → Untied rank_cmp (map (with_value value) keys)
unfolding IsDistinct
untied_keys value [] h = tt
untied_keys value (key ∷ keys) h = (untied_later value key keys h.0, untied_keys value keys h.1)

valued : (value : List ℕ → ℕ) (keys : List (List ℕ))
    → AllByRecursion (λ (e : List ℕ × ℕ). e.1 ≡ value e.0) (map (with_value value) keys)
valued value [] = tt
valued value (key ∷ keys) = (refl, valued value keys)

keys_valued : (value : List ℕ → ℕ) (keys : List (List ℕ))
    → map (λ (e : List ℕ × ℕ). e.0) (map (with_value value) keys) ≡ keys
keys_valued value [] = refl
keys_valued value (key ∷ keys) = ap (λ rest. key ∷ rest) (keys_valued value keys)

among_valued : (value : List ℕ → ℕ) (keys : List (List ℕ)) (q : List ℕ × ℕ)
    → among rank_cmp q (map (with_value value) keys) ≡ (is_key_among q.0 keys && (value q.0 == q.1))
among_valued value keys q =
    entry_among value q (map (with_value value) keys) (valued value keys)
    ∙ ap (λ ks. is_key_among q.0 ks && (value q.0 == q.1)) (keys_valued value keys)

pub distinct-filter : (p : List ℕ → Bool) (keys : List (List ℕ)) → IsDistinct same_key keys
    → IsDistinct same_key (filter p keys)
unfolding IsDistinct
distinct-filter p [] h = tt
distinct-filter p (key ∷ keys) h = by (p key) (distinct-filter p keys h.1)
  where
    by : (b : Bool) → IsDistinct same_key (filter p keys)
        → IsDistinct same_key (cond b (key ∷ filter p keys) (filter p keys))
    by true rest = (every-filter (λ other. same_key key other ≡ false) p keys h.0, rest)
    by false rest = rest

-- two lists of keys that differ, with the same members, have one ranking
pub same_ranking : (value : List ℕ → ℕ) (keys others : List (List ℕ)) → IsDistinct same_key keys
    → IsDistinct same_key others → ((q : List ℕ) → is_key_among q keys ≡ is_key_among q others)
    → put_all [] (map (with_value value) keys) ≡ in_order rank_cmp (map (with_value value) others)
unfolding IsStrictlySortedBy
same_ranking value keys others g h same =
    same_members rank_cmp rank_cmp_total rank_cmp_exact (put_all [] (map (with_value value) keys))
    (in_order rank_cmp (map (with_value value) others))
    (sorted-put_all [] (map (with_value value) keys) tt (untied_keys value keys g)
    (apart_none (map (with_value value) keys)))
    (sorted-in_order rank_cmp_total (map (with_value value) others) (untied_keys value others h))
    (λ q. any-put_all (λ x. is_eq (rank_cmp q x)) [] (map (with_value value) keys)
    ∙ among_valued value keys q
    ∙ ap (λ b. b && (value q.0 == q.1)) (same q.0)
    ∙ sym (among_valued value others q)
    ∙ sym (any-in_order rank_cmp (λ x. is_eq (rank_cmp q x)) (map (with_value value) others)))
  where
    apart_none : (xs : Entries) → Apart xs []
    apart_none [] = tt
    apart_none (x ∷ xs) = (tt, apart_none xs)

-- ---- the keys of an index
index_keys : List (ℕ × List ℕ) → List (List ℕ)
index_keys index = map (λ e. e.1) index

lives : (List ℕ → ℕ) → List ℕ → Bool
lives living key = nat_lt 0 (living key)

worth_is : (living value : List ℕ → ℕ) (index : List (ℕ × List ℕ))
    → worth living value index ≡ map (with_value value) (filter (lives living) (index_keys index))
unfolding index_keys lives
worth_is living value [] = refl
worth_is living value (e ∷ index) =
    by (eqb (living e.1) 0) (ltb 0 (living e.1)) (grind (arith, nat_tests))
    (worth_is living value index)
  where
    by : (zero some : Bool) → zero ≡ cond some false true
        → worth living value index ≡ map (with_value value)
        (filter (lives living) (index_keys index))
        → cond zero (worth living value index) ((e.1, value e.1) ∷ worth living value index)
        ≡ map (with_value value) (cond some (e.1 ∷ filter (lives living) (index_keys index))
        (filter (lives living) (index_keys index)))
    by true true is rest = cc
    by true false is rest = rest
    by false true is rest = ap (λ l. (e.1, value e.1) ∷ l) rest
    by false false is rest = cc

-- an entry that is below another has another key, where each key has one bound
other_key : (kept : Entries) (e f : ℕ × List ℕ) → zeros_at kept e.1 ≡ Some e.0
    → zeros_at kept f.1 ≡ Some f.0 → entry_cmp (slice_cmp nat_cmp) e f ≡ Less → (b : Bool)
    → same_key e.1 f.1 ≡ b → b ≡ false
other_key kept e f of_e of_f less false is = refl
other_key kept e f of_e of_f less true is =
    let key : e.1 ≡ f.1 = exact_bytes e.1 f.1 (equal_from _ is) in
    let zeros : Some e.0 ≡ Some f.0 = sym of_e ∙ ap (zeros_at kept) key ∙ of_f in
    let number : e.0 ≡ f.0 = cc in
    let tied : ordering_then (nat_cmp f.0 f.0) (slice_cmp nat_cmp f.1 f.1) ≡ Less =
    rw (number, key) at less in
    absurd (by (nat_cmp f.0 f.0) (slice_cmp nat_cmp f.1 f.1) (tied_itself nat_cmp_total f.0)
    (tied_itself nat_list_cmp_total f.1) tied)
  where
    by : (a b : Ordering) → a ≡ Equal → b ≡ Equal → ordering_then a b ≡ Less → ⊥
    by a b is same less = let no : Equal ≡ Less = rw (is, same) at less in cc

distinct_index : (kept : Entries) (index : List (ℕ × List ℕ)) → IsInOrder (slice_cmp nat_cmp) index
    → AllByRecursion (λ e. zeros_at kept e.1 ≡ Some e.0) index
    → IsDistinct same_key (index_keys index)
unfolding IsDistinct IsStrictlySortedBy index_keys
distinct_index kept [] ordered are = tt
distinct_index kept (e ∷ index) ordered are =
    (apart index ordered.0 are.1, distinct_index kept index ordered.1 are.1)
  where
    apart : (rest : List (ℕ × List ℕ))
        → AllByRecursion (λ f. entry_cmp (slice_cmp nat_cmp) e f ≡ Less) rest
        → AllByRecursion (λ f. zeros_at kept f.1 ≡ Some f.0) rest
        → AllByRecursion (λ key. same_key e.1 key ≡ false) (map (λ (f : ℕ × List ℕ). f.1) rest)
    apart [] less are = tt
    apart (f ∷ rest) less others = (
      other_key kept e f are.0 others.0 less.0 (same_key e.1 f.1) refl,
      apart rest less.1 others.1,
    )

some_from : (kept : Entries) (q : List ℕ) (index : List (ℕ × List ℕ))
    → AllByRecursion (λ e. zeros_at kept e.1 ≡ Some e.0) index → is_key_among q (index_keys index)
    ≡ true → is_some (zeros_at kept q) ≡ true
unfolding index_keys
some_from kept q [] are there = cc
some_from kept q (e ∷ index) are there =
    by (same_key q e.1) refl (some_from kept q index are.1) there
  where
    by : (b : Bool) → same_key q e.1 ≡ b → (is_key_among q (index_keys index) ≡ true
        → is_some (zeros_at kept q) ≡ true) → (b || is_key_among q (index_keys index)) ≡ true
        → is_some (zeros_at kept q) ≡ true
    by true same rest there = ap (λ key. is_some (zeros_at kept key))
        (exact_bytes q e.1 (equal_from _ same)) ∙ ap is_some are.0
    by false other rest there = rest there

any-weaker : {X : Type 0} (p r : X → Bool) → ((x : X) → p x ≡ true → r x ≡ true) → (xs : List X)
    → list_any p xs ≡ true → list_any r xs ≡ true
any-weaker p r weaker [] there = cc
any-weaker p r weaker (x ∷ xs) there = by (p x) refl (any-weaker p r weaker xs) there
  where
    by : (b : Bool) → p x ≡ b → (list_any p xs ≡ true → list_any r xs ≡ true)
        → (b || list_any p xs) ≡ true → (r x || list_any r xs) ≡ true
    by true is rest there = ap (λ b. b || list_any r xs) (weaker x is)
    by false is rest there = or_right (r x) (list_any r xs) (rest there)

keys_tell : (q : List ℕ) (index : List (ℕ × List ℕ)) → is_key_among q (index_keys index)
    ≡ list_any (λ e. same_key q e.1) index
unfolding index_keys
keys_tell q index = any-map (same_key q) (λ (e : ℕ × List ℕ). e.1) index

there_from : (kept : Entries) (q : List ℕ) (index : List (ℕ × List ℕ)) → IsIndexOf index kept
    → (zeros : Option ℕ) → zeros_at kept q ≡ zeros → is_some zeros ≡ true
    → is_key_among q (index_keys index) ≡ true
there_from kept q index indexed None is some = cc
there_from kept q index indexed (Some n) is some =
    let here : list_any (λ e. is_eq (entry_cmp (slice_cmp nat_cmp) (n, q) e)) index ≡ true =
    indexed (n, q) ∙ ap (λ zeros. is_number zeros n) is ∙ itself n in
    keys_tell q index
    ∙ any-weaker (λ e. is_eq (entry_cmp (slice_cmp nat_cmp) (n, q) e)) (λ e. same_key q e.1)
    (λ e at. second_tied (nat_cmp n e.0) (slice_cmp nat_cmp q e.1) at) index here
  where
    itself : (n : ℕ) → (n == n) ≡ true
    itself n = grind (arith, nat_tests)

    second_tied : (a b : Ordering) → is_eq (ordering_then a b) ≡ true → is_eq b ≡ true
    second_tied Less b h = cc
    second_tied Equal b h = h
    second_tied Greater b h = cc

same_keys : (kept : Entries) (index : List (ℕ × List ℕ)) → IsIndexOf index kept → (q : List ℕ)
    → is_key_among q (index_keys index) ≡ is_key_among q (keys_of kept)
same_keys kept index indexed q =
    both_ways (is_key_among q (index_keys index)) (is_some (zeros_at kept q))
    (some_from kept q index (entries_kept index kept indexed))
    (there_from kept q index indexed (zeros_at kept q) refl)
    ∙ is_some-lookup (is_at (slice_cmp nat_cmp q)) kept

-- a walk over an index finds the first keys of the ranking
pub found_is : (n : ℕ) (living value : List ℕ → ℕ) (index : List (ℕ × List ℕ)) (kept : Entries)
    → IsIndexOf index kept → IsByKey kept → IsInOrder (slice_cmp nat_cmp) index
    → found living value n [] index ≡ first_ranked n living value (keys_of kept)
unfolding lives
found_is n living value index kept indexed by_key ordered =
    let keys = index_keys index in
    let p = lives living in
    ap (λ l. take n (put_all [] l)) (worth_is living value index)
    ∙ ap (take n)
    (same_ranking value (filter p keys) (filter p (keys_of kept))
    (distinct-filter p keys (distinct_index kept index ordered
    (entries_kept index kept indexed)))
    (distinct-filter p (keys_of kept) (IsDistinct-from_sorted (slice_cmp nat_cmp)
    (keys_of kept) by_key))
    (λ q. among-filter (slice_cmp nat_cmp) nat_list_cmp_total exact_bytes q p keys
    ∙ ap (λ b. b && p q) (same_keys kept index indexed q)
    ∙ sym (among-filter (slice_cmp nat_cmp) nat_list_cmp_total exact_bytes q p (keys_of kept))))
