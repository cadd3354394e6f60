-- The ranking of a table's keys is the one list that its words describe.
use Rattle.std.proofs.Common.{◌≡◌, ℕ, Bool, true, false, cond, ◌&&◌, ◌||◌, ◌==◌, List, [], ◌∷◌, map}
use Rattle.std.proofs.Common.{T, refl, sym, ap, ◌∙◌, subst, arith}
use Rattle.std.proofs.lemmas.Bool.Decides.{nat_tests}
use Rattle.std.proofs.lemmas.Cmp.{back_total, nat_cmp_total, nat_list_cmp_total, on_total}
use Rattle.std.proofs.lemmas.Cmp.{then_total}
use Rattle.std.proofs.lemmas.List.Elements.{All-from_recursion, recursion_from_All}
use Rattle.std.proofs.lemmas.Map.Lookups.{exact_bytes, exact_unsigned}
use Rattle.std.specs.Cmp.{IsTotalOrder}
use Rattle.std.specs.Cmp.Lexicographic.{slice_cmp}
use Rattle.std.specs.List.{AllByRecursion, list_any}
use Rattle.std.specs.List.Sorted.{IsStrictlySortedBy}
use Rattle.std.specs.Ordering.{is_eq, is_lt, nat_cmp, ordering_reverse, ordering_then}
use Rattle.std.specs.declared.cmp.Ordering.{Ordering}
use Rattle.std.specs.declared.cmp.Ordering.TheVariants.{Less, Equal, Greater}
use Rattle.agg_types.specs.declared.column.Col.{Col}
use Rattle.fleet_model.proofs.Bools.{first_equal, second_equal}
use Rattle.fleet_model.proofs.Entries.{equal_from}
use Rattle.fleet_model.proofs.Members.{among, any-map, same_members}
use Rattle.fleet_model.proofs.Sets.{key_lists}
use Rattle.fleet_model.specs.Answers.{keys_of}
use Rattle.fleet_model.specs.Laws.{IsOrdered, IsRanking, is_key_among}
use Rattle.fleet_model.specs.Ranking.{in_order, put_in_order, rank_cmp, ranking}
use Rattle.fleet_model.specs.State.{State}
use Rattle.fleet_model.specs.Values.{cols_of, same_key, value}

pub any-put : {X : Type 0} (cmp : X → X → Ordering) (p : X → Bool) (x : X) (xs : List X)
    → list_any p (put_in_order cmp x xs) ≡ (p x || list_any p xs)
any-put cmp p x [] = refl
any-put cmp p x (y ∷ ys) =
    elim (is_lt (cmp x y)) as (λ b. list_any p (cond b (x ∷ y ∷ ys) (y ∷ put_in_order cmp x ys))
    ≡ (p x || (p y || list_any p ys))) [
      | true ↦ refl
      | false ↦ ap (λ b. p y || b) (any-put cmp p x ys) ∙ swapped (p y) (p x) (list_any p ys)
    ]
  where
    swapped : (a b c : Bool) → (a || (b || c)) ≡ (b || (a || c))
    swapped true true c = refl
    swapped true false c = refl
    swapped false b c = refl

pub any-in_order : {X : Type 0} (cmp : X → X → Ordering) (p : X → Bool) (xs : List X)
    → list_any p (in_order cmp xs) ≡ list_any p xs
any-in_order cmp p [] = refl
any-in_order cmp p (x ∷ xs) = any-put cmp p x (in_order cmp xs)
    ∙ ap (λ b. p x || b) (any-in_order cmp p xs)

pub all-put : {X : Type 0} (cmp : X → X → Ordering) (P : X → Type 0) (x : X) (xs : List X) → P x
    → AllByRecursion P xs → AllByRecursion P (put_in_order cmp x xs)
all-put cmp P x [] here h = (here, tt)
all-put cmp P x (y ∷ ys) here h =
    elim (is_lt (cmp x y)) as (λ b. AllByRecursion P
    (cond b (x ∷ y ∷ ys) (y ∷ put_in_order cmp x ys))) [
      | true ↦ (here, h)
      | false ↦ (h.0, all-put cmp P x ys here h.1)
    ]

all-in_order : {X : Type 0} (cmp : X → X → Ordering) (P : X → Type 0) (xs : List X)
    → AllByRecursion P xs → AllByRecursion P (in_order cmp xs)
all-in_order cmp P [] h = tt
all-in_order cmp P (x ∷ xs) h = all-put cmp P x (in_order cmp xs) h.0 (all-in_order cmp P xs h.1)

-- no two items tie
abbrev pub Untied : {X : Type 0} → (X → X → Ordering) → List X → Type 0
Untied cmp [] = Unit {0}
Untied cmp (x ∷ xs) = AllByRecursion (λ y. is_eq (cmp x y) ≡ false) xs × Untied cmp xs

less_from : (r : Ordering) → is_lt r ≡ true → r ≡ Less
less_from Less h = refl
less_from Equal h = absurd (subst T (sym h) tt)
less_from Greater h = absurd (subst T (sym h) tt)

greater_from : (r : Ordering) → is_lt r ≡ false → is_eq r ≡ false → r ≡ Greater
greater_from Less h g = absurd (subst T h tt)
greater_from Equal h g = absurd (subst T g tt)
greater_from Greater h g = refl

less_along : {X : Type 0} {cmp : X → X → Ordering} (o : IsTotalOrder cmp) (x y : X) (ys : List X)
    → cmp x y ≡ Less → AllByRecursion (λ z. cmp y z ≡ Less) ys
    → AllByRecursion (λ z. cmp x z ≡ Less) ys
less_along o x y [] less h = tt
less_along o x y (z ∷ zs) less h = (o.trans x y z less h.0, less_along o x y zs less h.1)

pub sorted-put : {X : Type 0} {cmp : X → X → Ordering} (o : IsTotalOrder cmp) (x : X) (xs : List X)
    → AllByRecursion (λ y. is_eq (cmp x y) ≡ false) xs → IsStrictlySortedBy cmp xs
    → IsStrictlySortedBy cmp (put_in_order cmp x xs)
unfolding IsStrictlySortedBy
sorted-put o x [] apart h = (tt, tt)
sorted-put {cmp = cmp} o x (y ∷ ys) apart h =
    elim (is_lt (cmp x y)) as (λ b. is_lt (cmp x y) ≡ b
    → IsStrictlySortedBy cmp (cond b (x ∷ y ∷ ys) (y ∷ put_in_order cmp x ys))) [
      | true ↦ λ lt. ((less_from (cmp x y) lt, less_along o x y ys (less_from (cmp x y) lt) h.0), h)
      | false ↦ λ not_lt.
          let less : cmp y x ≡ Less = o.antisymm y x
          ∙ ap ordering_reverse (greater_from (cmp x y) not_lt apart.0) in
          (all-put cmp (λ z. cmp y z ≡ Less) x ys less h.0, sorted-put o x ys apart.1 h.1)
    ] refl

pub sorted-in_order : {X : Type 0} {cmp : X → X → Ordering} (o : IsTotalOrder cmp) (xs : List X)
    → Untied cmp xs → IsStrictlySortedBy cmp (in_order cmp xs)
unfolding IsStrictlySortedBy
sorted-in_order o [] apart = tt
sorted-in_order {cmp = cmp} o (x ∷ xs) apart =
    sorted-put o x (in_order cmp xs) (all-in_order cmp (λ y. is_eq (cmp x y) ≡ false) xs apart.0)
    (sorted-in_order o xs apart.1)

-- ---- keys with their values
pub rank_cmp_total : IsTotalOrder rank_cmp
rank_cmp_total =
    then_total (on_total (λ (e : List ℕ × ℕ). e.1) (back_total nat_cmp_total))
    (on_total (λ (e : List ℕ × ℕ). e.0) nat_list_cmp_total)

pub rank_cmp_exact : (a b : List ℕ × ℕ) → rank_cmp a b ≡ Equal → a ≡ b
rank_cmp_exact a b e =
    let values : b.1 ≡ a.1 = exact_unsigned b.1 a.1 (first_equal (nat_cmp b.1 a.1) _ e) in
    let keys : a.0 ≡ b.0 = exact_bytes a.0 b.0 (second_equal (nat_cmp b.1 a.1) _ e) in
    λ i. (keys i, sym values i)

not_tied : (a b : Ordering) → b ≡ Less → is_eq (ordering_then a b) ≡ false
not_tied Less b e = refl
not_tied Equal b e = ap is_eq e
not_tied Greater b e = refl

untied_later : (v : List ℕ → ℕ) (key : List ℕ) (keys : List (List ℕ))
    → AllByRecursion (λ other. slice_cmp nat_cmp key other ≡ Less) keys
    → AllByRecursion (λ e. is_eq (rank_cmp (key, v key) e) ≡ false) (map (λ key. (key, v key)) keys)
untied_later v key [] h = tt
untied_later v key (other ∷ keys) h = (
  not_tied (nat_cmp (v other) (v key)) (slice_cmp nat_cmp key other) h.0,
  untied_later v key keys h.1,
)

untied : (v : List ℕ → ℕ) (keys : List (List ℕ)) → IsStrictlySortedBy (slice_cmp nat_cmp) keys
    → Untied rank_cmp (map (λ key. (key, v key)) keys)
unfolding IsStrictlySortedBy
untied v [] h = tt
untied v (key ∷ keys) h = (untied_later v key keys h.0, untied v keys h.1)

valued : (v : List ℕ → ℕ) (keys : List (List ℕ)) → AllByRecursion (λ (e : List ℕ × ℕ). e.1 ≡ v e.0)
    (map (λ key. (key, v key)) keys)
valued v [] = tt
valued v (key ∷ keys) = (refl, valued v keys)

abbrev pub value_in : State → ℕ → Col → List ℕ → ℕ
value_in state table col key = value (cols_of state.config.tables table) state.rows table key
    col state.moment

pub rankings : (state : State) (table : ℕ) (col : Col) → IsOrdered state
    → IsRanking state table col (ranking state table col)
unfolding ranking
rankings state table col h =
    let v = value_in state table col in
    let keys = keys_of state table in
    let list = key_lists state table h in
    record {
      in_order = sorted-in_order rank_cmp_total (map (λ key. (key, v key)) keys)
          (untied v keys list.in_order);
      keys = λ key. any-map (same_key key) (λ (e : List ℕ × ℕ). e.0)
          (in_order rank_cmp (map (λ key. (key, v key)) keys))
          ∙ any-in_order rank_cmp (λ (e : List ℕ × ℕ). same_key key e.0)
          (map (λ key. (key, v key)) keys)
          ∙ any-map (λ (e : List ℕ × ℕ). same_key key e.0) (λ key. (key, v key)) keys
          ∙ list.exact key;
      values = All-from_recursion (λ (e : List ℕ × ℕ). e.1 ≡ v e.0)
          (in_order rank_cmp (map (λ key. (key, v key)) keys))
          (all-in_order rank_cmp (λ (e : List ℕ × ℕ). e.1 ≡ v e.0) (map (λ key. (key, v key)) keys)
          (valued v keys));
    }

-- ---- there is no other
pub tied_parts : (a b : Ordering) → is_eq (ordering_then a b) ≡ (is_eq a && is_eq b)
tied_parts Less b = refl
tied_parts Equal b = refl
tied_parts Greater b = refl

is_eq_nat : (a b : ℕ) → is_eq (nat_cmp a b) ≡ (a == b)
is_eq_nat a b = grind (arith, nat_tests)

tied_entry : (v : List ℕ → ℕ) (q e : List ℕ × ℕ) → e.1 ≡ v e.0
    → is_eq (rank_cmp q e) ≡ (same_key q.0 e.0 && (v q.0 == q.1))
tied_entry v q e is =
    tied_parts (nat_cmp e.1 q.1) (slice_cmp nat_cmp q.0 e.0)
    ∙ ap (λ b. b && same_key q.0 e.0) (is_eq_nat e.1 q.1 ∙ ap (λ n. n == q.1) is)
    ∙ turned (same_key q.0 e.0) (v e.0 == q.1) (v q.0 == q.1)
    (λ t. ap (λ key. v key == q.1) (sym (exact_bytes q.0 e.0 (equal_from _ t))))
  where
    turned : (same a b : Bool) → (same ≡ true → a ≡ b) → (a && same) ≡ (same && b)
    turned true true b h = h refl
    turned true false b h = h refl
    turned false true b h = refl
    turned false false b h = refl

pub entry_among : (v : List ℕ → ℕ) (q : List ℕ × ℕ) (es : List (List ℕ × ℕ))
    → AllByRecursion (λ (e : List ℕ × ℕ). e.1 ≡ v e.0) es
    → among rank_cmp q es ≡ (is_key_among q.0 (map (λ e. e.0) es) && (v q.0 == q.1))
entry_among v q [] h = refl
entry_among v q (e ∷ es) h =
    (λ i. tied_entry v q e h.0 i || entry_among v q es h.1 i)
    ∙ shared (same_key q.0 e.0) (is_key_among q.0 (map (λ e. e.0) es)) (v q.0 == q.1)
  where
    shared : (a b c : Bool) → ((a && c) || (b && c)) ≡ ((a || b) && c)
    shared true true true = refl
    shared true true false = refl
    shared true false true = refl
    shared true false false = refl
    shared false b c = refl

pub only_ranking : (state : State) (table : ℕ) (col : Col) (entries others : List (List ℕ × ℕ))
    → IsRanking state table col entries → IsRanking state table col others → entries ≡ others
only_ranking state table col entries others g h =
    let v = value_in state table col in
    same_members rank_cmp rank_cmp_total rank_cmp_exact entries others g.in_order h.in_order
    (λ q. entry_among v q entries (recursion_from_All (λ (e : List ℕ × ℕ). e.1 ≡ v e.0)
    entries g.values)
    ∙ ap (λ b. b && (v q.0 == q.1)) (g.keys q.0 ∙ sym (h.keys q.0))
    ∙ sym (entry_among v q others (recursion_from_All (λ (e : List ℕ × ℕ). e.1 ≡ v e.0)
    others h.values)))
