-- A list that is sorted, right and has all other keys behind it is the beginning of the ranking.
use Rattle.std.proofs.Common.{◌≡◌, ℕ, ◌≤◌, Bool, true, false, cond, not, ◌&&◌, ◌||◌, ◌==◌, List, []}
use Rattle.std.proofs.Common.{◌∷◌, ◌++◌, length, map, min, take, suc, refl, sym, ap, ◌∙◌, subst, T}
use Rattle.std.proofs.Common.{arith}
use Rattle.std.proofs.lemmas.Bool.{and_from, and_parts, eqb-true}
use Rattle.std.proofs.lemmas.Cmp.{tied_itself}
use Rattle.std.proofs.lemmas.Map.Lookups.{exact_bytes}
use Rattle.std.proofs.lemmas.List.{length-map, take_min}
use Rattle.std.proofs.lemmas.List.Elements.{recursion_from_All}
use Rattle.std.proofs.lemmas.List.Kept.{IsStrictlySortedBy-filter}
use Rattle.std.specs.Cmp.{IsTotalOrder}
use Rattle.std.specs.List.{All, AllByRecursion, filter, list_any}
use Rattle.std.specs.List.Sorted.{IsStrictlySortedBy}
use Rattle.std.specs.Ordering.{is_eq, is_lt}
use Rattle.std.specs.declared.cmp.Ordering.{Ordering}
use Rattle.std.specs.declared.cmp.Ordering.TheVariants.{Less, Equal}
use Rattle.agg_types.specs.declared.column.Col.{Col}
use Rattle.agg_types.specs.declared.config.Rank.{Rank}
use Rattle.fleet_model.proofs.Entries.{equal_from}
use Rattle.fleet_model.proofs.Every.{every-map}
use Rattle.fleet_model.proofs.Members.{among, among-filter, same_members}
use Rattle.fleet_model.proofs.Ranks.{entry_among, rank_cmp_exact, rank_cmp_total, rankings}
use Rattle.fleet_model.proofs.Ranks.{value_in}
use Rattle.fleet_model.specs.Answers.{keys_of}
use Rattle.fleet_model.specs.Laws.{IsOrdered, IsRankingStart, has_live_row, is_key_among}
use Rattle.fleet_model.specs.Ranking.{in_order, put_in_order, rank_cmp, ranked, ranking, with_value}
use Rattle.fleet_model.specs.State.{State}
use Rattle.fleet_model.specs.Values.{same_key}

-- ---- a front and what is behind it
any-append : {X : Type 0} (p : X → Bool) (xs ys : List X)
    → list_any p (xs ++ ys) ≡ (list_any p xs || list_any p ys)
any-append p [] ys = refl
any-append p (x ∷ xs) ys = ap (λ b. p x || b) (any-append p xs ys)
    ∙ joined (p x) (list_any p xs) (list_any p ys)
  where
    joined : (a b c : Bool) → (a || (b || c)) ≡ ((a || b) || c)
    joined true b c = refl
    joined false b c = refl

every-append : {X : Type 0} (P : X → Type 0) (xs ys : List X) → AllByRecursion P xs
    → AllByRecursion P ys → AllByRecursion P (xs ++ ys)
every-append P [] ys g h = h
every-append P (x ∷ xs) ys g h = (g.0, every-append P xs ys g.1 h)

-- each item of the front is below each behind
abbrev AllBelow : {X : Type 0} → (X → X → Ordering) → List X → List X → Type 0
AllBelow R xs ys = AllByRecursion (λ x. AllByRecursion (λ y. R x y ≡ Less) ys) xs

sorted-append : {X : Type 0} (R : X → X → Ordering) (xs ys : List X) → IsStrictlySortedBy R xs
    → IsStrictlySortedBy R ys → AllBelow R xs ys → IsStrictlySortedBy R (xs ++ ys)
unfolding IsStrictlySortedBy
sorted-append R [] ys g h below = h
sorted-append R (x ∷ xs) ys g h below = (
  every-append (λ y. R x y ≡ Less) xs ys g.0 below.0,
  sorted-append R xs ys g.1 h below.1,
)

take-front : {X : Type 0} (xs ys : List X) → take (length xs) (xs ++ ys) ≡ xs
take-front [] ys = refl
take-front (x ∷ xs) ys = ap (λ rest. x ∷ rest) (take-front xs ys)

module _ {X : Type 0} (R : X → X → Ordering) (o : IsTotalOrder R) (exact : (x y : X) → R x y ≡ Equal
    → x ≡ y) where
  -- what is left of a list without a front
  abbrev behind_of : List X → List X → List X
  behind_of front xs = filter (λ x. not (among R x front)) xs

  front_is : (front xs : List X) → IsStrictlySortedBy R front → IsStrictlySortedBy R xs
      → ((q : X) → among R q front ≡ true → among R q xs ≡ true)
      → AllBelow R front (behind_of front xs) → front ≡ take (length front) xs
  front_is front xs g h there below =
      let whole : front ++ behind_of front xs ≡ xs =
      same_members R o exact (front ++ behind_of front xs) xs
      (sorted-append R front (behind_of front xs) g
      (IsStrictlySortedBy-filter R (λ x. not (among R x front)) xs h) below) h
      (λ q. any-append (λ x. is_eq (R q x)) front (behind_of front xs)
      ∙ ap (λ b. among R q front || b) (among-filter R o exact q (λ x. not (among R x front)) xs)
      ∙ either (among R q front) (among R q xs) (there q)) in
      sym (take-front front (behind_of front xs)) ∙ ap (take (length front)) whole
    where
      either : (a b : Bool) → (a ≡ true → b ≡ true) → (a || (b && not a)) ≡ b
      either true b e = sym (e refl)
      either false true e = refl
      either false false e = refl

-- ---- the ranking's
abbrev Entries : Type 0
Entries = List (List ℕ × ℕ)

-- what holds of each member holds of each that a filter keeps
kept_members : (P : List ℕ × ℕ → Type 0) (p : List ℕ × ℕ → Bool) (xs : Entries)
    → ((e : List ℕ × ℕ) → among rank_cmp e xs ≡ true → p e ≡ true → P e)
    → AllByRecursion P (filter p xs)
kept_members P p [] h = tt
kept_members P p (x ∷ xs) h =
    let rest : AllByRecursion P (filter p xs) =
    kept_members P p xs (λ e there. h e (ap (λ b. is_eq (rank_cmp e x) || b) there
    ∙ or_true (is_eq (rank_cmp e x)))) in
    elim (p x) as (λ b. p x ≡ b → AllByRecursion P (cond b (x ∷ filter p xs) (filter p xs))) [
      | true ↦ λ keeps. (
        h x (ap (λ b. b || among rank_cmp x xs)
            (ap is_eq (tied_itself rank_cmp_total x))) keeps,
        rest,
      )
      | false ↦ λ drops. rest
    ] refl
  where
    or_true : (a : Bool) → (a || true) ≡ true
    or_true true = refl
    or_true false = refl

-- each entry below one is a row of a table of which the columns are swapped
swap_all : (front behind : Entries)
    → AllByRecursion (λ y. AllByRecursion (λ x. rank_cmp x y ≡ Less) front) behind
    → AllByRecursion (λ x. AllByRecursion (λ y. rank_cmp x y ≡ Less) behind) front
swap_all [] behind h = tt
swap_all (x ∷ xs) behind h = (
  every-map (λ y. AllByRecursion (λ z. rank_cmp z y ≡ Less) (x ∷ xs)) (λ y. rank_cmp x y ≡ Less)
      (λ y all. all.0) behind h,
  swap_all xs behind (every-map (λ y. AllByRecursion (λ z. rank_cmp z y ≡ Less) (x ∷ xs))
      (λ y. AllByRecursion (λ z. rank_cmp z y ≡ Less) xs) (λ y all. all.1) behind h),
)

-- a key of the front lives
front_lives : (live : List ℕ → Bool) (q : List ℕ) (front : Entries)
    → AllByRecursion (λ e. live e.0 ≡ true) front → is_key_among q (map (λ e. e.0) front) ≡ true
    → live q ≡ true
front_lives live q [] h there = cc
front_lives live q (e ∷ es) h there =
    elim (same_key q e.0) as (λ b. same_key q e.0 ≡ b → (b || is_key_among q (map (λ e. e.0) es))
    ≡ true → live q ≡ true) [
      | true ↦ λ same _. ap live (exact_bytes q e.0 (equal_from _ same)) ∙ h.0
      | false ↦ λ other there. front_lives live q es h.1 there
    ] refl there

abbrev HasValue : State → ℕ → Col → List ℕ × ℕ → Type 0
HasValue state table col e = e.1 ≡ value_in state table col e.0

pub start-is : (state : State) (table : ℕ) (col : Col) (entries : Entries) → IsOrdered state
    → IsRankingStart state table col entries
    → entries ≡ take (length entries) (ranking state table col)
start-is state table col entries ordered h =
    let v = value_in state table col in
    let whole = rankings state table col ordered in
    let live : List ℕ → Bool = λ key. has_live_row state.rows table key state.moment in
    let own_values : AllByRecursion (HasValue state table col) entries =
    every-map (λ e. e ≡ with_value state table col e.0) (HasValue state table col)
    (λ e is. ap (λ (x : List ℕ × ℕ). x.1) is) entries
    (recursion_from_All (λ e. e ≡ with_value state table col e.0) entries h.values) in
    let all_values : AllByRecursion (HasValue state table col) (ranking state table col) =
    recursion_from_All (HasValue state table col) (ranking state table col) whole.values in
    let lives : AllByRecursion (λ e. live e.0 ≡ true) entries =
    recursion_from_All (λ (e : List ℕ × ℕ). live e.0 ≡ true) entries h.live in
    front_is rank_cmp rank_cmp_total rank_cmp_exact entries (ranking state table col) h.in_order
    whole.in_order
    (λ q there.
    let parts = and_parts (is_key_among q.0 (map (λ e. e.0) entries)) (v q.0 == q.1)
    (sym (entry_among v q entries own_values) ∙ there) in
    entry_among v q (ranking state table col) all_values
    ∙ and_from _ _ (whole.keys q.0 ∙ front_lives live q.0 entries lives parts.0) parts.1)
    (swap_all entries (filter (λ e. not (among rank_cmp e entries)) (ranking state table col))
    (kept_members (λ y. AllByRecursion (λ x. rank_cmp x y ≡ Less) entries)
    (λ e. not (among rank_cmp e entries)) (ranking state table col) (λ q there apart.
    let parts = and_parts (is_key_among q.0 (map (λ e. e.0) (ranking state table col)))
    (v q.0 == q.1) (sym (entry_among v q (ranking state table col) all_values) ∙ there) in
    let right : v q.0 ≡ q.1 = eqb-true (v q.0) q.1 parts.1 in
    let not_front : is_key_among q.0 (map (λ e. e.0) entries) ≡ false =
    absent_key (is_key_among q.0 (map (λ e. e.0) entries)) (v q.0 == q.1) (among rank_cmp q entries)
    parts.1 (entry_among v q entries own_values) apart in
    recursion_from_All (λ x. rank_cmp x q ≡ Less) entries
    (subst (λ (e : List ℕ × ℕ). All (λ x. rank_cmp x e ≡ Less) entries) (λ i. (q.0, right i))
    (h.behind q.0 (sym (whole.keys q.0) ∙ parts.0) not_front)))))
  where
    absent_key : (key value both : Bool) → value ≡ true → both ≡ (key && value)
        → not both ≡ true → key ≡ false
    absent_key true true both e is n = absurd (subst T (sym n ∙ ap not is) tt)
    absent_key true false both e is n = cc
    absent_key false value both e is n = refl

-- ---- and of the length that is asked
length-put : {X : Type 0} (cmp : X → X → Ordering) (x : X) (xs : List X)
    → length (put_in_order cmp x xs) ≡ suc (length xs)
length-put cmp x [] = refl
length-put cmp x (y ∷ ys) = elim (is_lt (cmp x y)) as
    (λ b. length (cond b (x ∷ y ∷ ys) (y ∷ put_in_order cmp x ys)) ≡ suc (suc (length ys))) [
      | true ↦
          refl
      | false ↦ ap suc (length-put cmp x ys)
    ]

length-in_order : {X : Type 0} (cmp : X → X → Ordering) (xs : List X)
    → length (in_order cmp xs) ≡ length xs
length-in_order cmp [] = refl
length-in_order cmp (x ∷ xs) = length-put cmp x (in_order cmp xs) ∙ ap suc (length-in_order cmp xs)

length-ranking : (state : State) (table : ℕ) (col : Col) → length (ranking state table col)
    ≡ length (keys_of state table)
unfolding ranking
length-ranking state table col =
    length-in_order rank_cmp (map (with_value state table col) (keys_of state table))
    ∙ length-map (keys_of state table) (with_value state table col)

pub start-of-ranked : (state : State) (rank : Rank) (entries : Entries) → IsOrdered state
    → IsRankingStart state rank.table rank.col entries
    → length entries ≡ min rank.n (length (keys_of state rank.table)) → entries ≡ ranked state rank
unfolding ranked
start-of-ranked state rank entries ordered h asked =
    start-is state rank.table rank.col entries ordered h
    ∙ ap (λ n. take n (ranking state rank.table rank.col)) (asked
    ∙ ap (min rank.n) (sym (length-ranking state rank.table rank.col)))
    ∙ take_min rank.n (ranking state rank.table rank.col)
