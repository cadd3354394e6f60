-- The places of keys, in the order of the keys.
use Rattle.std.proofs.Common.{◌≡◌, ℕ, zero, suc, ◌+◌, ◌≤◌, Bool, true, false, cond, List, []}
use Rattle.std.proofs.Common.{◌∷◌, arith, length}
use Rattle.std.proofs.Common.{Option, Some, None, refl, sym, ap, ◌∙◌, subst, inl, inr, ◌||◌}
use Rattle.std.specs.Prelude.{◌≢◌, IsSome, eqb, map, slice_set, unwrap_or}
use Rattle.std.specs.Option.{option_map}
use Rattle.std.proofs.lemmas.Bool.{cases_eq, eq-eqb, eqb-true, false≢true}
use Rattle.std.proofs.lemmas.List.{get_or-set_other, length-set}
use Rattle.std.proofs.lemmas.Option.{none-some, same_Some}
use Rattle.std.specs.Cmp.Lexicographic.{slice_cmp}
use Rattle.std.specs.List.{AllByRecursion, list_any}
use Rattle.std.specs.List.Sorted.{IsStrictlySortedBy}
use Rattle.std.specs.Map.{keys_of, lookup}
use Rattle.std.specs.Ordering.{is_eq, nat_cmp}
use Rattle.std.specs.declared.cmp.Ordering.TheVariants.{Equal}
use Rattle.place_index.specs.Places.{AreDistinct, IsAbsent, in_order, item_at, key_at, laid}
use Rattle.place_index.specs.Places.{revalued}
use Rattle.place_index.proofs.Leading.{emptied_same, key_at-revalued}
use Rattle.place_index.proofs.Ordered.{at_key, is_itself, lookup-absent, lookup-held, same_if_at}
use Rattle.place_index.proofs.Ordered.{same_keys, some_item, sorted-in_order, value_of_item}
use Rattle.place_order.specs.Orders.{AreByRank, HasOwnRank, IsInserted, by_rank, without}
use Rattle.place_order.proofs.Laws.{all_inserted, all_without, apart_without, by_rank_kept}
use Rattle.place_order.proofs.Laws.{by_rank_none, by_rank_to_map, member_inserted}
use Rattle.place_order.proofs.Laws.{member_without}
use Rattle.standing_filters.specs.Placed.{AreOrdered, VerdictPlaces, rank_in, verdict_in}
use Rattle.standing_filters.specs.Placed.{verdicts_in}
use Rattle.standing_filters.specs.Verdicts.{out}
use Rattle.standing_filters.specs.declared.judging.Verdict.{Verdict}
use Rattle.standing_filters.proofs.Placing.{key_of, laid_else, laid_here}

-- ---- lists
pub all_of : (P Q : ℕ → Type 0) (places : List ℕ) → ((p : ℕ) → P p → Q p)
    → AllByRecursion P places → AllByRecursion Q places
all_of P Q [] so all = tt
all_of P Q (p ∷ places) so all = (so p all.0, all_of P Q places so all.1)

all_two : (P Q : ℕ → Type 0) (places : List ℕ) → AllByRecursion P places
    → AllByRecursion Q places → AllByRecursion (λ p. P p × Q p) places
all_two P Q [] one other = tt
all_two P Q (p ∷ places) one other =
    ((one.0, other.0), all_two P Q places one.1 other.1)

or_true : (b : Bool) → (b || true) ≡ true
or_true true = refl
or_true false = refl

-- ---- what they list
keys_listed : (places : VerdictPlaces) (order : List ℕ)
    → keys_of (verdicts_in places order) ≡ map (rank_in places) order
keys_listed places [] = refl
keys_listed places (p ∷ order) = ap (λ keys. rank_in places p ∷ keys) (keys_listed places order)

key_there : (item : Option (List ℕ × Verdict)) → IsSome item
    → key_of item ≡ Some (unwrap_or (key_of item) [])
key_there None some = cc
key_there (Some item) some = refl

-- a key that isn't listed lies in no place that is
unlisted : (places : VerdictPlaces) (order : List ℕ) (key : List ℕ)
    → lookup (at_key key) (verdicts_in places order) ≡ None
    → (at : ℕ) → list_any (eqb at) order ≡ true → key_at places at ≢ Some key
unlisted places [] key none at any own = cc
unlisted places (p ∷ order) key none at any own =
    by (at_key key (rank_in places p)) (eqb at p) refl refl none any
    (λ none any. unlisted places order key none at any own)
  where
    by : (b c : Bool) → at_key key (rank_in places p) ≡ b → eqb at p ≡ c
        → cond b (Some (verdict_in places p)) (lookup (at_key key) (verdicts_in places order))
        ≡ None → (c || list_any (eqb at) order) ≡ true
        → (lookup (at_key key) (verdicts_in places order) ≡ None
        → list_any (eqb at) order ≡ true → ⊥) → ⊥
    by true c same is none any rest = none-some (verdict_in places p) (sym none)
    by false true same is none any rest =
        let here : rank_in places p ≡ key =
        ap (rank_in places) (sym (eqb-true at p is)) ∙ ap (λ k. unwrap_or k []) own in
        false≢true (sym same ∙ ap (at_key key) here ∙ is_itself key)
    by false false same is none any rest = rest none any

-- one that is lies in a place, with the verdict that is listed
pub record IsListed (places : VerdictPlaces) (key : List ℕ) (verdict : Verdict) : Type 0 where
  pub at : ℕ
  pub own : key_at places at ≡ Some key
  pub says : verdict_in places at ≡ verdict

listed : (places : VerdictPlaces) (order : List ℕ) (key : List ℕ) (verdict : Verdict)
    → AllByRecursion (λ at. IsSome (item_at places at)) order
    → lookup (at_key key) (verdicts_in places order) ≡ Some verdict
    → IsListed places key verdict
listed places [] key verdict filled is = cc
listed places (p ∷ order) key verdict filled is =
    by (at_key key (rank_in places p)) refl is (listed places order key verdict filled.1)
  where
    by : (b : Bool) → at_key key (rank_in places p) ≡ b
        → cond b (Some (verdict_in places p)) (lookup (at_key key) (verdicts_in places order))
        ≡ Some verdict
        → (lookup (at_key key) (verdicts_in places order) ≡ Some verdict
        → IsListed places key verdict) → IsListed places key verdict
    by true same is rest = record {
      at = p;
      own = key_there (item_at places p) filled.0
          ∙ ap Some (sym (same_if_at key (rank_in places p) same));
      says = same_Some (verdict_in places p) verdict is;
    }
    by false apart is rest = rest is

pub listed_order : (places : VerdictPlaces) (order : List ℕ) → AreOrdered places order
    → verdicts_in places order ≡ in_order places
listed_order places order are =
    same_keys (verdicts_in places order) (in_order places)
    (subst (λ keys. IsStrictlySortedBy (slice_cmp nat_cmp) keys) (sym (keys_listed places order))
    (by_rank_to_map (rank_in places) order are.by_key))
    (sorted-in_order places) (λ q. by q (lookup (at_key q) (verdicts_in places order)) refl)
  where
    by : (q : List ℕ) (found : Option Verdict)
        → lookup (at_key q) (verdicts_in places order) ≡ found
        → lookup (at_key q) (verdicts_in places order) ≡ lookup (at_key q) (in_order places)
    by q None none = none ∙ sym (lookup-absent places q (λ at own.
        unlisted places order q none at (are.all at (some_item (item_at places at) q own)) own))
    by q (Some verdict) is =
        let there = listed places order q verdict are.filled is in
        let value = value_of_item (item_at places there.at) q there.own in
        is ∙ ap Some (sym there.says)
        ∙ ap (λ (v : Option Verdict). Some (unwrap_or v out)) value.1
        ∙ sym (lookup-held places there.at q value.0 are.distinct there.own value.1)

-- ---- as a key comes
pub ordered_none : AreOrdered [] []
ordered_none = record {
  filled = tt;
  all = λ at some. cc;
  by_key = by_rank_none (rank_in []);
  distinct = λ p q key one other. cc;
}

none_there : (item : Option (List ℕ × Verdict)) → item ≡ None → IsSome item → ⊥
none_there None empty some = cc
none_there (Some item) empty some = cc

-- an empty place is filled
module _ (old : VerdictPlaces) (order : List ℕ) (at : ℕ) (key : List ℕ) (verdict : Verdict)
    (empty : item_at old at ≡ None) (within : at ≤ length old) (are : AreOrdered old order) where
  abbrev with_it : VerdictPlaces
  with_it = laid old at (Some (key, verdict))

  not_there : (p : ℕ) → IsSome (item_at old p) → p ≢ at
  not_there p some same =
      none_there (item_at old p) (ap (item_at old) same ∙ empty) some

  same_there : (p : ℕ) → IsSome (item_at old p) → item_at with_it p ≡ item_at old p
  same_there p some = laid_else old at key verdict empty within p (not_there p some)

  pub ranks_stay : AllByRecursion (λ p. rank_in with_it p ≡ rank_in old p) order
  ranks_stay = all_of (λ p. IsSome (item_at old p)) (λ p. rank_in with_it p ≡ rank_in old p) order
      (λ p some. ap (λ item. unwrap_or (key_of item) []) (same_there p some)) are.filled

  pub ranks_before : AreByRank (rank_in with_it) order
  ranks_before = by_rank_kept (rank_in old) (rank_in with_it) order ranks_stay are.by_key

  pub rank_own : IsAbsent old key → HasOwnRank (rank_in with_it) at order
  rank_own absent = all_of (λ p. IsSome (item_at old p))
      (λ p. by_rank (rank_in with_it) at p ≢ Equal) order apart are.filled
    where
      here : rank_in with_it at ≡ key
      here = ap (λ item. unwrap_or (key_of item) [])
          (laid_here old at key verdict empty within)

      apart : (p : ℕ) → IsSome (item_at old p) → by_rank (rank_in with_it) at p ≢ Equal
      apart p some tie =
          let there : rank_in with_it p ≡ rank_in old p =
          ap (λ item. unwrap_or (key_of item) []) (same_there p some) in
          let same : key ≡ rank_in old p =
          same_if_at key (rank_in old p) (ap is_eq ((λ i. slice_cmp nat_cmp (sym here i)
          (sym there i)) ∙ tie)) in
          absent p (key_there (item_at old p) some ∙ ap Some (sym same))

  pub ordered_laid : (after : List ℕ) → IsInserted at order after
      → AreByRank (rank_in with_it) after → AreDistinct with_it → AreOrdered with_it after
  ordered_laid after inserted by_key distinct = record {
    filled = all_inserted (λ p. IsSome (item_at with_it p)) at order after inserted
        (subst IsSome (sym (laid_here old at key verdict empty within)) refl)
        (all_of (λ p. IsSome (item_at old p)) (λ p. IsSome (item_at with_it p)) order
        (λ p some. subst IsSome (sym (same_there p some)) some) are.filled);
    all = λ p some. member_inserted p at order after inserted ∙ elim (cases_eq p at) [
      | inl same ↦ ap (λ b. b || list_any (eqb p) order) (eq-eqb p at same)
      | inr other ↦ ap (λ b. eqb p at || b)
          (are.all p (subst IsSome (laid_else old at key verdict empty within p other) some))
          ∙ or_true (eqb p at)
    ];
    by_key = by_key;
    distinct = distinct;
  }

-- ---- as one goes
module _ (old : VerdictPlaces) (order : List ℕ) (at : ℕ) (are : AreOrdered old order) where
  abbrev emptied : VerdictPlaces
  emptied = slice_set old at None

  else_there : (p : ℕ) → at ≢ p → item_at emptied p ≡ item_at old p
  else_there p other = get_or-set_other old at p None None (λ same. other (sym same))

  pub ordered_emptied : AreByRank (rank_in old) (without at order) → AreDistinct emptied
      → AreOrdered emptied (without at order)
  ordered_emptied sorted distinct = record {
    filled = all_of (λ p. IsSome (item_at old p) × (at ≢ p)) (λ p. IsSome (item_at emptied p))
        (without at order) (λ p both. subst IsSome (sym (else_there p both.1)) both.0) left;
    all = λ p some. elim (cases_eq p at) [
      | inl same ↦ absurd (none_there (item_at emptied p)
          (ap (item_at emptied) same ∙ emptied_same old at) some)
      | inr other ↦ member_without p at order other
          ∙ are.all p (subst IsSome (else_there p (λ same. other (sym same))) some)
    ];
    by_key = by_rank_kept (rank_in old) (rank_in emptied) (without at order)
        (all_of (λ p. IsSome (item_at old p) × (at ≢ p))
        (λ p. rank_in emptied p ≡ rank_in old p) (without at order)
        (λ p both. ap (λ item. unwrap_or (key_of item) []) (else_there p both.1)) left) sorted;
    distinct = distinct;
  }
    where
      left : AllByRecursion (λ p. IsSome (item_at old p) × (at ≢ p)) (without at order)
      left = all_two (λ p. IsSome (item_at old p)) (λ p. at ≢ p) (without at order)
          (all_without (λ p. IsSome (item_at old p)) at order are.filled)
          (apart_without at order)

-- ---- as a verdict takes another's place
module _ (old : VerdictPlaces) (order : List ℕ) (at : ℕ) (verdict : Verdict)
    (are : AreOrdered old order) where
  abbrev with_other : VerdictPlaces
  with_other = revalued old at verdict

  keys_stay : (p : ℕ) → key_at with_other p ≡ key_at old p
  keys_stay p = key_at-revalued old at verdict p

  some_stays : (p : ℕ) → IsSome (item_at old p) → IsSome (item_at with_other p)
  some_stays p some = some_item (item_at with_other p) (unwrap_or (key_at old p) [])
      (keys_stay p ∙ key_there (item_at old p) some)

  some_was : (p : ℕ) → IsSome (item_at with_other p) → IsSome (item_at old p)
  some_was p some = some_item (item_at old p) (unwrap_or (key_at with_other p) [])
      (sym (keys_stay p) ∙ key_there (item_at with_other p) some)

  pub ordered_revalued : AreDistinct with_other → AreOrdered with_other order
  ordered_revalued distinct = record {
    filled = all_of (λ p. IsSome (item_at old p)) (λ p. IsSome (item_at with_other p)) order
        some_stays are.filled;
    all = λ p some. are.all p (some_was p some);
    by_key = by_rank_kept (rank_in old) (rank_in with_other) order
        (all_of (λ p. IsSome (item_at old p)) (λ p. rank_in with_other p ≡ rank_in old p) order
        (λ p some. ap (λ key. unwrap_or key []) (keys_stay p)) are.filled) are.by_key;
    distinct = distinct;
  }

-- a place at most is new
pub length_laid : (old : VerdictPlaces) (at : ℕ) (item : Option (List ℕ × Verdict))
    → length (laid old at item) ≤ length old + 1
length_laid [] at item = omega arith
length_laid (x ∷ old) zero item = omega arith
length_laid (x ∷ old) (suc at) item = omega (length_laid old at item, arith)

pub length_revalued : (old : VerdictPlaces) (at : ℕ) (verdict : Verdict)
    → length (revalued old at verdict) ≡ length old
length_revalued old at verdict = length-set old at
    (option_map (λ (item : List ℕ × Verdict). (item.0, verdict)) (item_at old at))
