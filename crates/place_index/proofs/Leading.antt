-- An index as its places and what leads to them change.
use Rattle.std.proofs.Common.{◌≡◌, ℕ, zero, suc, ◌≤◌, List, [], ◌∷◌, length, Some, None}
use Rattle.std.proofs.Common.{Option}
use Rattle.std.proofs.Common.{refl, ap, sym, ◌∙◌, subst, arith, Ordering, inl}
use Rattle.std.proofs.Common.{inr}
use Rattle.std.proofs.lemmas.Bool.{cases_eq}
use Rattle.std.proofs.lemmas.List.{get_or-set_other, get_or_past}
use Rattle.std.proofs.lemmas.Option.{none-some, same_Some}
use Rattle.std.specs.Option.{option_map}
use Rattle.std.specs.Prelude.{slice_set, slice_index_or, IfNone}
use Rattle.place_index.specs.Places.{item_at, key_at, laid, revalued, IsAbsent}
use Rattle.place_index.specs.Reach.{Leads, IsIndex}
use Rattle.place_index.specs.declared.reach.Reach.{Reach}
use Rattle.place_index.proofs.Held.{empty_again}

pub laid_same : {X : Type 0} (xs : List X) (at : ℕ) (x d : X) → at ≤ length xs
    → slice_index_or (laid xs at x) at d ≡ x
laid_same [] zero x d within = refl
laid_same [] (suc at) x d within = absurd (omega arith)
laid_same (y ∷ xs) zero x d within = refl
laid_same (y ∷ xs) (suc at) x d within = laid_same xs at x d (omega arith)

pub laid_other : {X : Type 0} (xs : List X) (at q : ℕ) (x d : X) → at ≤ length xs → (q ≡ at → ⊥)
    → slice_index_or (laid xs at x) q d ≡ slice_index_or xs q d
laid_other [] zero zero x d within other = absurd (other refl)
laid_other [] zero (suc q) x d within other =
    get_or_past (x ∷ []) (suc q) d (omega arith) ∙ sym (get_or_past [] (suc q) d (omega arith))
laid_other [] (suc at) q x d within other = absurd (omega arith)
laid_other (y ∷ xs) zero zero x d within other = absurd (other refl)
laid_other (y ∷ xs) zero (suc q) x d within other = refl
laid_other (y ∷ xs) (suc at) zero x d within other = refl
laid_other (y ∷ xs) (suc at) (suc q) x d within other =
    laid_other xs at q x d (omega arith) (λ e. other (ap suc e))

-- what leads to filled places may change as long as it still leads there
pub index-kept : {K V : Type 0} {cmp : K → K → Ordering} {hashed : K → ℕ}
    (old new : Reach K) (places : List (Option (K × V))) → IsIndex cmp hashed old places
    → ((k : K) (q : ℕ) → key_at places q ≡ Some k → Leads cmp hashed old k q
    → Leads cmp hashed new k q)
    → IsIndex cmp hashed new places
index-kept old new places was keeps =
    record {
      distinct = was.distinct;
      reached = λ q k is. keeps k q is (was.reached q k is);
    }

-- a key is laid down, and its place is led to
pub index-laid : {K V : Type 0} {cmp : K → K → Ordering} {hashed : K → ℕ}
    (old new : Reach K) (places : List (Option (K × V))) (at : ℕ) (key : K) (value : V)
    → IsIndex cmp hashed old places → IsAbsent places key → at ≤ length places
    → Leads cmp hashed new key at
    → ((k : K) (q : ℕ) → (k ≡ key → ⊥) → Leads cmp hashed old k q → Leads cmp hashed new k q)
    → IsIndex cmp hashed new (laid places at (Some (key, value)))
index-laid {K} {V} {cmp} {hashed} old new places at key value was absent within leads keeps =
    let here : key_at (laid places at (Some (key, value))) at ≡ Some key =
    ap (option_map (λ (i : K × V). i.0)) (laid_same places at (Some (key, value)) None within)
    in
    let there : (q : ℕ) (k : K) → (q ≡ at → ⊥)
    → key_at (laid places at (Some (key, value))) q ≡ Some k → key_at places q ≡ Some k =
    λ q k other is.
    ap (option_map (λ (i : K × V). i.0))
    (sym (laid_other places at q (Some (key, value)) None within other)) ∙ is in
    let newest : (q : ℕ) (k : K) → q ≡ at
    → key_at (laid places at (Some (key, value))) q ≡ Some k → key ≡ k =
    λ q k e is.
    same_Some key k (sym here
    ∙ ap (λ n. key_at (laid places at (Some (key, value))) n) (sym e) ∙ is) in
    record {
      distinct = λ p q k one two.
          elim (cases_eq p at) [
            | inl e ↦ elim (cases_eq q at) [
              | inl f ↦ e ∙ sym f
              | inr f ↦ absurd (absent q
                  (there q k f two ∙ ap Some (sym (newest p k e one))))
            ]
            | inr e ↦ elim (cases_eq q at) [
              | inl f ↦ absurd (absent p
                  (there p k e one ∙ ap Some (sym (newest q k f two))))
              | inr f ↦ was.distinct p q k (there p k e one) (there q k f two)
            ]
          ];
      reached = λ q k is.
          elim (cases_eq q at) [
            | inl e ↦
                subst (λ x. Leads cmp hashed new x q) (newest q k e is)
                (subst (λ n. Leads cmp hashed new key n) (sym e) leads)
            | inr e ↦
                keeps k q (λ f. absent q (there q k e is ∙ ap Some f))
                (was.reached q k (there q k e is))
          ];
    }

pub emptied_same : {K V : Type 0} (places : List (Option (K × V))) (at : ℕ)
    → item_at (slice_set places at None) at ≡ None
emptied_same [] zero = refl
emptied_same [] (suc at) = refl
emptied_same (x ∷ places) zero = refl
emptied_same (x ∷ places) (suc at) = emptied_same places at

-- a place is emptied
pub index-emptied : {K V : Type 0} {cmp : K → K → Ordering} {hashed : K → ℕ}
    (old new : Reach K) (places : List (Option (K × V))) (at : ℕ) (key : K)
    → IsIndex cmp hashed old places → key_at places at ≡ Some key
    → ((k : K) (q : ℕ) → (k ≡ key → ⊥) → (q ≡ at → ⊥) → Leads cmp hashed old k q
    → Leads cmp hashed new k q)
    → IsIndex cmp hashed new (slice_set places at None)
index-emptied {K} {V} {cmp} {hashed} old new places at key was held keeps =
    let none : key_at (slice_set places at None) at ≡ None =
    ap (option_map (λ (i : K × V). i.0)) (emptied_same places at) in
    let apart : (q : ℕ) (k : K) → key_at (slice_set places at None) q ≡ Some k → q ≡ at → ⊥ =
    λ q k is e. none-some k (sym none
    ∙ ap (λ n. key_at (slice_set places at None) n) (sym e) ∙ is) in
    let there : (q : ℕ) (k : K) → key_at (slice_set places at None) q ≡ Some k
    → key_at places q ≡ Some k =
    λ q k is.
    ap (option_map (λ (i : K × V). i.0))
    (sym (get_or-set_other places at q None None (apart q k is))) ∙ is in
    record {
      distinct = λ p q k one two. was.distinct p q k (there p k one) (there q k two);
      reached = λ q k is.
          keeps k q
          (λ e. apart q k is (was.distinct q at key
          (there q k is ∙ ap Some e) held))
          (apart q k is) (was.reached q k (there q k is));
    }

-- nothing is emptied where nothing lies
pub index-still : {K V : Type 0} {cmp : K → K → Ordering} {hashed : K → ℕ}
    (reach : Reach K) (places : List (Option (K × V))) (at : ℕ)
    → IsIndex cmp hashed reach places → item_at places at ≡ None
    → IsIndex cmp hashed reach (slice_set places at None)
index-still {K} {V} {cmp} {hashed} reach places at was none =
    subst (λ p. IsIndex cmp hashed reach p) (empty_again places at none) was

key_of_revalued : {K V : Type 0} (item : Option (K × V)) (value : V)
    → option_map (λ (i : K × V). i.0) (option_map (λ (i : K × V). (i.0, value)) item)
    ≡ option_map (λ (i : K × V). i.0) item
key_of_revalued None value = refl
key_of_revalued (Some i) value = refl

pub key_at-revalued : {K V : Type 0} (places : List (Option (K × V))) (at : ℕ) (value : V) (q : ℕ)
    → key_at (revalued places at value) q ≡ key_at places q
key_at-revalued [] at value q = refl
key_at-revalued (x ∷ places) zero value zero = key_of_revalued x value
key_at-revalued (x ∷ places) zero value (suc q) = refl
key_at-revalued (x ∷ places) (suc at) value zero = refl
key_at-revalued (x ∷ places) (suc at) value (suc q) = key_at-revalued places at value q

pub if_none : {X P Q : Type 0} (r : Option X) → IfNone r P → (P → Q) → IfNone r Q
if_none None p f = f p
if_none (Some x) p f = tt

pub if_none_at : {X P : Type 0} (r : Option X) → IfNone r P → r ≡ None → P
if_none_at None p is = p
if_none_at (Some x) p is = absurd (none-some x (sym is))

-- a place has another value
pub index-revalued : {K V : Type 0} {cmp : K → K → Ordering} {hashed : K → ℕ}
    (reach : Reach K) (places : List (Option (K × V))) (at : ℕ) (value : V)
    → IsIndex cmp hashed reach places → IsIndex cmp hashed reach (revalued places at value)
index-revalued {K} {V} reach places at value was =
    let same : (q : ℕ) → key_at (revalued places at value) q ≡ key_at places q =
    key_at-revalued places at value in
    record {
      distinct = λ p q k one two.
          was.distinct p q k (sym (same p) ∙ one) (sym (same q) ∙ two);
      reached = λ q k is. was.reached q k (sym (same q) ∙ is);
    }
