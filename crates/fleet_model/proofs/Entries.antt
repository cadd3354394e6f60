-- Lists of entries in the order of their keys: what a look-up finds after each change, and that
-- equal look-ups make equal lists.
use Rattle.std.proofs.Common.{◌≡◌, Bool, true, false, cond, not, ◌&&◌, List, [], ◌∷◌, Option, None}
use Rattle.std.proofs.Common.{Some, T, is_some, refl, sym, ap, ◌∙◌, subst}
use Rattle.std.proofs.lemmas.Bool.{and_parts, and_from}
use Rattle.std.specs.BTreeMap.{insert_entry, is_at}
use Rattle.std.specs.Bool.{then_some}
use Rattle.std.specs.Cmp.{IsTotalOrder, eq_by_cmp_equiv}
use Rattle.std.specs.FinMap.Entries.{find, put, is_sorted, below_all, by_order, find-put}
use Rattle.std.specs.FinMap.Entries.{is_sorted-put, same_entries}
use Rattle.std.specs.List.{filter, fold, list_all}
use Rattle.std.specs.Map.{lookup, remove_entry}
use Rattle.std.specs.Ordering.{is_eq, is_lt, match_ordering}
use Rattle.std.specs.declared.cmp.Ordering.{Ordering}
use Rattle.std.specs.declared.cmp.Ordering.TheVariants.{Less, Equal, Greater}
use Rattle.fleet_model.proofs.Bools.{both, first, second}

-- what an option holds, if it passes a test
abbrev pub keep : {X : Type 0} → (X → Bool) → Option X → Option X
keep f None = None
keep f (Some x) = then_some (f x) x

pub equal_from : (r : Ordering) → is_eq r ≡ true → r ≡ Equal
equal_from Less e = absurd (subst T (sym e) tt)
equal_from Equal e = refl
equal_from Greater e = absurd (subst T (sym e) tt)

not_equal : (r : Ordering) → T (is_lt r) → is_eq r ≡ false
not_equal Less p = refl
not_equal Equal p = absurd p
not_equal Greater p = absurd p

pub kept_here : {X : Type 0} (f : X → Bool) (b : Bool) (v : X) (o : Option X)
    → (b ≡ true → f v ≡ true) → keep f (cond b (Some v) o) ≡ cond b (Some v) (keep f o)
kept_here f true v o h = ap (λ c. then_some c v) (h refl)
kept_here f false v o h = refl

kept_gone : {X : Type 0} (f : X → Bool) (b : Bool) (v : X) (o : Option X) → (b ≡ true → f v ≡ false)
    → (b ≡ true → o ≡ None) → keep f (cond b (Some v) o) ≡ keep f o
kept_gone f true v o h g = ap (λ c. then_some c v) (h refl) ∙ sym (ap (keep f) (g refl))
kept_gone f false v o h g = refl

pub none_from_absent : {X : Type 0} (o : Option X) → not (is_some o) ≡ true → o ≡ None
none_from_absent None h = refl
none_from_absent (Some x) h = absurd (subst T (sym h) tt)

all_kept : {X : Type 0} (o : Option X) → keep (λ _. true) o ≡ o
all_kept None = refl
all_kept (Some x) = refl

covered : {X : Type 0} (b c : Bool) (v : X) (l m : Option X) → c ≡ b → m ≡ keep (λ _. not c) l
    → cond b (Some v) m ≡ cond b (Some v) l
covered true c v l m s e = refl
covered false c v l m s e = e ∙ ap (λ b. keep (λ _. not b) l) s ∙ all_kept l

still_absent : {X : Type 0} (a b : Bool) (x : X) (o : Option X) → a ≡ b → not b ≡ true
    → not (is_some o) ≡ true → not (is_some (cond a (Some x) o)) ≡ true
still_absent true b x o s p e = ap not s ∙ p
still_absent false b x o s p e = e

module _ {K X : Type 0} (R : K → K → Ordering) where
  -- whether no entry has the key of x
  abbrev pub absent : List (K × X) → K × X → Bool
  absent es x = not (is_some (lookup (is_at (R x.0)) es))

  -- no two entries of a list have one key
  abbrev pub are_apart : List (K × X) → Bool
  are_apart [] = true
  are_apart (x ∷ xs) = list_all (λ y. not (is_eq (R x.0 y.0))) xs && are_apart xs

  -- entries put in their places, one after the other
  abbrev pub gather : List (K × X) → List (K × X) → List (K × X)
  gather es xs = fold (λ es x. insert_entry R es x.0 x.1) es xs

  find_is : (q : K) (es : List (K × X)) → find R q es ≡ lookup (is_at (R q)) es
  find_is q [] = refl
  find_is q (e ∷ es) = ap (cond (is_eq (R q e.0)) (Some e.1)) (find_is q es)

  put_is : (k : K) (v : X) (es : List (K × X)) → put R k v es ≡ insert_entry R es k v
  put_is k v [] = refl
  put_is k v (e ∷ es) =
      elim (R k e.0) as (λ r. by_order r ((k, v) ∷ e ∷ es) ((e.0, v) ∷ es) (e ∷ put R k v es)
      ≡ match_ordering r ((k, v) ∷ e ∷ es) ((e.0, v) ∷ es) (e ∷ insert_entry R es k v)) [
        | Less ↦ refl
        | Equal ↦ refl
        | Greater ↦ ap (λ rest. e ∷ rest) (put_is k v es)
      ]

  below-filter : (x : K) (p : K × X → Bool) (es : List (K × X)) → T (below_all R x es)
      → T (below_all R x (filter p es))
  below-filter x p [] h = tt
  below-filter x p (e ∷ es) h =
      let rest : T (below_all R x (filter p es)) = below-filter x p es (second _ _ h) in
      elim (p e) as (λ b. T (below_all R x (cond b (e ∷ filter p es) (filter p es)))) [
        | true ↦
            both _ _ (first _ _ h) rest
        | false ↦ rest
      ]

  -- a list in order stays so when entries go
  pub sorted-filter : (p : K × X → Bool) (es : List (K × X)) → T (is_sorted R es)
      → T (is_sorted R (filter p es))
  sorted-filter p [] h = tt
  sorted-filter p (e ∷ es) h =
      let rest : T (is_sorted R (filter p es)) = sorted-filter p es (second _ _ h) in
      elim (p e) as (λ b. T (is_sorted R (cond b (e ∷ filter p es) (filter p es)))) [
        | true ↦
            both _ _ (below-filter e.0 p es (first _ _ h)) rest
        | false ↦ rest
      ]

  module _ (o : IsTotalOrder R) (exact : (x y : K) → R x y ≡ Equal → x ≡ y) where
    pub sorted-insert : (es : List (K × X)) (k : K) (v : X) → T (is_sorted R es)
        → T (is_sorted R (insert_entry R es k v))
    sorted-insert es k v h = subst (λ fs. T (is_sorted R fs)) (put_is k v es)
        (is_sorted-put R o k v es h)

    pub lookup-insert : (q : K) (es : List (K × X)) (k : K) (v : X)
        → lookup (is_at (R q)) (insert_entry R es k v) ≡ cond (is_eq (R q k)) (Some v)
        (lookup (is_at (R q)) es)
    lookup-insert q es k v =
        ap (lookup (is_at (R q))) (sym (put_is k v es))
        ∙ sym (find_is q (put R k v es))
        ∙ find-put R o q k v es
        ∙ ap (cond (is_eq (R q k)) (Some v)) (find_is q es)

    -- lists in order with equal look-ups are equal
    pub same_lookups : (es fs : List (K × X)) → T (is_sorted R es) → T (is_sorted R fs)
        → ((q : K) → lookup (is_at (R q)) es ≡ lookup (is_at (R q)) fs) → es ≡ fs
    same_lookups es fs g h is = same_entries R o exact es fs g h (λ q. find_is q es ∙ is q
        ∙ sym (find_is q fs))

    none_below : (q x : K) (es : List (K × X)) → R q x ≡ Equal → T (below_all R x es)
        → lookup (is_at (R q)) es ≡ None
    none_below q x [] t h = refl
    none_below q x (e ∷ es) t h =
        ap (λ b. cond b (Some e.1) (lookup (is_at (R q)) es)) (ap is_eq (o.congr q x e.0 t)
        ∙ not_equal _ (first _ _ h))
        ∙ none_below q x es t (second _ _ h)

    pub lookup-filter : (q : K) (p : K × X → Bool) (es : List (K × X)) → T (is_sorted R es)
        → lookup (is_at (R q)) (filter p es) ≡ keep (λ v. p (q, v)) (lookup (is_at (R q)) es)
    lookup-filter q p [] h = refl
    lookup-filter q p (e ∷ es) h =
        let rest : lookup (is_at (R q)) (filter p es) ≡ keep (λ v. p (q, v))
        (lookup (is_at (R q)) es) = lookup-filter q p es (second _ _ h) in
        elim (p e) as (λ b. p e ≡ b → lookup (is_at (R q)) (cond b (e ∷ filter p es) (filter p es))
        ≡ keep (λ v. p (q, v)) (lookup (is_at (R q)) (e ∷ es))) [
          | true ↦ λ c. ap (cond (is_eq (R q e.0)) (Some e.1)) rest
              ∙ sym (kept_here (λ v. p (q, v)) (is_eq (R q e.0)) e.1 (lookup (is_at (R q)) es)
              (λ t. ap (λ k. p (k, e.1)) (exact q e.0 (equal_from _ t)) ∙ c))
          | false ↦ λ c. rest
              ∙ sym (kept_gone (λ v. p (q, v)) (is_eq (R q e.0)) e.1 (lookup (is_at (R q)) es)
              (λ t. ap (λ k. p (k, e.1)) (exact q e.0 (equal_from _ t))
              ∙ c) (λ t. none_below q e.0 es (equal_from _ t) (first _ _ h)))
        ] refl

    none_at : (x : K) (p : K × X → Bool) (es : List (K × X)) → T (below_all R x es)
        → ((e : K × X) → T (is_lt (R x e.0)) → p e ≡ true) → filter p es ≡ es
    none_at x p [] h all = refl
    none_at x p (e ∷ es) h all =
        ap (λ b. cond b (e ∷ filter p es) (filter p es)) (all e (first _ _ h))
        ∙ ap (λ rest. e ∷ rest) (none_at x p es (second _ _ h) all)

    -- taking an entry away keeps those with another key
    pub remove_is : (k : K) (es : List (K × X)) → T (is_sorted R es) → remove_entry (is_at (R k)) es
        ≡ filter (λ e. not (is_eq (R k e.0))) es
    remove_is k [] h = refl
    remove_is k (e ∷ es) h =
        elim (is_eq (R k e.0)) as (λ b. is_eq (R k e.0) ≡ b
        → cond b es (e ∷ remove_entry (is_at (R k)) es)
        ≡ cond (not b) (e ∷ filter (λ e. not (is_eq (R k e.0))) es)
        (filter (λ e. not (is_eq (R k e.0))) es)) [
          | true ↦ λ t. sym (none_at e.0 (λ e. not (is_eq (R k e.0))) es (first _ _ h)
              (λ f l. ap not (ap is_eq (o.congr k e.0 f.0 (equal_from _ t)) ∙ not_equal _ l)))
          | false ↦ λ t. ap (λ rest. e ∷ rest) (remove_is k es (second _ _ h))
        ] refl

    -- one more entry, where its key isn't there yet, and then a filter
    insert-filter : (p : K × X → Bool) (es : List (K × X)) (x : K × X) → T (is_sorted R es)
        → lookup (is_at (R x.0)) es ≡ None → filter p (insert_entry R es x.0 x.1)
        ≡ cond (p x) (insert_entry R (filter p es) x.0 x.1) (filter p es)
    insert-filter p es x h none =
        let found : (q : K) → lookup (is_at (R q)) (filter p (insert_entry R es x.0 x.1))
        ≡ keep (λ v. p (q, v)) (cond (is_eq (R q x.0)) (Some x.1) (lookup (is_at (R q)) es)) =
        λ q. lookup-filter q p (insert_entry R es x.0 x.1) (sorted-insert es x.0 x.1 h)
        ∙ ap (keep (λ v. p (q, v))) (lookup-insert q es x.0 x.1) in
        let in_order : T (is_sorted R (filter p (insert_entry R es x.0 x.1))) =
        sorted-filter p (insert_entry R es x.0 x.1) (sorted-insert es x.0 x.1 h) in
        let left : T (is_sorted R (filter p es)) = sorted-filter p es h in
        elim (p x) as (λ b. p x ≡ b → filter p (insert_entry R es x.0 x.1)
        ≡ cond b (insert_entry R (filter p es) x.0 x.1) (filter p es)) [
          | true ↦ λ c. same_lookups _ _ in_order (sorted-insert (filter p es) x.0 x.1 left)
              (λ q. found q
              ∙ kept_here (λ v. p (q, v)) (is_eq (R q x.0)) x.1 (lookup (is_at (R q)) es)
              (λ t. ap (λ k. p (k, x.1)) (exact q x.0 (equal_from _ t)) ∙ c)
              ∙ ap (cond (is_eq (R q x.0)) (Some x.1)) (sym (lookup-filter q p es h))
              ∙ sym (lookup-insert q (filter p es) x.0 x.1))
          | false ↦ λ c. same_lookups _ _ in_order left (λ q. found q
              ∙ kept_gone (λ v. p (q, v)) (is_eq (R q x.0)) x.1 (lookup (is_at (R q)) es)
              (λ t. ap (λ k. p (k, x.1)) (exact q x.0 (equal_from _ t))
              ∙ c) (λ t. ap (λ k. lookup (is_at (R k)) es) (exact q x.0 (equal_from _ t))
              ∙ none)
              ∙ sym (lookup-filter q p es h))
        ] refl

    -- an entry whose key was taken away is put in its place
    pub insert-others : (es : List (K × X)) (k : K) (v : X) → T (is_sorted R es)
        → insert_entry R (filter (λ e. not (is_eq (R k e.0))) es) k v ≡ insert_entry R es k v
    insert-others es k v h =
        let others : K × X → Bool = λ e. not (is_eq (R k e.0)) in
        same_lookups _ _ (sorted-insert (filter others es) k v (sorted-filter others es h))
        (sorted-insert es k v h)
        (λ q. lookup-insert q (filter others es) k v
        ∙ covered (is_eq (R q k)) (is_eq (R k q)) v (lookup (is_at (R q)) es)
        (lookup (is_at (R q)) (filter others es)) ((eq_by_cmp_equiv o).symm k q)
        (lookup-filter q others es h)
        ∙ sym (lookup-insert q es k v))

    -- entries that differ from x in key are still absent once x is there
    all_still_absent : (es : List (K × X)) (x : K × X) (ys : List (K × X))
        → list_all (λ y. not (is_eq (R x.0 y.0))) ys ≡ true → list_all (absent es) ys ≡ true
        → list_all (absent (insert_entry R es x.0 x.1)) ys ≡ true
    all_still_absent es x [] d h = refl
    all_still_absent es x (y ∷ ys) d h =
        let d' = and_parts (not (is_eq (R x.0 y.0))) (list_all (λ y. not (is_eq (R x.0 y.0))) ys)
        d in
        let h' = and_parts (absent es y) (list_all (absent es) ys) h in
        and_from _ _
        (ap (λ l. not (is_some l)) (lookup-insert y.0 es x.0 x.1)
        ∙ still_absent (is_eq (R y.0 x.0)) (is_eq (R x.0 y.0)) x.1 (lookup (is_at (R y.0)) es)
        ((eq_by_cmp_equiv o).symm y.0 x.0) d'.0 h'.0)
        (all_still_absent es x ys d'.1 h'.1)

    -- a filter before entries are gathered in order is a filter afterwards
    pub gather-filter : (p : K × X → Bool) (es xs : List (K × X)) → T (is_sorted R es)
        → are_apart xs ≡ true → list_all (absent es) xs ≡ true → gather (filter p es) (filter p xs)
        ≡ filter p (gather es xs)
    gather-filter p es [] h d new = refl
    gather-filter p es (x ∷ xs) h d new =
        let d' = and_parts (list_all (λ y. not (is_eq (R x.0 y.0))) xs) (are_apart xs) d in
        let new' = and_parts (absent es x) (list_all (absent es) xs) new in
        let one : filter p (insert_entry R es x.0 x.1)
        ≡ cond (p x) (insert_entry R (filter p es) x.0 x.1) (filter p es) =
        insert-filter p es x h (none_from_absent _ new'.0) in
        let rest : gather (filter p (insert_entry R es x.0 x.1)) (filter p xs)
        ≡ filter p (gather (insert_entry R es x.0 x.1) xs) =
        gather-filter p (insert_entry R es x.0 x.1) xs (sorted-insert es x.0 x.1 h) d'.1
        (all_still_absent es x xs d'.0 new'.1) in
        moved (p x) x (filter p es) (filter p xs) _ one ∙ rest
      where
        moved : (b : Bool) (x : K × X) (es xs fs : List (K × X))
            → fs ≡ cond b (insert_entry R es x.0 x.1) es → gather es (cond b (x ∷ xs) xs)
            ≡ gather fs xs
        moved true x es xs fs e = ap (λ l. gather l xs) (sym e)
        moved false x es xs fs e = ap (λ l. gather l xs) (sym e)

    pub sorted-gather : (es xs : List (K × X)) → T (is_sorted R es) → T (is_sorted R (gather es xs))
    sorted-gather es [] h = h
    sorted-gather es (x ∷ xs) h = sorted-gather (insert_entry R es x.0 x.1) xs
        (sorted-insert es x.0 x.1 h)
