-- A map of maps and its one list of entries: what is looked up, put in or taken out of either.
use Rattle.std.proofs.Common.{◌≡◌, Bool, true, false, cond, ◌&&◌, List, [], ◌∷◌, ◌++◌, refl, sym}
use Rattle.std.proofs.Common.{◌∙◌, ap}
use Rattle.std.specs.Prelude.{Some, None, not, filter, map}
use Rattle.std.specs.Option.{option_and_then}
use Rattle.std.specs.declared.cmp.Ordering.{Ordering}
use Rattle.std.specs.declared.cmp.Ordering.TheVariants.{Less, Equal, Greater}
use Rattle.std.specs.Ordering.{match_ordering, ordering_then, is_eq}
use Rattle.std.specs.Cmp.{IsTotalOrder}
use Rattle.std.specs.Map.{keys_of, lookup, remove_entry, set_value}
use Rattle.std.specs.BTreeMap.{insert_entry, is_at}
use Rattle.std.specs.List.{AllByRecursion}
use Rattle.std.specs.List.Sorted.{IsStrictlySortedBy}
use Rattle.std.proofs.lemmas.List.{append-nil}
use Rattle.std.proofs.lemmas.Map.{NonePasses}
use Rattle.std.proofs.lemmas.Map.Keys.{sorted_head, sorted_tail}
use Rattle.std.proofs.lemmas.Map.Lookups.{CmpEqualImpliesEq}
use Rattle.peer_rows.specs.Spread.{part, spread}
use Rattle.std.proofs.lemmas.Cmp.{tied_itself}
use Rattle.place_index.proofs.Sorted.{AllAbove, AllBelow, AllAbove-append}
use Rattle.place_index.proofs.Sorted.{AllAbove-below, lookup-above, insert_entry-above}
use Rattle.place_index.proofs.Sorted.{insert_entry-append_left, insert_entry-append_right}
use Rattle.peer_rows.proofs.Selecting.{NonePasses-append, lookup-append_left, lookup-append_right}
use Rattle.peer_rows.proofs.Selecting.{remove_entry-append_left, remove_entry-append_right}
use Rattle.peer_rows.proofs.Selecting.{filter-none, filter_not-none, filter-append, PassesOnce}

-- the values under keys that pass, without their key: taking an entry out, or its value empty, is
-- the same
pub spread-remove_entry : {K P Q X : Type 0} (pair : K → P → Q) (test : K → Bool)
    (es : List (K × List (P × X))) → spread pair (remove_entry test es)
    ≡ spread pair (set_value test es [])
spread-remove_entry pair test [] = refl
spread-remove_entry pair test (e ∷ es) = by (spread-remove_entry pair test es) (test e.0)
  where
    by : spread pair (remove_entry test es) ≡ spread pair (set_value test es []) → (b : Bool)
        → spread pair (cond b es (e ∷ remove_entry test es))
        ≡ spread pair (cond b ((e.0, []) ∷ es) (e ∷ set_value test es []))
    by more true = refl
    by more false = ap (λ rest. part pair e.0 e.1 ++ rest) more

-- keys in order: a test for one key passes once
pub PassesOnce-sorted : {K X : Type 0} {R : K → K → Ordering} → IsTotalOrder R
    → (k : K) (test : K → Bool) → ((j : K) → test j ≡ is_eq (R k j)) → (es : List (K × X))
    → IsStrictlySortedBy R (keys_of es) → PassesOnce test es
PassesOnce-sorted o k test same [] s = tt
PassesOnce-sorted {K} {X} {R} o k test same (e ∷ es) s =
    (alone, PassesOnce-sorted o k test same es (sorted_tail R e.0 (keys_of es) s))
  where
    equal : (r : Ordering) → is_eq r ≡ true → r ≡ Equal
    equal Less e = cc
    equal Equal e = refl
    equal Greater e = cc

    others : test e.0 ≡ true → (fs : List (K × X))
        → AllByRecursion (λ y. R e.0 y ≡ Less) (keys_of fs) → NonePasses test fs
    others passes [] f = tt
    others passes (g ∷ fs) f = (
      same g.0
          ∙ ap is_eq (o.congr k e.0 g.0 (equal (R k e.0) (sym (same e.0) ∙ passes)) ∙ f.0),
      others passes fs f.1,
    )

    alone : test e.0 ≡ true → NonePasses test es
    alone passes = others passes es (sorted_head R e.0 (keys_of es) s)

module _ {K P Q : Type 0} (pair : K → P → Q) (outer : K → Bool) (inner : P → Bool) (test : Q → Bool)
    (splits : (k : K) (p : P) → test (pair k p) ≡ (outer k && inner p)) where
  alike : (k : K) (p : P) → outer k ≡ true → test (pair k p) ≡ inner p
  alike k p passes = splits k p ∙ ap (λ b. b && inner p) passes

  module _ {X : Type 0} where
    part-none : (k : K) (rows : List (P × X)) → outer k ≡ false → NonePasses test (part pair k rows)
    part-none k [] fails = tt
    part-none k (r ∷ rows) fails = (
      splits k r.0 ∙ ap (λ b. b && inner r.0) fails,
      part-none k rows fails,
    )

    pub spread-none : (es : List (K × List (P × X))) → NonePasses outer es
        → NonePasses test (spread pair es)
    spread-none [] f = tt
    spread-none (e ∷ es) f = NonePasses-append test (part pair e.0 e.1) (spread pair es)
        (part-none e.0 e.1 f.0) (spread-none es f.1)

    lookup-part : (k : K) (rows : List (P × X)) → outer k ≡ true → lookup test (part pair k rows)
        ≡ lookup inner rows
    lookup-part k [] passes = refl
    lookup-part k (r ∷ rows) passes = let same : test (pair k r.0) ≡ inner r.0 =
        alike k r.0 passes in rw (same, lookup-part k rows passes)

    remove_entry-part : (k : K) (rows : List (P × X)) → outer k ≡ true
        → remove_entry test (part pair k rows) ≡ part pair k (remove_entry inner rows)
    remove_entry-part k [] passes = refl
    remove_entry-part k (r ∷ rows) passes = let same : test (pair k r.0) ≡ inner r.0 =
        alike k r.0 passes in rw same (by (remove_entry-part k rows passes) (inner r.0))
      where
        by : remove_entry test (part pair k rows) ≡ part pair k (remove_entry inner rows)
            → (b : Bool) → cond b (part pair k rows)
            ((pair k r.0, r.1) ∷ remove_entry test (part pair k rows))
            ≡ part pair k (cond b rows (r ∷ remove_entry inner rows))
        by more true = refl
        by more false = ap (λ rest. (pair k r.0, r.1) ∷ rest) more

    filter_not-part : (k : K) (rows : List (P × X)) → outer k ≡ true
        → filter (λ e. not (test e.0)) (part pair k rows)
        ≡ part pair k (filter (λ r. not (inner r.0)) rows)
    filter_not-part k [] passes = refl
    filter_not-part k (r ∷ rows) passes = let same : test (pair k r.0) ≡ inner r.0 =
        alike k r.0 passes in rw same (by (filter_not-part k rows passes) (not (inner r.0)))
      where
        by : filter (λ e. not (test e.0)) (part pair k rows)
            ≡ part pair k (filter (λ r. not (inner r.0)) rows) → (b : Bool)
            → cond b ((pair k r.0, r.1) ∷ filter (λ e. not (test e.0)) (part pair k rows))
            (filter (λ e. not (test e.0)) (part pair k rows))
            ≡ part pair k (cond b (r ∷ filter (λ r. not (inner r.0)) rows)
            (filter (λ r. not (inner r.0)) rows))
        by more true = ap (λ rest. (pair k r.0, r.1) ∷ rest) more
        by more false = more

    -- what is found is found in the value that the first key finds
    pub lookup-spread : (es : List (K × List (P × X))) → PassesOnce outer es
        → lookup test (spread pair es) ≡ option_and_then (λ rows. lookup inner rows)
        (lookup outer es)
    lookup-spread [] once = refl
    lookup-spread (e ∷ es) once = by (lookup-spread es once.1) (outer e.0) refl
      where
        by : lookup test (spread pair es) ≡ option_and_then (λ rows. lookup inner rows)
            (lookup outer es) → (b : Bool) → outer e.0 ≡ b
            → lookup test (part pair e.0 e.1 ++ spread pair es)
            ≡ option_and_then (λ rows. lookup inner rows) (cond b (Some e.1) (lookup outer es))
        by more true passes = lookup-append_left test (part pair e.0 e.1) (spread pair es)
            (spread-none es (once.0 passes)) ∙ lookup-part e.0 e.1 passes
        by more false fails = lookup-append_right test (part pair e.0 e.1) (spread pair es)
            (part-none e.0 e.1 fails) ∙ more

    -- what is taken out is taken out of the value that the first key finds
    pub remove_entry-spread : (es : List (K × List (P × X))) (rows : List (P × X))
        → PassesOnce outer es → lookup outer es ≡ Some rows
        → spread pair (set_value outer es (remove_entry inner rows))
        ≡ remove_entry test (spread pair es)
    remove_entry-spread [] rows once found = cc
    remove_entry-spread (e ∷ es) rows once found =
        by (remove_entry-spread es rows once.1) (outer e.0) refl found
      where
        by : (lookup outer es ≡ Some rows
            → spread pair (set_value outer es (remove_entry inner rows))
            ≡ remove_entry test (spread pair es)) → (b : Bool) → outer e.0 ≡ b
            → cond b (Some e.1) (lookup outer es) ≡ Some rows
            → spread pair (cond b ((e.0, remove_entry inner rows) ∷ es)
            (e ∷ set_value outer es (remove_entry inner rows)))
            ≡ remove_entry test (part pair e.0 e.1 ++ spread pair es)
        by more true passes is = let same : e.1 ≡ rows = cc in
            sym (remove_entry-append_left test (part pair e.0 e.1) (spread pair es)
            (spread-none es (once.0 passes))
            ∙ ap (λ rest. rest ++ spread pair es) (remove_entry-part e.0 e.1 passes
            ∙ ap (λ rs. part pair e.0 (remove_entry inner rs)) same))
        by more false fails is = ap (λ rest. part pair e.0 e.1 ++ rest) (more is)
            ∙ sym (remove_entry-append_right test (part pair e.0 e.1) (spread pair es)
            (part-none e.0 e.1 fails))

    -- likewise a filter
    pub filter_not-spread : (es : List (K × List (P × X))) (rows : List (P × X))
        → PassesOnce outer es → lookup outer es ≡ Some rows
        → spread pair (set_value outer es (filter (λ r. not (inner r.0)) rows))
        ≡ filter (λ e. not (test e.0)) (spread pair es)
    filter_not-spread [] rows once found = cc
    filter_not-spread (e ∷ es) rows once found =
        by (filter_not-spread es rows once.1) (outer e.0) refl found
      where
        by : (lookup outer es ≡ Some rows
            → spread pair (set_value outer es (filter (λ r. not (inner r.0)) rows))
            ≡ filter (λ e. not (test e.0)) (spread pair es)) → (b : Bool) → outer e.0 ≡ b
            → cond b (Some e.1) (lookup outer es) ≡ Some rows
            → spread pair (cond b ((e.0, filter (λ r. not (inner r.0)) rows) ∷ es)
            (e ∷ set_value outer es (filter (λ r. not (inner r.0)) rows)))
            ≡ filter (λ e. not (test e.0)) (part pair e.0 e.1 ++ spread pair es)
        by more true passes is = let same : e.1 ≡ rows = cc in
            let first : filter (λ e. not (test e.0)) (part pair e.0 e.1)
            ≡ part pair e.0 (filter (λ r. not (inner r.0)) rows) =
            filter_not-part e.0 e.1 passes
            ∙ ap (λ rs. part pair e.0 (filter (λ r. not (inner r.0)) rs)) same in
            let others : filter (λ e. not (test e.0)) (spread pair es) ≡ spread pair es =
            filter_not-none test (spread pair es) (spread-none es (once.0 passes)) in
            sym (filter-append (λ e. not (test e.0)) (part pair e.0 e.1) (spread pair es)
            ∙ rw (first, others) refl)
        by more false fails is = let first : filter (λ e. not (test e.0)) (part pair e.0 e.1)
            ≡ part pair e.0 e.1 = filter_not-none test (part pair e.0 e.1)
            (part-none e.0 e.1 fails) in
            ap (λ rest. part pair e.0 e.1 ++ rest) (more is)
            ∙ sym (filter-append (λ e. not (test e.0)) (part pair e.0 e.1) (spread pair es)
            ∙ rw first refl)

    -- where the key isn't found nothing is
    pub filter-spread_none : (es : List (K × List (P × X))) → NonePasses outer es
        → filter (λ e. test e.0) (spread pair es) ≡ []
    filter-spread_none es f = filter-none test (spread pair es) (spread-none es f)

    module _ {Y : Type 0} (shows : Q × X → Y) (shown : P × X → Y) (agree : (k : K) (p : P) (x : X)
        → outer k ≡ true → shows (pair k p, x) ≡ shown (p, x)) where
      map-part : (k : K) (rows : List (P × X)) → outer k ≡ true
          → map shows (filter (λ e. test e.0) (part pair k rows))
          ≡ map shown (filter (λ r. inner r.0) rows)
      map-part k [] passes = refl
      map-part k (r ∷ rows) passes = let same : test (pair k r.0) ≡ inner r.0 =
          alike k r.0 passes in rw same (by (map-part k rows passes) (inner r.0))
        where
          by : map shows (filter (λ e. test e.0) (part pair k rows))
              ≡ map shown (filter (λ r. inner r.0) rows) → (b : Bool)
              → map shows (cond b ((pair k r.0, r.1) ∷ filter (λ e. test e.0) (part pair k rows))
              (filter (λ e. test e.0) (part pair k rows)))
              ≡ map shown (cond b (r ∷ filter (λ r. inner r.0) rows) (filter (λ r. inner r.0) rows))
          by more true = rw (agree k r.0 r.1 passes, more) refl
          by more false = more

      -- what passes is what passes in the value that the first key finds
      pub map-filter-spread : (es : List (K × List (P × X))) (rows : List (P × X))
          → PassesOnce outer es → lookup outer es ≡ Some rows
          → map shows (filter (λ e. test e.0) (spread pair es))
          ≡ map shown (filter (λ r. inner r.0) rows)
      map-filter-spread [] rows once found = cc
      map-filter-spread (e ∷ es) rows once found =
          by (map-filter-spread es rows once.1) (outer e.0) refl found
        where
          by : (lookup outer es ≡ Some rows → map shows (filter (λ e. test e.0) (spread pair es))
              ≡ map shown (filter (λ r. inner r.0) rows)) → (b : Bool) → outer e.0 ≡ b
              → cond b (Some e.1) (lookup outer es) ≡ Some rows
              → map shows (filter (λ e. test e.0) (part pair e.0 e.1 ++ spread pair es))
              ≡ map shown (filter (λ r. inner r.0) rows)
          by more true passes is = let same : e.1 ≡ rows = cc in
              rw (
                filter-append (λ e. test e.0) (part pair e.0 e.1) (spread pair es),
                filter-none test (spread pair es) (spread-none es (once.0 passes)),
                append-nil,
              )
              (map-part e.0 e.1 passes ∙ ap (λ rs. map shown (filter (λ r. inner r.0) rs)) same)
          by more false fails is = rw (
            filter-append (λ e. test e.0) (part pair e.0 e.1)
                (spread pair es),
            filter-none test (part pair e.0 e.1) (part-none e.0 e.1 fails),
          )
              (more is)

module _ {K P Q X : Type 0} (pair : K → P → Q) (R : K → K → Ordering) (S : P → P → Ordering) (C : Q
    → Q → Ordering) (splits : (k j : K) (p q : P) → C (pair k p) (pair j q) ≡ ordering_then (R k j)
    (S p q)) where
  part-above : (k j : K) (p : P) (rows : List (P × X)) → R k j ≡ Less
      → AllAbove C (pair k p) (part pair j rows)
  part-above k j p [] less = tt
  part-above k j p (r ∷ rows) less = (
    splits k j p r.0 ∙ ap (λ o. ordering_then o (S p r.0)) less,
    part-above k j p rows less,
  )

  part-below : (k j : K) (p : P) (rows : List (P × X)) → R k j ≡ Greater
      → AllBelow C (pair k p) (part pair j rows)
  part-below k j p [] more = tt
  part-below k j p (r ∷ rows) more = (
    splits k j p r.0 ∙ ap (λ o. ordering_then o (S p r.0)) more,
    part-below k j p rows more,
  )

  spread-above : (k : K) (p : P) (es : List (K × List (P × X))) → AllAbove R k es
      → AllAbove C (pair k p) (spread pair es)
  spread-above k p [] f = tt
  spread-above k p (e ∷ es) f = AllAbove-append C (pair k p) (part pair e.0 e.1) (spread pair es)
      (part-above k e.0 p e.1 f.0) (spread-above k p es f.1)

  insert_entry-part : (k : K) (rows : List (P × X)) (p : P) (x : X) → R k k ≡ Equal
      → part pair k (insert_entry S rows p x) ≡ insert_entry C (part pair k rows) (pair k p) x
  insert_entry-part k [] p x same = refl
  insert_entry-part k (r ∷ rows) p x same = let at : C (pair k p) (pair k r.0) ≡ S p r.0 =
      splits k k p r.0 ∙ ap (λ o. ordering_then o (S p r.0)) same in
      rw at (by (insert_entry-part k rows p x same) (S p r.0))
    where
      by : part pair k (insert_entry S rows p x) ≡ insert_entry C (part pair k rows) (pair k p) x
          → (o : Ordering) → part pair k (match_ordering o ((p, x) ∷ r ∷ rows) ((r.0, x) ∷ rows)
          (r ∷ insert_entry S rows p x)) ≡ match_ordering o ((pair k p, x) ∷ part pair k (r ∷ rows))
          ((pair k r.0, x) ∷ part pair k rows)
          ((pair k r.0, r.1) ∷ insert_entry C (part pair k rows) (pair k p) x)
      by more Less = refl
      by more Equal = refl
      by more Greater = ap (λ rest. (pair k r.0, r.1) ∷ rest) more

  module _ (o : IsTotalOrder R) (exact : CmpEqualImpliesEq R) where
    -- one more entry under a key that is there
    pub insert_entry-spread : (es : List (K × List (P × X))) (k : K) (p : P) (x : X)
        (rows : List (P × X)) → IsStrictlySortedBy R (keys_of es)
        → lookup (is_at (R k)) es ≡ Some rows
        → spread pair (set_value (is_at (R k)) es (insert_entry S rows p x))
        ≡ insert_entry C (spread pair es) (pair k p) x
    insert_entry-spread [] k p x rows s found = cc
    insert_entry-spread (e ∷ es) k p x rows s found =
        by (insert_entry-spread es k p x rows (sorted_tail R e.0 (keys_of es) s))
        (R k e.0) refl found
      where
        later : AllAbove R e.0 es
        later = sorted_head R e.0 (keys_of es) s

        here : k ≡ e.0 → e.1 ≡ rows → part pair e.0 (insert_entry S rows p x) ++ spread pair es
            ≡ insert_entry C (part pair e.0 e.1 ++ spread pair es) (pair k p) x
        here same is = rw (same, ← is)
            (ap (λ rest. rest ++ spread pair es)
            (insert_entry-part e.0 e.1 p x (tied_itself o e.0))
            ∙ sym (insert_entry-append_left C (part pair e.0 e.1) (spread pair es) (pair e.0 p) x
            (spread-above e.0 p es later)))

        by : (lookup (is_at (R k)) es ≡ Some rows
            → spread pair (set_value (is_at (R k)) es (insert_entry S rows p x))
            ≡ insert_entry C (spread pair es) (pair k p) x) → (r : Ordering) → R k e.0 ≡ r
            → cond (is_eq r) (Some e.1) (lookup (is_at (R k)) es) ≡ Some rows
            → spread pair (cond (is_eq r) ((e.0, insert_entry S rows p x) ∷ es)
            (e ∷ set_value (is_at (R k)) es (insert_entry S rows p x)))
            ≡ insert_entry C (part pair e.0 e.1 ++ spread pair es) (pair k p) x
        by more Less less is = let none : lookup (is_at (R k)) es ≡ None =
            lookup-above R k es (AllAbove-below R o k e.0 less es later) in cc
        by more Equal equal is = let same : e.1 ≡ rows = cc in here (exact k e.0 equal) same
        by more Greater above is = ap (λ rest. part pair e.0 e.1 ++ rest) (more is)
            ∙ sym (insert_entry-append_right C (part pair e.0 e.1) (spread pair es) (pair k p) x
            (part-below k e.0 p e.1 above))

    -- the first entry under a new key
    pub insert_entry-spread_new : (es : List (K × List (P × X))) (k : K) (p : P) (x : X)
        → IsStrictlySortedBy R (keys_of es) → lookup (is_at (R k)) es ≡ None
        → spread pair (insert_entry R es k ((p, x) ∷ []))
        ≡ insert_entry C (spread pair es) (pair k p) x
    insert_entry-spread_new [] k p x s none = refl
    insert_entry-spread_new (e ∷ es) k p x s none =
        by (insert_entry-spread_new es k p x (sorted_tail R e.0 (keys_of es) s)) (R k e.0) refl none
      where
        later : AllAbove R e.0 es
        later = sorted_head R e.0 (keys_of es) s

        by : (lookup (is_at (R k)) es ≡ None → spread pair (insert_entry R es k ((p, x) ∷ []))
            ≡ insert_entry C (spread pair es) (pair k p) x) → (r : Ordering) → R k e.0 ≡ r
            → cond (is_eq r) (Some e.1) (lookup (is_at (R k)) es) ≡ None
            → spread pair (match_ordering r ((k, (p, x) ∷ []) ∷ e ∷ es) ((e.0, (p, x) ∷ []) ∷ es)
            (e ∷ insert_entry R es k ((p, x) ∷ [])))
            ≡ insert_entry C (part pair e.0 e.1 ++ spread pair es) (pair k p) x
        by more Less less is = sym (insert_entry-above C (part pair e.0 e.1 ++ spread pair es)
            (pair k p) x (spread-above k p (e ∷ es) (less, AllAbove-below R o k e.0 less es later)))
        by more Equal equal is = cc
        by more Greater above is = ap (λ rest. part pair e.0 e.1 ++ rest) (more is)
            ∙ sym (insert_entry-append_right C (part pair e.0 e.1) (spread pair es) (pair k p) x
            (part-below k e.0 p e.1 above))

  -- the entries of all values are in order where the keys and each value's keys are
  pub sorted-spread : (es : List (K × List (P × X))) → ((k : K) → R k k ≡ Equal)
      → IsStrictlySortedBy R (keys_of es) → AllByRecursion (λ e. IsStrictlySortedBy S (keys_of e.1))
      es → IsStrictlySortedBy C (keys_of (spread pair es))
  unfolding IsStrictlySortedBy
  sorted-spread [] same s f = tt
  sorted-spread (e ∷ es) same s f = within e.1 f.0 (sorted-spread es same s.1 f.1)
    where
      above : (p : P) (rows : List (P × X)) → AllByRecursion (λ q. S p q ≡ Less) (keys_of rows)
          → AllAbove C (pair e.0 p) (part pair e.0 rows)
      above p [] g = tt
      above p (r ∷ rows) g = (splits e.0 e.0 p r.0 ∙ rw (same e.0, g.0) refl, above p rows g.1)

      within : (rows : List (P × X)) → IsStrictlySortedBy S (keys_of rows)
          → IsStrictlySortedBy C (keys_of (spread pair es))
          → IsStrictlySortedBy C (keys_of (part pair e.0 rows ++ spread pair es))
      within [] g rest = rest
      within (r ∷ rows) g rest = (
        AllAbove-append C (pair e.0 r.0) (part pair e.0 rows)
            (spread pair es) (above r.0 rows g.0) (spread-above e.0 r.0 es s.0),
        within rows g.1 rest,
      )
