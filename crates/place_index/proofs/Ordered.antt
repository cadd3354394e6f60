-- Keys in order, as their places are filled, changed and emptied.
use Rattle.std.proofs.Common.{◌≡◌, ℕ, zero, suc, ◌+◌, Bool, true, false, cond, List, [], ◌∷◌}
use Rattle.std.proofs.Common.{length, refl, sym, ◌∙◌, ap, subst, arith}
use Rattle.std.specs.Prelude.{Option, Some, None, IsSome, slice_set}
use Rattle.std.specs.Option.{option_map}
use Rattle.std.specs.declared.cmp.Ordering.{Ordering}
use Rattle.std.specs.declared.cmp.Ordering.TheVariants.{Less, Equal, Greater}
use Rattle.std.specs.Ordering.{match_ordering, is_eq, nat_cmp}
use Rattle.std.specs.Cmp.{eq_by_cmp_equiv}
use Rattle.std.specs.Cmp.Lexicographic.{slice_cmp, nat_list_cmp_total}
use Rattle.std.specs.Map.{keys_of, lookup, remove_entry, set_value}
use Rattle.std.specs.BTreeMap.{insert_entry}
use Rattle.std.specs.List.Sorted.{IsStrictlySortedBy}
use Rattle.std.proofs.lemmas.Cmp.{tied_itself}
use Rattle.std.proofs.lemmas.Map.{lookup-remove_entry}
use Rattle.std.proofs.lemmas.Map.Keys.{IsDistinct-from_sorted}
use Rattle.std.proofs.lemmas.Map.Lookups.{exact_bytes}
use Rattle.place_index.specs.Places.{item_at, key_at, value_at, laid, revalued, filled}
use Rattle.place_index.specs.Places.{AreDistinct, IsAbsent, in_order}
use Rattle.place_index.proofs.Sorted.{turned, sorted-insert_entry}
use Rattle.place_index.proofs.Sorted.{sorted-remove_entry, sorted_others, above_first}
use Rattle.place_index.proofs.Sorted.{lookup-above, lookup_below}

-- whether a key is another
abbrev pub at_key : List ℕ → List ℕ → Bool
at_key key q = is_eq (slice_cmp nat_cmp key q)

-- ---- keys that are the same
pub is_itself : (key : List ℕ) → at_key key key ≡ true
is_itself key = ap is_eq (tied_itself nat_list_cmp_total key)

pub same_if_at : (key q : List ℕ) → at_key key q ≡ true → key ≡ q
same_if_at key q passes = by (slice_cmp nat_cmp key q) refl passes
  where
    by : (o : Ordering) → slice_cmp nat_cmp key q ≡ o → is_eq o ≡ true → key ≡ q
    by Less is e = cc
    by Equal is e = exact_bytes key q is
    by Greater is e = cc

pub turned_at : (key q : List ℕ) → at_key key q ≡ at_key q key
turned_at key q = (eq_by_cmp_equiv nat_list_cmp_total).symm key q

module _ {V : Type 0} where
  -- of two keys that differ at most one is found, so it doesn't matter which is tried first
  swapped : (a b : Bool) (x y z : Option V) → (a ≡ true → b ≡ true → ⊥)
      → cond a x (cond b y z) ≡ cond b y (cond a x z)
  swapped true true x y z apart_keys = absurd (apart_keys refl refl)
  swapped true false x y z apart_keys = refl
  swapped false true x y z apart_keys = refl
  swapped false false x y z apart_keys = refl

  chosen : (a b : Bool) (x y : Option V) → a ≡ b → cond a x y ≡ cond b x y
  chosen a b x y is = ap (λ (c : Bool). cond c x y) is

  twice : (b : Bool) (x y z : Option V) → cond b x z ≡ cond b x (cond b y z)
  twice true x y z = refl
  twice false x y z = refl

  -- ---- look-ups
  lookup-insert : (es : List (List ℕ × V)) (key : List ℕ) (v : V) (q : List ℕ)
      → lookup (at_key q) (insert_entry (slice_cmp nat_cmp) es key v)
      ≡ cond (at_key key q) (Some v) (lookup (at_key q) es)
  lookup-insert [] key v q =
      chosen (at_key q key) (at_key key q) (Some v) None (turned_at q key)
  lookup-insert (e ∷ es) key v q =
      by (lookup-insert es key v q) (slice_cmp nat_cmp key e.0) refl
    where
      by : lookup (at_key q) (insert_entry (slice_cmp nat_cmp) es key v)
          ≡ cond (at_key key q) (Some v) (lookup (at_key q) es) → (o : Ordering)
          → slice_cmp nat_cmp key e.0 ≡ o
          → lookup (at_key q) (match_ordering o ((key, v) ∷ e ∷ es) ((e.0, v) ∷ es)
          (e ∷ insert_entry (slice_cmp nat_cmp) es key v))
          ≡ cond (at_key key q) (Some v) (lookup (at_key q) (e ∷ es))
      by more Less is =
          ap (λ (b : Bool). cond b (Some v) (lookup (at_key q) (e ∷ es))) (turned_at q key)
      by more Equal is =
          let same : key ≡ e.0 = exact_bytes key e.0 is in
          let one : at_key q e.0 ≡ at_key key q =
          ap (λ k. at_key q k) (sym same) ∙ turned_at q key in
          twice (at_key q e.0) (Some v) (Some e.1) (lookup (at_key q) es)
          ∙ ap (λ (b : Bool). cond b (Some v)
          (cond (at_key q e.0) (Some e.1) (lookup (at_key q) es))) one
      by more Greater is =
          ap (λ (o : Option V). cond (at_key q e.0) (Some e.1) o) more
          ∙ swapped (at_key q e.0) (at_key key q) (Some e.1) (Some v) (lookup (at_key q) es)
          (λ f g.
          let here : key ≡ e.0 = same_if_at key q g ∙ same_if_at q e.0 f in
          let equal : slice_cmp nat_cmp key e.0 ≡ Equal =
          ap (λ k. slice_cmp nat_cmp k e.0) here ∙ tied_itself nat_list_cmp_total e.0 in
          let wrong : Greater ≡ Equal = sym is ∙ equal in
          cc)

  lookup-set : (es : List (List ℕ × V)) (key : List ℕ) (v new : V) (q : List ℕ)
      → lookup (at_key key) es ≡ Some v
      → lookup (at_key q) (set_value (at_key key) es new)
      ≡ cond (at_key key q) (Some new) (lookup (at_key q) es)
  lookup-set [] key v new q found = cc
  lookup-set (e ∷ es) key v new q found =
      by (lookup-set es key v new q) (at_key key e.0) refl found
    where
      by : (lookup (at_key key) es ≡ Some v
          → lookup (at_key q) (set_value (at_key key) es new)
          ≡ cond (at_key key q) (Some new) (lookup (at_key q) es)) → (b : Bool)
          → at_key key e.0 ≡ b → cond b (Some e.1) (lookup (at_key key) es) ≡ Some v
          → lookup (at_key q) (cond b ((e.0, new) ∷ es) (e ∷ set_value (at_key key) es new))
          ≡ cond (at_key key q) (Some new) (lookup (at_key q) (e ∷ es))
      by more true is f =
          let same : key ≡ e.0 = same_if_at key e.0 is in
          let one : at_key q e.0 ≡ at_key key q =
          ap (λ k. at_key q k) (sym same) ∙ turned_at q key in
          twice (at_key q e.0) (Some new) (Some e.1) (lookup (at_key q) es)
          ∙ ap (λ (b : Bool). cond b (Some new)
          (cond (at_key q e.0) (Some e.1) (lookup (at_key q) es))) one
      by more false is f =
          ap (λ (o : Option V). cond (at_key q e.0) (Some e.1) o) (more f)
          ∙ swapped (at_key q e.0) (at_key key q) (Some e.1) (Some new) (lookup (at_key q) es)
          (λ g h.
          let here : key ≡ e.0 = same_if_at key q h ∙ same_if_at q e.0 g in
          let itself : at_key key e.0 ≡ true = ap (λ k. at_key key k) (sym here) ∙ is_itself key in
          let wrong : true ≡ false = sym itself ∙ is in
          cc)

  lookup-gone : (es : List (List ℕ × V)) (key q : List ℕ)
      → IsStrictlySortedBy (slice_cmp nat_cmp) (keys_of es)
      → lookup (at_key q) (remove_entry (at_key key) es)
      ≡ cond (at_key key q) None (lookup (at_key q) es)
  lookup-gone es key q s =
      lookup-remove_entry (eq_by_cmp_equiv nat_list_cmp_total) (at_key key)
      (λ x y passes. ap (λ k. at_key k y) (same_if_at key x passes)) q es
      (IsDistinct-from_sorted (slice_cmp nat_cmp) (keys_of es) s)

  keys_of-set : (test : List ℕ → Bool) (es : List (List ℕ × V)) (new : V)
      → keys_of (set_value test es new) ≡ keys_of es
  keys_of-set test [] new = refl
  keys_of-set test (e ∷ es) new = by (keys_of-set test es new) (test e.0)
    where
      by : keys_of (set_value test es new) ≡ keys_of es → (b : Bool)
          → keys_of (cond b ((e.0, new) ∷ es) (e ∷ set_value test es new)) ≡ e.0 ∷ keys_of es
      by more true = refl
      by more false = ap (λ ks. e.0 ∷ ks) more

  -- ---- two lists in order that answer each look-up alike are the same
  first_found : (e : List ℕ × V) (es : List (List ℕ × V)) → lookup (at_key e.0) (e ∷ es) ≡ Some e.1
  first_found e es = ap (λ (b : Bool). cond b (Some e.1) (lookup (at_key e.0) es)) (is_itself e.0)

  none_behind : (e : List ℕ × V) (es : List (List ℕ × V)) (q : List ℕ) → q ≡ e.0
      → IsStrictlySortedBy (slice_cmp nat_cmp) (keys_of (e ∷ es)) → lookup (at_key q) es ≡ None
  none_behind e es q is s =
      ap (λ k. lookup (at_key k) es) is
      ∙ lookup-above (slice_cmp nat_cmp) e.0 es (above_first (slice_cmp nat_cmp) e.0 es s)

  alike_behind : (e f : List ℕ × V) (es fs : List (List ℕ × V)) (q : List ℕ) → e.0 ≡ f.0
      → IsStrictlySortedBy (slice_cmp nat_cmp) (keys_of (e ∷ es))
      → IsStrictlySortedBy (slice_cmp nat_cmp) (keys_of (f ∷ fs))
      → lookup (at_key q) (e ∷ es) ≡ lookup (at_key q) (f ∷ fs)
      → lookup (at_key q) es ≡ lookup (at_key q) fs
  alike_behind e f es fs q same s t alike = by (at_key q e.0) refl
    where
      by : (b : Bool) → at_key q e.0 ≡ b → lookup (at_key q) es ≡ lookup (at_key q) fs
      by true is =
          let here : q ≡ e.0 = same_if_at q e.0 is in
          none_behind e es q here s ∙ sym (none_behind f fs q (here ∙ same) t)
      by false is =
          let other : at_key q f.0 ≡ false = ap (λ k. at_key q k) (sym same) ∙ is in
          sym (ap (λ (b : Bool). cond b (Some e.1) (lookup (at_key q) es)) is) ∙ alike
          ∙ ap (λ (b : Bool). cond b (Some f.1) (lookup (at_key q) fs)) other

  pub same_keys : (es fs : List (List ℕ × V)) → IsStrictlySortedBy (slice_cmp nat_cmp) (keys_of es)
      → IsStrictlySortedBy (slice_cmp nat_cmp) (keys_of fs)
      → ((q : List ℕ) → lookup (at_key q) es ≡ lookup (at_key q) fs) → es ≡ fs
  same_keys [] [] s t alike = refl
  same_keys [] (f ∷ fs) s t alike =
      let wrong : None ≡ Some f.1 = alike f.0 ∙ first_found f fs in cc
  same_keys (e ∷ es) [] s t alike =
      let wrong : Some e.1 ≡ None = sym (first_found e es) ∙ alike e.0 in cc
  same_keys (e ∷ es) (f ∷ fs) s t alike = by (same_keys es fs) (slice_cmp nat_cmp e.0 f.0) refl
    where
      by : (IsStrictlySortedBy (slice_cmp nat_cmp) (keys_of es)
          → IsStrictlySortedBy (slice_cmp nat_cmp) (keys_of fs)
          → ((q : List ℕ) → lookup (at_key q) es ≡ lookup (at_key q) fs) → es ≡ fs)
          → (o : Ordering) → slice_cmp nat_cmp e.0 f.0 ≡ o → e ∷ es ≡ f ∷ fs
      by more Less is =
          let none : lookup (at_key e.0) (f ∷ fs) ≡ None =
          lookup_below (slice_cmp nat_cmp) nat_list_cmp_total e.0 f fs is t in
          let wrong : Some e.1 ≡ None = sym (first_found e es) ∙ alike e.0 ∙ none in
          cc
      by more Greater is =
          let none : lookup (at_key f.0) (e ∷ es) ≡ None =
          lookup_below (slice_cmp nat_cmp) nat_list_cmp_total f.0 e es
          (turned nat_list_cmp_total e.0 f.0 is) s in
          let wrong : Some f.1 ≡ None = sym (first_found f fs) ∙ sym (alike f.0) ∙ none in
          cc
      by more Equal is =
          let same : e.0 ≡ f.0 = exact_bytes e.0 f.0 is in
          let passes : at_key e.0 f.0 ≡ true = ap is_eq is in
          let found : Some e.1 ≡ Some f.1 = sym (first_found e es) ∙ alike e.0
          ∙ ap (λ (b : Bool). cond b (Some f.1) (lookup (at_key e.0) fs)) passes in
          let value : e.1 ≡ f.1 = cc in
          let rest : es ≡ fs = more (sorted_others (slice_cmp nat_cmp) e.0 es s)
          (sorted_others (slice_cmp nat_cmp) f.0 fs t)
          (λ q. alike_behind e f es fs q same s t (alike q)) in
          ap (λ k. (k, e.1) ∷ es) same ∙ ap (λ v. (f.0, v) ∷ es) value
          ∙ ap (λ l. (f.0, f.1) ∷ l) rest

  -- ---- what is found of a key in places
  abbrev pub found : List (Option (List ℕ × V)) → List ℕ → Option V
  found [] q = None
  found (None ∷ places) q = found places q
  found (Some item ∷ places) q = cond (at_key item.0 q) (Some item.1) (found places q)

  pub lookup-in_order : (places : List (Option (List ℕ × V))) (q : List ℕ)
      → lookup (at_key q) (in_order places) ≡ found places q
  lookup-in_order [] q = refl
  lookup-in_order (None ∷ places) q = lookup-in_order places q
  lookup-in_order (Some item ∷ places) q =
      lookup-insert (in_order places) item.0 item.1 q
      ∙ ap (λ (o : Option V). cond (at_key item.0 q) (Some item.1) o)
      (lookup-in_order places q)

  pub sorted-in_order : (places : List (Option (List ℕ × V)))
      → IsStrictlySortedBy (slice_cmp nat_cmp) (keys_of (in_order places))
  unfolding IsStrictlySortedBy
  sorted-in_order [] = tt
  sorted-in_order (None ∷ places) = sorted-in_order places
  sorted-in_order (Some item ∷ places) =
      sorted-insert_entry (slice_cmp nat_cmp) nat_list_cmp_total (in_order places) item.0 item.1
      (sorted-in_order places)

  pub distinct_others : (item : Option (List ℕ × V)) (places : List (Option (List ℕ × V)))
      → AreDistinct (item ∷ places) → AreDistinct places
  distinct_others item places d = λ p q key one two.
      let same : suc p ≡ suc q = d (suc p) (suc q) key one two in omega (arith, same)

  -- a key in one place isn't that of the first
  pub apart : (item : List ℕ × V) (places : List (Option (List ℕ × V))) (at : ℕ) (key : List ℕ)
      → AreDistinct (Some item ∷ places) → key_at places at ≡ Some key → item.0 ≡ key → ⊥
  apart item places at key d own same =
      let wrong : zero ≡ suc at = d zero (suc at) key (ap Some same) own in
      absurd (omega (arith, wrong))

  found-absent : (places : List (Option (List ℕ × V))) (key : List ℕ) → IsAbsent places key
      → found places key ≡ None
  found-absent [] key absent = refl
  found-absent (None ∷ places) key absent =
      found-absent places key (λ at is. absent (suc at) is)
  found-absent (Some item ∷ places) key absent =
      by (found-absent places key (λ at is. absent (suc at) is)) (at_key item.0 key) refl
    where
      by : found places key ≡ None → (b : Bool) → at_key item.0 key ≡ b
          → cond b (Some item.1) (found places key) ≡ None
      by more true is = absurd (absent zero (ap Some (same_if_at item.0 key is)))
      by more false is = more

  found-held : (places : List (Option (List ℕ × V))) (at : ℕ) (key : List ℕ) (v : V)
      → AreDistinct places → key_at places at ≡ Some key → value_at places at ≡ Some v
      → found places key ≡ Some v
  found-held [] zero key v d own is = cc
  found-held [] (suc at) key v d own is = cc
  found-held (None ∷ places) zero key v d own is = cc
  found-held (Some item ∷ places) zero key v d own is =
      let same : item.0 ≡ key = cc in
      let here : at_key item.0 key ≡ true = ap (λ k. at_key k key) same ∙ is_itself key in
      ap (λ (b : Bool). cond b (Some item.1) (found places key)) here ∙ is
  found-held (None ∷ places) (suc at) key v d own is =
      found-held places at key v (distinct_others None places d) own is
  found-held (Some item ∷ places) (suc at) key v d own is =
      by (found-held places at key v (distinct_others (Some item) places d) own is)
      (at_key item.0 key) refl
    where
      by : found places key ≡ Some v → (b : Bool) → at_key item.0 key ≡ b
          → cond b (Some item.1) (found places key) ≡ Some v
      by more true is = absurd (apart item places at key d own (same_if_at item.0 key is))
      by more false is = more

  found-laid : (places : List (Option (List ℕ × V))) (at : ℕ) (key : List ℕ) (v : V) (q : List ℕ)
      → IsAbsent places key → item_at places at ≡ None
      → found (laid places at (Some (key, v))) q
      ≡ cond (at_key key q) (Some v) (found places q)
  found-laid [] at key v q absent empty = refl
  found-laid (None ∷ places) zero key v q absent empty = refl
  found-laid (Some item ∷ places) zero key v q absent empty = cc
  found-laid (None ∷ places) (suc at) key v q absent empty =
      found-laid places at key v q (λ p is. absent (suc p) is) empty
  found-laid (Some item ∷ places) (suc at) key v q absent empty =
      ap (λ (o : Option V). cond (at_key item.0 q) (Some item.1) o)
      (found-laid places at key v q (λ p is. absent (suc p) is) empty)
      ∙ swapped (at_key item.0 q) (at_key key q) (Some item.1) (Some v) (found places q)
      (λ f g. absent zero (ap Some (same_if_at item.0 q f ∙ sym (same_if_at key q g))))

  found-set : (places : List (Option (List ℕ × V))) (at : ℕ) (key : List ℕ) (new : V) (q : List ℕ)
      → AreDistinct places → key_at places at ≡ Some key
      → found (revalued places at new) q ≡ cond (at_key key q) (Some new) (found places q)
  found-set [] zero key new q d own = cc
  found-set [] (suc at) key new q d own = cc
  found-set (None ∷ places) zero key new q d own = cc
  found-set (Some item ∷ places) zero key new q d own =
      let same : item.0 ≡ key = cc in
      twice (at_key item.0 q) (Some new) (Some item.1) (found places q)
      ∙ ap (λ k. cond (at_key k q) (Some new)
      (cond (at_key item.0 q) (Some item.1) (found places q))) same
  found-set (None ∷ places) (suc at) key new q d own =
      found-set places at key new q (distinct_others None places d) own
  found-set (Some item ∷ places) (suc at) key new q d own =
      ap (λ (o : Option V). cond (at_key item.0 q) (Some item.1) o)
      (found-set places at key new q (distinct_others (Some item) places d) own)
      ∙ swapped (at_key item.0 q) (at_key key q) (Some item.1) (Some new) (found places q)
      (λ f g. apart item places at key d own (same_if_at item.0 q f ∙ sym (same_if_at key q g)))

  found-gone : (places : List (Option (List ℕ × V))) (at : ℕ) (key q : List ℕ) → AreDistinct places
      → key_at places at ≡ Some key
      → found (slice_set places at None) q ≡ cond (at_key key q) None (found places q)
  found-gone [] zero key q d own = cc
  found-gone [] (suc at) key q d own = cc
  found-gone (None ∷ places) zero key q d own = cc
  found-gone (Some item ∷ places) zero key q d own =
      let same : item.0 ≡ key = cc in by same (at_key key q) refl
    where
      by : item.0 ≡ key → (b : Bool) → at_key key q ≡ b
          → found places q ≡ cond b None (cond (at_key item.0 q) (Some item.1) (found places q))
      by same true is =
          let none : found places item.0 ≡ None = found-absent places item.0
          (λ p held. apart item places p item.0 d held refl) in
          ap (λ k. found places k) (sym (same ∙ same_if_at key q is)) ∙ none
      by same false is =
          let other : at_key item.0 q ≡ false = ap (λ k. at_key k q) same ∙ is in
          sym (ap (λ (b : Bool). cond b (Some item.1) (found places q)) other)
  found-gone (None ∷ places) (suc at) key q d own =
      found-gone places at key q (distinct_others None places d) own
  found-gone (Some item ∷ places) (suc at) key q d own =
      ap (λ (o : Option V). cond (at_key item.0 q) (Some item.1) o)
      (found-gone places at key q (distinct_others (Some item) places d) own)
      ∙ swapped (at_key item.0 q) (at_key key q) (Some item.1) None (found places q)
      (λ f g. apart item places at key d own (same_if_at item.0 q f ∙ sym (same_if_at key q g)))

  -- ---- the keys in order, as places change
  module _ (places : List (Option (List ℕ × V))) (at : ℕ) (key : List ℕ) where
    pub lookup-laid : (v : V) → IsAbsent places key → item_at places at ≡ None → (q : List ℕ)
        → lookup (at_key q) (in_order (laid places at (Some (key, v))))
        ≡ cond (at_key key q) (Some v) (lookup (at_key q) (in_order places))
    lookup-laid v absent empty q =
        lookup-in_order (laid places at (Some (key, v))) q
        ∙ found-laid places at key v q absent empty
        ∙ ap (λ (o : Option V). cond (at_key key q) (Some v) o) (sym (lookup-in_order places q))

    pub lookup-revalued : (new : V) → AreDistinct places → key_at places at ≡ Some key
        → (q : List ℕ) → lookup (at_key q) (in_order (revalued places at new))
        ≡ cond (at_key key q) (Some new) (lookup (at_key q) (in_order places))
    lookup-revalued new d own q =
        lookup-in_order (revalued places at new) q
        ∙ found-set places at key new q d own
        ∙ ap (λ (o : Option V). cond (at_key key q) (Some new) o) (sym (lookup-in_order places q))

    pub lookup-emptied : AreDistinct places → key_at places at ≡ Some key
        → (q : List ℕ) → lookup (at_key q) (in_order (slice_set places at None))
        ≡ cond (at_key key q) None (lookup (at_key q) (in_order places))
    lookup-emptied d own q =
        lookup-in_order (slice_set places at None) q
        ∙ found-gone places at key q d own
        ∙ ap (λ (o : Option V). cond (at_key key q) None o) (sym (lookup-in_order places q))

    pub in_order-laid : (v : V) → IsAbsent places key → item_at places at ≡ None
        → in_order (laid places at (Some (key, v)))
        ≡ insert_entry (slice_cmp nat_cmp) (in_order places) key v
    in_order-laid v absent empty = same_keys (in_order (laid places at (Some (key, v))))
        (insert_entry (slice_cmp nat_cmp) (in_order places) key v)
        (sorted-in_order (laid places at (Some (key, v))))
        (sorted-insert_entry (slice_cmp nat_cmp) nat_list_cmp_total (in_order places) key v
        (sorted-in_order places))
        (λ q. lookup-laid v absent empty q ∙ sym (lookup-insert (in_order places) key v q))

    pub in_order-set : (v new : V) → AreDistinct places → key_at places at ≡ Some key
        → lookup (at_key key) (in_order places) ≡ Some v
        → in_order (revalued places at new) ≡ set_value (at_key key) (in_order places) new
    in_order-set v new d own held = same_keys (in_order (revalued places at new))
        (set_value (at_key key) (in_order places) new)
        (sorted-in_order (revalued places at new))
        (subst (IsStrictlySortedBy (slice_cmp nat_cmp))
        (sym (keys_of-set (at_key key) (in_order places) new)) (sorted-in_order places))
        (λ q. lookup-revalued new d own q
        ∙ sym (lookup-set (in_order places) key v new q held))

    pub in_order-gone : AreDistinct places → key_at places at ≡ Some key
        → in_order (slice_set places at None) ≡ remove_entry (at_key key) (in_order places)
    in_order-gone d own = same_keys (in_order (slice_set places at None))
        (remove_entry (at_key key) (in_order places))
        (sorted-in_order (slice_set places at None))
        (sorted-remove_entry (slice_cmp nat_cmp) (at_key key) (in_order places)
        (sorted-in_order places))
        (λ q. lookup-emptied d own q
        ∙ sym (lookup-gone (in_order places) key q (sorted-in_order places)))

  pub lookup-held : (places : List (Option (List ℕ × V))) (at : ℕ) (key : List ℕ) (v : V)
      → AreDistinct places → key_at places at ≡ Some key → value_at places at ≡ Some v
      → lookup (at_key key) (in_order places) ≡ Some v
  lookup-held places at key v d own is =
      lookup-in_order places key ∙ found-held places at key v d own is

  pub lookup-absent : (places : List (Option (List ℕ × V))) (key : List ℕ) → IsAbsent places key
      → lookup (at_key key) (in_order places) ≡ None
  lookup-absent places key absent = lookup-in_order places key ∙ found-absent places key absent

  -- a key that isn't found lies in no place
  found-own : (places : List (Option (List ℕ × V))) (at : ℕ) (key : List ℕ)
      → key_at places at ≡ Some key → found places key ≡ None → ⊥
  found-own [] zero key own none = cc
  found-own [] (suc at) key own none = cc
  found-own (None ∷ places) zero key own none = cc
  found-own (Some item ∷ places) zero key own none =
      let same : item.0 ≡ key = cc in
      let here : at_key item.0 key ≡ true = ap (λ k. at_key k key) same ∙ is_itself key in
      let wrong : Some item.1 ≡ None =
      sym (ap (λ (b : Bool). cond b (Some item.1) (found places key)) here) ∙ none in
      cc
  found-own (None ∷ places) (suc at) key own none = found-own places at key own none
  found-own (Some item ∷ places) (suc at) key own none =
      by (found-own places at key own) (at_key item.0 key) none
    where
      by : (found places key ≡ None → ⊥) → (b : Bool)
          → cond b (Some item.1) (found places key) ≡ None → ⊥
      by later true none = cc
      by later false none = later none

  pub absent-lookup : (places : List (Option (List ℕ × V))) (key : List ℕ)
      → lookup (at_key key) (in_order places) ≡ None → IsAbsent places key
  absent-lookup places key none = λ at own.
      found-own places at key own (sym (lookup-in_order places key) ∙ none)

  -- ---- how many keys there are
  length-insert : (es : List (List ℕ × V)) (key : List ℕ) (v : V) → lookup (at_key key) es ≡ None
      → length (insert_entry (slice_cmp nat_cmp) es key v) ≡ length es + 1
  length-insert [] key v none = refl
  length-insert (e ∷ es) key v none =
      by (length-insert es key v) (slice_cmp nat_cmp key e.0) none
    where
      by : (lookup (at_key key) es ≡ None
          → length (insert_entry (slice_cmp nat_cmp) es key v) ≡ length es + 1)
          → (o : Ordering) → cond (is_eq o) (Some e.1) (lookup (at_key key) es) ≡ None
          → length (match_ordering o ((key, v) ∷ e ∷ es) ((e.0, v) ∷ es)
          (e ∷ insert_entry (slice_cmp nat_cmp) es key v)) ≡ length (e ∷ es) + 1
      by more Less is = omega arith
      by more Equal is = cc
      by more Greater is = let rest = more is in omega (arith, rest)

  pub length-in_order : (places : List (Option (List ℕ × V))) → AreDistinct places
      → length (in_order places) ≡ filled places
  length-in_order [] d = refl
  length-in_order (None ∷ places) d = length-in_order places (distinct_others None places d)
  length-in_order (Some item ∷ places) d =
      length-insert (in_order places) item.0 item.1 (lookup-absent places item.0
      (λ p held. apart item places p item.0 d held refl))
      ∙ ap (λ n. n + 1) (length-in_order places (distinct_others (Some item) places d))

  -- ---- a place whose key is known
  pub value_of_item : (item : Option (List ℕ × V)) (key : List ℕ)
      → option_map (λ (i : List ℕ × V). i.0) item ≡ Some key
      → (v : V) × (option_map (λ (i : List ℕ × V). i.1) item ≡ Some v)
  value_of_item None key own = cc
  value_of_item (Some i) key own = (i.1, refl)

  pub some_item : (item : Option (List ℕ × V)) (key : List ℕ)
      → option_map (λ (i : List ℕ × V). i.0) item ≡ Some key → IsSome item
  some_item None key own = cc
  some_item (Some i) key own = refl
