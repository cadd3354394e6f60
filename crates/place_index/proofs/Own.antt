-- What lies in places as one is filled or emptied, whether the blank key has a place or not.
use Rattle.std.proofs.Common.{◌≡◌, ℕ, ◌+◌, ◌<◌, List, ◌∷◌, [], ◌++◌, length, slice_get}
use Rattle.std.proofs.Common.{Some, None, Option, Bool, true, false, ◌&&◌, not, if◌then◌else◌}
use Rattle.std.proofs.Common.{refl, ap, sym, ◌∙◌, arith}
use Rattle.std.proofs.lemmas.Bool.{ne_eqb, eq-eqb, eqb-true}
use Rattle.std.specs.Option.{option_map}
use Rattle.std.specs.Prelude.{slice_set, ◌==◌}
use Rattle.place_index.proofs.Held.{AreElsewhere, held_from, length-held, read_item, item_of}
use Rattle.place_index.proofs.Held.{set_from, push_from, laid-set}
use Rattle.place_index.specs.Places.{item_at, laid, IsAbsent}
use Rattle.place_index.specs.Slots.{is_own, held_in, held}
use Rattle.place_index.specs.declared.slots.Slot.{Slot}
use Rattle.place_index.specs.declared.slots.Slots.{Slots}

-- the blank key's own place once a key is laid down in one, and once one is emptied
abbrev own_with : {K : Type 0} → (K → Bool) → Option ℕ → ℕ → K → Option ℕ
own_with b own at key = if b key then Some at else own

abbrev own_without : Option ℕ → ℕ → Option ℕ
own_without own at = if is_own own at then None else own

laid_in : {K V : Type 0} (b : K → Bool) (own : Option ℕ) (at : ℕ) (s : Slot K V)
    → held_in b (own_with b own at s.key) (at, s) ≡ Some (s.key, s.value)
laid_in {K} {V} b own at s = by (b s.key) (at == at) (eq-eqb at at refl)
  where
    by : (c e : Bool) → e ≡ true
        → (if c && not (is_own (if c then Some at else own) at) then None
        else Some (item_of s)) ≡ Some (item_of s)
    by false e same = refl
    by true e same = ap (λ (x : Bool). if not x then None else Some (item_of s))
        (eq-eqb at at refl)

other_place : (a b : ℕ) → (a ≡ b → ⊥) → (a == b) ≡ false
other_place a b apart = ne_eqb a b apart

elsewhere_laid : {K V : Type 0} (b : K → Bool)
    → ((x y : K) → b x ≡ true → b y ≡ true → x ≡ y) → (s : Slots K V) (at : ℕ) (key : K)
    → IsAbsent (held b s) key
    → AreElsewhere b s.own (own_with b s.own at key) at 0 s.slots.items
elsewhere_laid {K} {V} b one s at key absent =
    λ q m t e apart is. by_key q m t e apart is (b key) refl
  where
    by_own : (q : ℕ) (t : Slot K V) → slice_get s.slots.items q ≡ Some t → b key ≡ true
        → (d x o : Bool) → b t.key ≡ d → x ≡ false → is_own s.own q ≡ o
        → (if d && not x then None else Some (item_of t))
        ≡ (if d && not o then None else Some (item_of t))
    by_own q t is blank false x o ed ex eo = refl
    by_own q t is blank true x false ed ex eo =
        ap (λ (y : Bool). if not y then None else Some (item_of t)) ex
    by_own q t is blank true x true ed ex eo =
        let there : item_at (held b s) q ≡ Some (t.key, t.value) =
        read_item b s q t is
        ∙ ap (λ (y : Bool). if y && not (is_own s.own q) then None else Some (item_of t)) ed
        ∙ ap (λ (y : Bool). if not y then None else Some (item_of t)) eo in
        absurd (absent q (ap (option_map (λ (i : K × V). i.0)) there
        ∙ ap Some (one t.key key ed blank)))

    by_key : (q m : ℕ) (t : Slot K V) → m ≡ 0 + q → (m ≡ at → ⊥)
        → slice_get s.slots.items q ≡ Some t → (c : Bool) → b key ≡ c
        → held_in b (if c then Some at else s.own) (m, t) ≡ held_in b s.own (m, t)
    by_key q m t e apart is false blank = refl
    by_key q m t e apart is true blank =
        let same : q ≡ m = omega (arith, e) in
        by_own m t (ap (λ (k : ℕ). slice_get s.slots.items k) (sym same) ∙ is) blank
        (b t.key) (m == at) (is_own s.own m) refl (other_place m at apart) refl

elsewhere_emptied : {K V : Type 0} (b : K → Bool) (s : Slots K V) (at : ℕ)
    → AreElsewhere b s.own (own_without s.own at) at 0 s.slots.items
elsewhere_emptied {K} {V} b s at =
    λ q m t e apart is.
    ap (λ (o : Bool). if b t.key && not o then None else Some (item_of t))
    (by s.own m apart)
  where
    by_same : (o m : ℕ) → (m ≡ at → ⊥) → (c : Bool) → (at == o) ≡ c
        → is_own (if c then None else Some o) m ≡ (m == o)
    by_same o m apart false e = refl
    by_same o m apart true e =
        sym (other_place m o (λ f. apart (f ∙ sym (eqb-true at o e))))

    by : (own : Option ℕ) (m : ℕ) → (m ≡ at → ⊥)
        → is_own (own_without own at) m ≡ is_own own m
    by None m apart = refl
    by (Some o) m apart = by_same o m apart (at == o) refl

emptied_in : {K V : Type 0} (b : K → Bool) (own : Option ℕ) (at : ℕ) (s : Slot K V)
    → b s.key ≡ true → held_in b (own_without own at) (at, s) ≡ None
emptied_in {K} {V} b own at s blank =
    ap (λ (c : Bool). if c && not (is_own (own_without own at) at) then None
    else Some (item_of s)) blank
    ∙ ap (λ (o : Bool). if not o then None else Some (item_of s)) (by own)
  where
    by_same : (o : ℕ) (c : Bool) → (at == o) ≡ c
        → is_own (if c then None else Some o) at ≡ false
    by_same o false e = e
    by_same o true e = refl

    by : (own : Option ℕ) → is_own (own_without own at) at ≡ false
    by None = refl
    by (Some o) = by_same o (at == o) refl

-- a key is laid down behind the last place
pub held_pushed : {K V : Type 0} (b : K → Bool)
    → ((x y : K) → b x ≡ true → b y ≡ true → x ≡ y) → (s : Slots K V) (own : Option ℕ)
    (slots : List (Slot K V)) (at : ℕ) (slot : Slot K V) → IsAbsent (held b s) slot.key
    → at ≡ length s.slots.items → own ≡ own_with b s.own at slot.key
    → slots ≡ s.slots.items ++ slot ∷ []
    → held_from b own 0 slots ≡ laid (held b s) at (Some (slot.key, slot.value))
held_pushed {K} {V} b one s own slots at slot absent len is_own items =
    ap (λ (o : Option ℕ). held_from b o 0 slots) is_own
    ∙ ap (λ (l : List (Slot K V)). held_from b (own_with b s.own at slot.key) 0 l) items
    ∙ push_from b s.own (own_with b s.own at slot.key) at 0 at s.slots.items slot (omega arith) len
    (elsewhere_laid b one s at slot.key absent)
    ∙ ap (λ (i : Option (K × V)). laid (held b s) at i) (laid_in b s.own at slot)

-- a key is laid down in an empty place
pub held_laid : {K V : Type 0} (b : K → Bool)
    → ((x y : K) → b x ≡ true → b y ≡ true → x ≡ y) → (s : Slots K V) (own : Option ℕ)
    (slots : List (Slot K V)) (at : ℕ) (slot : Slot K V) → IsAbsent (held b s) slot.key
    → at < length s.slots.items → own ≡ own_with b s.own at slot.key
    → slots ≡ slice_set s.slots.items at slot
    → held_from b own 0 slots ≡ laid (held b s) at (Some (slot.key, slot.value))
held_laid {K} {V} b one s own slots at slot absent within is_own items =
    let len = length-held b s.own 0 s.slots.items in
    ap (λ (o : Option ℕ). held_from b o 0 slots) is_own
    ∙ ap (λ (l : List (Slot K V)). held_from b (own_with b s.own at slot.key) 0 l) items
    ∙ set_from b s.own (own_with b s.own at slot.key) at 0 at s.slots.items slot (omega arith)
    (elsewhere_laid b one s at slot.key absent)
    ∙ ap (λ (i : Option (K × V)). slice_set (held b s) at i) (laid_in b s.own at slot)
    ∙ laid-set (held b s) at (Some (item_of slot)) (omega (arith, len))

-- a place is emptied
pub held_emptied : {K V : Type 0} (b : K → Bool) (s : Slots K V) (own : Option ℕ)
    (slots : List (Slot K V)) (at : ℕ) (slot : Slot K V) → b slot.key ≡ true
    → own ≡ own_without s.own at → slots ≡ slice_set s.slots.items at slot
    → held_from b own 0 slots ≡ slice_set (held b s) at None
held_emptied {K} {V} b s own slots at slot blank is_own items =
    ap (λ (o : Option ℕ). held_from b o 0 slots) is_own
    ∙ ap (λ (l : List (Slot K V)). held_from b (own_without s.own at) 0 l) items
    ∙ set_from b s.own (own_without s.own at) at 0 at s.slots.items slot (omega arith)
    (elsewhere_emptied b s at)
    ∙ ap (λ (i : Option (K × V)). slice_set (held b s) at i) (emptied_in b s.own at slot blank)
