-- A field takes a byte or more, and all pairs are the first one and those after it.
use Rattle.std.proofs.Common.{inl, inr, ◌⊎◌, ◌==◌, ◌≡◌, ℕ, zero, suc, ◌^◌, ◌<◌, ◌≤◌, Bool, true, false, cond, ltb, leb}
use Rattle.std.proofs.Common.{List, [], ◌∷◌, ◌++◌, length, drop, Option, Some, None, Result, Ok}
use Rattle.std.proofs.Common.{Err, refl, sym, ap, ◌∙◌, append_assoc, length-drop, arith}
use Rattle.std.specs.Option.{option_map_or}
use Rattle.std.proofs.lemmas.List.{append-nil}
use Rattle.std.proofs.lemmas.Option.{none-some, same_Some}
use Rattle.peers_msg.specs.declared.data_types.TheConstants.{GPC_RATE_ARRAY}
use Rattle.peers_msg.specs.declared.parameters.Parameter.{Parameter}
use Rattle.peers_msg.specs.declared.parameters.Parameter.TheVariants.{Pair, Array}
use Rattle.peers_msg.specs.declared.integer.IntTooLarge.{IntTooLarge}
use Rattle.peers_msg.specs.Numeral.{integer_at, spelling_front, spelling_ends, value}
use Rattle.peers_msg.specs.Payload.{◌>>=◌, split_found, number_at, is_array, is_paired}
use Rattle.peers_msg.specs.Payload.{array_behind, parameter_behind, parameter_at}
use Rattle.peers_msg.specs.Payload.{parameters_within, parameters_at, pairs_in, arrays_in}

pub bool_is : (b : Bool) → (b ≡ true) ⊎ (b ≡ false)
bool_is true = inl refl
bool_is false = inr refl

-- the value of a step that gave one
pub bind_some : {A B : Type 0} (o : Option A) (f : A → Option B) (y : B) → (o >>= f) ≡ Some y
    → (x : A) × (o ≡ Some x) × (f x ≡ Some y)
bind_some (Some x) f y e = (x, refl, e)
bind_some None f y e = absurd cc

-- a test that gave a value
pub guard_some : {A : Type 0} (b : Bool) (x y : A) → cond b None (Some x) ≡ Some y
    → (b ≡ false) × (x ≡ y)
guard_some true x y e = absurd cc
guard_some false x y e = (refl, cc)

abbrev answer : Bool → Bool → ℕ → ℕ → Result (Option (ℕ × ℕ)) IntTooLarge
answer over ends n len = cond over (Err (record {})) (cond ends (Ok (Some (n, len))) (Ok None))

split_shorter : (bytes : List ℕ) (over ends : Bool) (n len : ℕ) (x : ℕ × List ℕ) → 0 < len
    → 0 < length bytes → split_found bytes (answer over ends n len) ≡ Some x
    → length x.1 < length bytes
split_shorter bytes true ends n len x pos some e = absurd cc
split_shorter bytes false true n len x pos some e =
    let d : drop len bytes ≡ x.1 =
    ap (λ (o : Option (ℕ × List ℕ)). option_map_or (λ p. p.1) o []) e in
    rw (← d) (omega (arith, length-drop len bytes))
split_shorter bytes false false n len x pos some e = absurd cc

cond_pos : (b : Bool) (x : ℕ) (ys zs : List ℕ) → 0 < length (cond b (x ∷ ys) (x ∷ zs))
cond_pos true x ys zs = omega arith
cond_pos false x ys zs = omega arith

pub number_shorter : (bytes : List ℕ) (x : ℕ × List ℕ) → number_at bytes ≡ Some x
    → length x.1 < length bytes
unfolding number_at integer_at
number_shorter [] x e = absurd cc
number_shorter (b ∷ bytes) x e =
    split_shorter (b ∷ bytes) (leb (2 ^ 64) (value (spelling_front (b ∷ bytes))))
    (spelling_ends (b ∷ bytes)) (value (spelling_front (b ∷ bytes)))
    (length (spelling_front (b ∷ bytes))) x (cond_pos _ b _ _) (omega arith) e

number_then_shorter : (bytes : List ℕ) (n : ℕ × List ℕ) (make : ℕ → Parameter)
    (x : Parameter × List ℕ) → number_at bytes ≡ Some n → Some (make n.0, n.1) ≡ Some x
    → length x.1 < length bytes
number_then_shorter bytes n make x is same =
    let r : n.1 ≡ x.1 = ap (λ (p : Parameter × List ℕ). p.1) (same_Some (make n.0, n.1) x same) in
    rw (← r) (number_shorter bytes n is)

array_shorter : (id count : ℕ) (bytes : List ℕ) (x : Parameter × List ℕ)
    → array_behind id count bytes ≡ Some x → length x.1 ≤ length bytes
array_shorter id count bytes x e =
    elim (bool_is (id == GPC_RATE_ARRAY)) [
      | inl rates ↦
          let f = rw rates at e in
          let b = bind_some (number_at bytes) _ x f in
          let r : b.0.1 ≡ x.1 =
          ap (λ (p : Parameter × List ℕ). p.1) (same_Some _ x b.2) in
          rw (← r) (omega (arith, number_shorter bytes b.0 b.1))
      | inr none ↦
          let f = rw none at e in
          let r : bytes ≡ x.1 = ap (λ (p : Parameter × List ℕ). p.1) (same_Some _ x f) in
          rw (← r) (omega arith)
    ]

chosen_shorter : (array paired : Bool) (id number : ℕ) (bytes : List ℕ)
    (x : Parameter × List ℕ) → cond array (array_behind id number bytes)
    (cond paired (Some (Pair id number, bytes)) None) ≡ Some x → length x.1 ≤ length bytes
chosen_shorter true paired id number bytes x e = array_shorter id number bytes x e
chosen_shorter false true id number bytes x e =
    let r : bytes ≡ x.1 = ap (λ (p : Parameter × List ℕ). p.1) (same_Some _ x e) in
    rw (← r) (omega arith)
chosen_shorter false false id number bytes x e = absurd (none-some x e)

behind_shorter : (id number : ℕ) (bytes : List ℕ) (x : Parameter × List ℕ)
    → parameter_behind id number bytes ≡ Some x → length x.1 ≤ length bytes
behind_shorter id number bytes x e =
    chosen_shorter (is_array id) (is_paired id) id number bytes x e

pub parameter_shorter : (bytes : List ℕ) (x : Parameter × List ℕ) → parameter_at bytes ≡ Some x
    → length x.1 < length bytes
unfolding parameter_at
parameter_shorter bytes x e =
    let a = bind_some (number_at bytes)
    (λ id. number_at id.1 >>= λ value. parameter_behind id.0 value.0 value.1) x e in
    let b = bind_some (number_at a.0.1) (λ value. parameter_behind a.0.0 value.0 value.1) x a.2 in
    let s = number_shorter bytes a.0 a.1 in
    let t = number_shorter a.0.1 b.0 b.1 in
    let u = behind_shorter a.0.0 b.0.0 b.0.1 x b.2 in
    omega (arith, s, t, u)

abbrev pub rest_parameters : (List ℕ → List Parameter) → Option (Parameter × List ℕ)
    → List Parameter
rest_parameters next o = option_map_or (λ p. p.0 ∷ next p.1) o []

same_rest : (next other : List ℕ → List Parameter) (o : Option (Parameter × List ℕ))
    → ((x : Parameter × List ℕ) → o ≡ Some x → next x.1 ≡ other x.1)
    → rest_parameters next o ≡ rest_parameters other o
same_rest next other None h = refl
same_rest next other (Some x) h = ap (λ (ps : List Parameter). x.0 ∷ ps) (h x refl)

parameters_nil : (o : Option (Parameter × List ℕ)) (next : List ℕ → List Parameter)
    (bytes : List ℕ) → length bytes ≤ 0
    → ((x : Parameter × List ℕ) → o ≡ Some x → length x.1 < length bytes)
    → [] ≡ rest_parameters next o
parameters_nil None next bytes le h = refl
parameters_nil (Some x) next bytes le h = absurd (omega (arith, h x refl))

-- enough is enough
parameters_enough : (n m : ℕ) (bytes : List ℕ) → length bytes ≤ n → length bytes ≤ m
    → parameters_within n bytes ≡ parameters_within m bytes
unfolding parameters_within
parameters_enough zero zero bytes p q = refl
parameters_enough zero (suc m) bytes p q =
    parameters_nil (parameter_at bytes) (parameters_within m) bytes p (parameter_shorter bytes)
parameters_enough (suc n) zero bytes p q =
    sym (parameters_nil (parameter_at bytes) (parameters_within n) bytes q
    (parameter_shorter bytes))
parameters_enough (suc n) (suc m) bytes p q =
    same_rest (parameters_within n) (parameters_within m) (parameter_at bytes)
    (λ x e. parameters_enough n m x.1 (omega (arith, parameter_shorter bytes x e))
    (omega (arith, parameter_shorter bytes x e)))

-- all parameters are the first and those after it
pub parameters_step : (bytes : List ℕ)
    → parameters_at bytes ≡ rest_parameters parameters_at (parameter_at bytes)
unfolding parameters_within
parameters_step bytes =
    parameters_enough (length bytes) (suc (length bytes)) bytes (omega arith) (omega arith)
    ∙ same_rest (parameters_within (length bytes)) parameters_at (parameter_at bytes)
    (λ x e. parameters_enough (length bytes) (length x.1) x.1
    (omega (arith, parameter_shorter bytes x e)) (omega arith))

-- a part of what is read, as the pairs or the arrays, that goes over lists
pub part_more : {A : Type 0} → (part : List Parameter → List A) (found : List A)
    (rest after all : List ℕ) (next : Parameter)
    → ((p : Parameter) (ps : List Parameter) → part (p ∷ ps) ≡ part (p ∷ []) ++ part ps)
    → found ++ part (parameters_at rest) ≡ part (parameters_at all)
    → parameter_at rest ≡ Some (next, after)
    → (found ++ part (next ∷ [])) ++ part (parameters_at after) ≡ part (parameters_at all)
part_more part found rest after all next goes so_far e =
    let s : parameters_at rest ≡ next ∷ parameters_at after =
    parameters_step rest ∙ ap (rest_parameters parameters_at) e in
    append_assoc found (part (next ∷ [])) (part (parameters_at after))
    ∙ ap (λ xs. found ++ xs) (sym (goes next (parameters_at after)))
    ∙ ap (λ ps. found ++ part ps) (sym s) ∙ so_far

pub part_done : {A : Type 0} → (part : List Parameter → List A) (found : List A)
    (rest all : List ℕ) → part [] ≡ [] → found ++ part (parameters_at rest) ≡ part (parameters_at all)
    → parameter_at rest ≡ None → found ≡ part (parameters_at all)
part_done part found rest all none so_far e =
    let s : parameters_at rest ≡ [] =
    parameters_step rest ∙ ap (rest_parameters parameters_at) e in
    sym (append-nil found) ∙ ap (λ xs. found ++ xs) (sym none)
    ∙ ap (λ ps. found ++ part ps) (sym s) ∙ so_far

pub pairs_go : (p : Parameter) (ps : List Parameter)
    → pairs_in (p ∷ ps) ≡ pairs_in (p ∷ []) ++ pairs_in ps
pairs_go (Pair id period) ps = refl
pairs_go (Array array) ps = refl

pub arrays_go : (p : Parameter) (ps : List Parameter)
    → arrays_in (p ∷ ps) ≡ arrays_in (p ∷ []) ++ arrays_in ps
arrays_go (Pair id period) ps = refl
arrays_go (Array array) ps = refl
