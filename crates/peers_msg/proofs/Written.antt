-- The parameters of a definition, as they are written and read again.
use Rattle.std.proofs.Common.{◌≡◌, ℕ, zero, suc, ◌+◌, ◌-◌, ◌^◌, ◌<◌, ◌≤◌, Bool, true, false, ltb, leb}
use Rattle.std.proofs.Common.{◌==◌, ◌&&◌, ◌||◌, not, cond, eqb, List, [], ◌∷◌, ◌++◌, length, map, Option}
use Rattle.std.proofs.Common.{Some, None, refl, sym, ap, subst, ◌∙◌, append_assoc, arith, inl, inr}
use Rattle.std.specs.Prelude.{IfSome, option_to_list}
use Rattle.std.specs.Option.{option_map, option_map_or}
use Rattle.std.specs.List.{flat_map, AllByRecursion}
use Rattle.std.proofs.lemmas.Bool.{eqb-true, leb-true, cases_lt}
use Rattle.std.proofs.lemmas.Grind.{flat_map-append}
use Rattle.std.proofs.lemmas.List.{append-nil}
use Rattle.agg_types.specs.declared.column.TheConstants.{LAST_TYPE}
use Rattle.peers_msg.specs.declared.data_types.TheConstants.{GPC_RATE_ARRAY}
use Rattle.peers_msg.specs.declared.message.ArrayParameter.{ArrayParameter}
use Rattle.peers_msg.specs.declared.message.Definition.{Definition}
use Rattle.peers_msg.specs.declared.parameters.Parameter.{Parameter}
use Rattle.peers_msg.specs.declared.parameters.Parameter.TheVariants.{Pair, Array}
use Rattle.peers_msg.specs.Payload.{number_at, is_array, is_paired, parameter_at, parameters_at}
use Rattle.peers_msg.specs.Payload.{array_behind, parameters_within, pairs_in, arrays_in}
use Rattle.peers_msg.specs.Spelling.{integer_spelling, parameter_spelling, period_spelling}
use Rattle.peers_msg.specs.Spelling.{array_id, pair_id, last_of, parameter_of, parameters_from}
use Rattle.peers_msg.specs.Spelling.{parameters_of, IsPeriod, HasOwnPeriod, IsArray, IsDefinition}
use Rattle.peers_msg.specs.Spelling.{Ascend, IsInOrder, in_order}
use Rattle.peers_msg.proofs.Numerals.{number_again}
use Rattle.peers_msg.proofs.Payloads.{bool_is, rest_parameters, parameters_step}

and_parts : (a b : Bool) → (a && b) ≡ true → (a ≡ true) × (b ≡ true)
and_parts true b is = (refl, is)
and_parts false b is = absurd cc

neither_parts : (a b : Bool) → not (a || b) ≡ true → (a ≡ false) × (b ≡ false)
neither_parts true b is = absurd cc
neither_parts false true is = absurd cc
neither_parts false false is = (refl, refl)

-- the second of three, where the first isn't chosen
pub second_of : {A : Type 0} → (a b : Bool) (x y z : A) → a ≡ false → b ≡ true
    → cond a x (cond b y z) ≡ y
second_of a b x y z p q = rw (p, q) refl

-- a paired data type is small and no array
pub paired_is : (id : ℕ) → is_paired id ≡ true → (id ≤ LAST_TYPE) × (is_array id ≡ false)
paired_is id is =
    let parts = and_parts (leb id LAST_TYPE) _ is in
    let none = neither_parts _ (is_array id) parts.1 in
    (leb-true id LAST_TYPE parts.0, none.1)

pub array_is : (id : ℕ) → is_array id ≡ true → id ≤ LAST_TYPE
array_is id is =
    let parts = and_parts _ (leb id GPC_RATE_ARRAY) is in
    omega (arith, leb-true id GPC_RATE_ARRAY parts.1)

-- ---- read again

-- a parameter that is read as it stands
abbrev pub IsKept : Parameter → Type 0
IsKept (Pair id period) = (is_paired id ≡ true) × (period < 2 ^ 64)
IsKept (Array array) = (is_array array.id ≡ true) × IsArray array

pair_again : (id period : ℕ) (rest : List ℕ) → IsKept (Pair id period)
    → parameter_at (parameter_spelling (Pair id period) ++ rest) ≡ Some (Pair id period, rest)
unfolding parameter_at
pair_again id period rest fits =
    let parts = paired_is id fits.0 in
    let regrouped : (integer_spelling id ++ integer_spelling period) ++ rest
    ≡ integer_spelling id ++ (integer_spelling period ++ rest)
    = append_assoc (integer_spelling id) (integer_spelling period) rest in
    ap parameter_at regrouped ∙ rw (
      number_again id (integer_spelling period ++ rest) (omega (arith, parts.0)),
      number_again period rest fits.1,
      second_of (is_array id) (is_paired id) (array_behind id period rest)
          (Some (Pair id period, rest)) None parts.1 fits.0,
    ) refl

array_again : (id count : ℕ) (period : Option ℕ) (rest : List ℕ) → is_array id ≡ true
    → count < 2 ^ 64 → HasOwnPeriod id period
    → parameter_at ((integer_spelling id ++ integer_spelling count ++ period_spelling period)
    ++ rest) ≡ Some (Array (record { id = id; count = count; period = period }), rest)
unfolding parameter_at
array_again id count None rest array small own =
    let regrouped : (integer_spelling id ++ integer_spelling count ++ []) ++ rest
    ≡ integer_spelling id ++ (integer_spelling count ++ rest) = simp (append_assoc, append-nil) in
    ap parameter_at regrouped ∙ rw (
      number_again id (integer_spelling count ++ rest) (omega (arith, array_is id array)),
      number_again count rest small,
      array,
      own,
    ) refl
array_again id count (Some period) rest array small own =
    let regrouped : (integer_spelling id ++ integer_spelling count ++ integer_spelling period)
    ++ rest ≡ integer_spelling id ++ (integer_spelling count ++ (integer_spelling period ++ rest))
    = simp append_assoc in
    ap parameter_at regrouped ∙ rw (
      number_again id (integer_spelling count ++ (integer_spelling period ++ rest))
          (omega (arith, array_is id array)),
      number_again count (integer_spelling period ++ rest) small,
      array,
      own.0,
      number_again period rest own.1,
    ) refl

parameter_again : (p : Parameter) (rest : List ℕ) → IsKept p
    → parameter_at (parameter_spelling p ++ rest) ≡ Some (p, rest)
parameter_again (Pair id period) rest fits = pair_again id period rest fits
parameter_again (Array array) rest fits =
    array_again array.id array.count array.period rest fits.0 fits.1.0 fits.1.1

parameters_none : parameters_at [] ≡ []
unfolding parameters_within
parameters_none = refl

pub parameters_again : (ps : List Parameter) → AllByRecursion IsKept ps
    → parameters_at (flat_map parameter_spelling ps) ≡ ps
parameters_again [] fits = parameters_none
parameters_again (p ∷ ps) fits =
    parameters_step (flat_map parameter_spelling (p ∷ ps))
    ∙ ap (rest_parameters parameters_at)
    (parameter_again p (flat_map parameter_spelling ps) fits.0)
    ∙ ap (λ (qs : List Parameter). p ∷ qs) (parameters_again ps fits.1)

-- the parameter of an id, and those behind it
pub parameters_more : (d : Definition) (id : ℕ) (out new : List ℕ) → id < suc LAST_TYPE
    → new ≡ out ++ flat_map parameter_spelling (option_to_list (parameter_of d id))
    → new ++ flat_map parameter_spelling (parameters_from d (suc LAST_TYPE - (id + 1)) (id + 1))
    ≡ out ++ flat_map parameter_spelling (parameters_from d (suc LAST_TYPE - id) id)
parameters_more d id out new lt is =
    let one : id + 1 ≡ suc id = omega arith in
    let more : suc LAST_TYPE - id ≡ suc (suc LAST_TYPE - suc id) = omega (arith, lt) in
    let next = parameters_from d (suc LAST_TYPE - suc id) (suc id) in
    rw (one, more, is) (append_assoc out
    (flat_map parameter_spelling (option_to_list (parameter_of d id)))
    (flat_map parameter_spelling next) ∙ ap (λ (bs : List ℕ). out ++ bs)
    (sym (flat_map-append parameter_spelling (option_to_list (parameter_of d id)) next)))

-- ---- what is written is read as it stands

abbrev OfId : {A : Type 0} → (A → ℕ) → (A → Type 0) → ℕ → A → Type 0
OfId id_of P id x = (id_of x ≡ id) × P x

last_next : {A : Type 0} → (id_of : A → ℕ) (P : A → Type 0) (x : A) (found : Option A) (id : ℕ)
    → P x → IfSome found (OfId id_of P id)
    → IfSome (cond (id_of x == id) (Some x) found) (OfId id_of P id)
last_next id_of P x found id fits is =
    elim (bool_is (id_of x == id)) [
      | inl same ↦ rw same (eqb-true (id_of x) id same, fits)
      | inr other ↦ rw other is
    ]

last_kept : {A : Type 0} → (id_of : A → ℕ) (P : A → Type 0) (xs : List A) (found : Option A)
    (id : ℕ) → AllByRecursion P xs → IfSome found (OfId id_of P id)
    → IfSome (last_of id_of found id xs) (OfId id_of P id)
last_kept id_of P [] found id fits is = is
last_kept id_of P (x ∷ xs) found id fits is =
    last_kept id_of P xs (cond (id_of x == id) (Some x) found) id fits.1
    (last_next id_of P x found id fits.0 is)

array_kept : (id : ℕ) (o : Option ArrayParameter) → is_array id ≡ true
    → IfSome o (OfId array_id IsArray id) → IfSome (option_map Array o) IsKept
array_kept id None array is = tt
array_kept id (Some found) array is =
    (subst (λ n. is_array n ≡ true) (sym is.0) array, is.1)

pair_kept : (id : ℕ) (o : Option (ℕ × ℕ)) → is_paired id ≡ true
    → IfSome o (OfId pair_id IsPeriod id)
    → IfSome (option_map (λ (pair : ℕ × ℕ). Pair pair.0 pair.1) o) IsKept
pair_kept id None paired is = tt
pair_kept id (Some found) paired is =
    (subst (λ n. is_paired n ≡ true) (sym is.0) paired, is.1)

-- what is chosen of an array, a pair and none
abbrev chosen : Bool → Bool → Option ArrayParameter → Option (ℕ × ℕ) → Option Parameter
chosen array paired o p =
    cond array (option_map Array o)
    (cond paired (option_map (λ (pair : ℕ × ℕ). Pair pair.0 pair.1) p) None)

chosen_kept : (array paired : Bool) (id : ℕ) (o : Option ArrayParameter) (p : Option (ℕ × ℕ))
    → is_array id ≡ array → is_paired id ≡ paired → IfSome o (OfId array_id IsArray id)
    → IfSome p (OfId pair_id IsPeriod id) → IfSome (chosen array paired o p) IsKept
chosen_kept true paired id o p array is has_o has_p = array_kept id o array has_o
chosen_kept false true id o p array is has_o has_p = pair_kept id p is has_p
chosen_kept false false id o p array is has_o has_p = tt

one_kept : (d : Definition) (id : ℕ) → IsDefinition d → IfSome (parameter_of d id) IsKept
one_kept d id fits =
    chosen_kept (is_array id) (is_paired id) id (last_of array_id None id d.arrays)
    (last_of pair_id None id d.periods) refl refl
    (last_kept array_id IsArray d.arrays None id fits.arrays tt)
    (last_kept pair_id IsPeriod d.periods None id fits.periods tt)

front_kept : (o : Option Parameter) (ps : List Parameter) → IfSome o IsKept
    → AllByRecursion IsKept ps → AllByRecursion IsKept (option_to_list o ++ ps)
front_kept None ps is all = all
front_kept (Some p) ps is all = (is, all)

from_kept : (d : Definition) (n id : ℕ) → IsDefinition d
    → AllByRecursion IsKept (parameters_from d n id)
from_kept d zero id fits = tt
from_kept d (suc n) id fits =
    front_kept (parameter_of d id) (parameters_from d n (suc id)) (one_kept d id fits)
    (from_kept d n (suc id) fits)

pub written_again : (d : Definition) → IsDefinition d
    → parameters_at (flat_map parameter_spelling (parameters_of d)) ≡ parameters_of d
written_again d fits = parameters_again (parameters_of d) (from_kept d (suc LAST_TYPE) 0 fits)

-- ---- what is in order stays as it is

-- what each id from this one on has last, where the id is one of those
abbrev own : {A : Type 0} → (A → ℕ) → (ℕ → Bool) → List A → ℕ → Option A
own id_of valid xs id = cond (valid id) (last_of id_of None id xs) None

abbrev own_from : {A : Type 0} → (A → ℕ) → (ℕ → Bool) → List A → ℕ → ℕ → List A
own_from id_of valid xs zero id = []
own_from id_of valid xs (suc n) id =
    option_to_list (own id_of valid xs id) ++ own_from id_of valid xs n (suc id)

-- greater ids don't matter
last_past : {A : Type 0} → (id_of : A → ℕ) (found : Option A) (id least : ℕ) (xs : List A)
    → id < least → Ascend least (map id_of xs) → last_of id_of found id xs ≡ found
last_past id_of found id least [] lt is = refl
last_past id_of found id least (x ∷ xs) lt is =
    let other : eqb (id_of x) id ≡ false = grind (arith, is.0, lt) in
    rw other (last_past id_of found id (suc (id_of x)) xs (omega (arith, is.0, lt)) is.2)

-- nor does a smaller one at the front
own_skip : {A : Type 0} → (id_of : A → ℕ) (valid : ℕ → Bool) (x : A) (xs : List A) (n id : ℕ)
    → id_of x < id → own_from id_of valid (x ∷ xs) n id ≡ own_from id_of valid xs n id
own_skip id_of valid x xs zero id lt = refl
own_skip id_of valid x xs (suc n) id lt =
    let other : eqb (id_of x) id ≡ false = grind (arith, lt) in
    rw (other, own_skip id_of valid x xs n (suc id) (omega (arith, lt))) refl

own_none : {A : Type 0} → (id_of : A → ℕ) (valid : ℕ → Bool) (n id : ℕ)
    → own_from id_of valid [] n id ≡ []
own_none id_of valid zero id = refl
own_none id_of valid (suc n) id =
    elim (bool_is (valid id)) [
      | inl some ↦ rw some (own_none id_of valid n (suc id))
      | inr none ↦ rw none (own_none id_of valid n (suc id))
    ]

own_later : {A : Type 0} → (id_of : A → ℕ) (valid : ℕ → Bool) (xs : List A) (id : ℕ)
    → Ascend (suc id) (map id_of xs) → own id_of valid xs id ≡ None
own_later id_of valid xs id is =
    elim (bool_is (valid id)) [
      | inl some ↦ rw some (last_past id_of None id (suc id) xs (omega arith) is)
      | inr none ↦ rw none refl
    ]

own_same : {A : Type 0} → (id_of : A → ℕ) (valid : ℕ → Bool) (n id : ℕ) (xs : List A)
    → id + n ≡ suc LAST_TYPE → Ascend id (map id_of xs)
    → AllByRecursion (λ x. valid (id_of x) ≡ true) xs → own_from id_of valid xs n id ≡ xs
own_same id_of valid n id [] sum is fits = own_none id_of valid n id
own_same id_of valid zero id (x ∷ xs) sum is fits = absurd (omega (arith, sum, is.0, is.1))
own_same id_of valid (suc n) id (x ∷ xs) sum is fits =
    elim (cases_lt id (id_of x)) [
      | inl later ↦
          let none : own id_of valid (x ∷ xs) id ≡ None =
          own_later id_of valid (x ∷ xs) id (later, is.1, is.2) in
          rw none (own_same id_of valid n (suc id) (x ∷ xs) (omega (arith, sum))
          (later, is.1, is.2) fits)
      | inr here ↦
          let e : id_of x ≡ id = omega (arith, here, is.0) in
          let some : valid id ≡ true = subst (λ m. valid m ≡ true) e fits.0 in
          let same : eqb (id_of x) id ≡ true = grind (arith, e) in
          let after : Ascend (suc id) (map id_of xs) =
          subst (λ m. Ascend (suc m) (map id_of xs)) e is.2 in
          rw (
            some,
            same,
            last_past id_of (Some x) id (suc id) xs (omega arith) after,
            own_skip id_of valid x xs n (suc id) (omega (arith, e)),
            own_same id_of valid n (suc id) xs (omega (arith, sum)) after fits.1,
          ) refl
    ]

differ : true ≡ false → ⊥
differ e = cc

-- the pairs among the parameters are each id's last pair, and so with the arrays
chosen_pairs : (array paired : Bool) (o : Option ArrayParameter) (p : Option (ℕ × ℕ))
    (ps : List Parameter) → (paired ≡ true → array ≡ false)
    → pairs_in (option_to_list (chosen array paired o p) ++ ps)
    ≡ option_to_list (cond paired p None) ++ pairs_in ps
chosen_pairs true true o p ps apart = absurd (differ (apart refl))
chosen_pairs true false None p ps apart = refl
chosen_pairs true false (Some array) p ps apart = refl
chosen_pairs false true o None ps apart = refl
chosen_pairs false true o (Some pair) ps apart = refl
chosen_pairs false false o p ps apart = refl

chosen_arrays : (array paired : Bool) (o : Option ArrayParameter) (p : Option (ℕ × ℕ))
    (ps : List Parameter) → arrays_in (option_to_list (chosen array paired o p) ++ ps)
    ≡ option_to_list (cond array o None) ++ arrays_in ps
chosen_arrays true paired None p ps = refl
chosen_arrays true paired (Some array) p ps = refl
chosen_arrays false true o None ps = refl
chosen_arrays false true o (Some pair) ps = refl
chosen_arrays false false o p ps = refl

pairs_from : (d : Definition) (n id : ℕ)
    → pairs_in (parameters_from d n id) ≡ own_from pair_id is_paired d.periods n id
pairs_from d zero id = refl
pairs_from d (suc n) id =
    chosen_pairs (is_array id) (is_paired id) (last_of array_id None id d.arrays)
    (last_of pair_id None id d.periods) (parameters_from d n (suc id))
    (λ paired. (paired_is id paired).1)
    ∙ ap (λ (ps : List (ℕ × ℕ)). option_to_list (own pair_id is_paired d.periods id) ++ ps)
    (pairs_from d n (suc id))

arrays_from : (d : Definition) (n id : ℕ)
    → arrays_in (parameters_from d n id) ≡ own_from array_id is_array d.arrays n id
arrays_from d zero id = refl
arrays_from d (suc n) id =
    chosen_arrays (is_array id) (is_paired id) (last_of array_id None id d.arrays)
    (last_of pair_id None id d.periods) (parameters_from d n (suc id))
    ∙ ap (λ (xs : List ArrayParameter). option_to_list (own array_id is_array d.arrays id) ++ xs)
    (arrays_from d n (suc id))

same_definition : (d : Definition) (pairs : List (ℕ × ℕ)) (arrays : List ArrayParameter)
    → pairs ≡ d.periods → arrays ≡ d.arrays
    → record d { periods = pairs; arrays = arrays } ≡ d
same_definition d pairs arrays p a = rw (p, a) refl

pub in_order_same : (d : Definition) → IsInOrder d → in_order d ≡ d
in_order_same d is =
    same_definition d (pairs_in (parameters_of d)) (arrays_in (parameters_of d))
    (pairs_from d (suc LAST_TYPE) 0
    ∙ own_same pair_id is_paired (suc LAST_TYPE) 0 d.periods refl is.pairs is.are_pairs)
    (arrays_from d (suc LAST_TYPE) 0
    ∙ own_same array_id is_array (suc LAST_TYPE) 0 d.arrays refl is.arrays is.are_arrays)
