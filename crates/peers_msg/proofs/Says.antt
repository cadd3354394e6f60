-- The message that the function on bytes reads from a payload is the one that the payload says.
use Rattle.std.proofs.Common.{◌≡◌, ℕ, zero, suc, ◌+◌, ◌≤◌, Bool, true, false, cond, ltb, List, []}
use Rattle.std.proofs.Common.{◌∷◌, ◌++◌, length, take, drop, Option, Some, None, Result, Ok, Err}
use Rattle.std.proofs.Common.{refl, sym, ap, subst, ◌∙◌, append_assoc, length-append, length-take}
use Rattle.std.proofs.Common.{arith, inl, inr, ◌==◌}
use Rattle.std.specs.Option.{option_map_or}
use Rattle.std.specs.Int.{w32, from_be_bytes}
use Rattle.std.proofs.lemmas.Bool.{ltb-false, le-ltb, cases_lt}
use Rattle.std.proofs.lemmas.List.{take_at, drop_at, take-append-drop, get_or-drop, get_or-take}
use Rattle.std.proofs.lemmas.List.{get_or_past, append-nil}
use Rattle.std.proofs.lemmas.Option.{none-some, same_Some}
use Rattle.peers_msg.specs.declared.data_types.TheConstants.{GPC_RATE_ARRAY}
use Rattle.peers_msg.specs.declared.integer.IntTooLarge.{IntTooLarge}
use Rattle.peers_msg.specs.declared.message.Definition.{Definition}
use Rattle.peers_msg.specs.declared.parameters.Parameter.{Parameter}
use Rattle.peers_msg.specs.declared.parameters.Parameter.TheVariants.{Pair, Array}
use Rattle.peers_msg.specs.declared.message.Message.{Message}
use Rattle.peers_msg.specs.declared.message.Message.TheVariants as messages
use Rattle.peers_msg.specs.Numeral.{integer_at}
use Rattle.peers_msg.specs.Payload.{◌>>=◌, split_found, number_at, word_at, word_if, string_at}
use Rattle.peers_msg.specs.Payload.{is_array, is_paired, array_behind, parameter_behind}
use Rattle.peers_msg.specs.Payload.{parameter_at, parameters_at, pairs_in, arrays_in}
use Rattle.peers_msg.specs.Payload.{definition_of, switch_of, acked_of, update_of}
use Rattle.peers_msg.specs.Spelling.{update_kind}
use Rattle.peers_msg.specs.Reads.{AreBytes, Spells, SpellsWord, SpellsParameter, SpellsPeriod}
use Rattle.peers_msg.specs.Reads.{BeginsWith, Defines, SaysOfTable}
use Rattle.peers_msg.proofs.Numerals.{integer_spelled}
use Rattle.peers_msg.proofs.Written.{paired_is, second_of}
use Rattle.peers_msg.proofs.Payloads.{bool_is, bind_some, guard_some, rest_parameters}
use Rattle.peers_msg.proofs.Payloads.{parameters_step, parameter_shorter}
use Rattle.peers_msg.proofs.Again.{word_spelled}
use Rattle.peers_msg.proofs.Exact.{found_is}

pub drop_bytes : (n : ℕ) (bytes : List ℕ) → AreBytes bytes → AreBytes (drop n bytes)
drop_bytes n bytes fits i = rw get_or-drop (fits (n + i))

pub take_bytes : (n : ℕ) (bytes : List ℕ) → AreBytes bytes → AreBytes (take n bytes)
take_bytes n bytes fits i =
    elim (cases_lt i n) [
      | inl lt ↦ rw (get_or-take n bytes i 0 lt) (fits i)
      | inr le ↦ rw (get_or_past (take n bytes) i 0 (omega (arith, length-take n bytes)))
          (omega arith)
    ]

-- the bytes after a front are bytes
pub rest_bytes : (front rest bytes : List ℕ) → bytes ≡ front ++ rest → AreBytes bytes
    → AreBytes rest
rest_bytes front rest bytes e fits =
    subst AreBytes (ap (drop (length front)) e ∙ drop_at front rest (length front) refl)
    (drop_bytes (length front) bytes fits)

-- ---- numbers

split_some : (bytes : List ℕ) (r : Result (Option (ℕ × ℕ)) IntTooLarge) (x : ℕ × List ℕ)
    → split_found bytes r ≡ Some x → (found : ℕ × ℕ) × (r ≡ Ok (Some found)) × (found.0 ≡ x.0)
    × (drop found.1 bytes ≡ x.1)
split_some bytes (Ok (Some found)) x e = (
  found,
  refl,
  ap (λ (o : Option (ℕ × List ℕ)). option_map_or (λ p. p.0) o 0) e,
  ap (λ (o : Option (ℕ × List ℕ)). option_map_or (λ p. p.1) o []) e,
)
split_some bytes (Ok None) x e = absurd cc
split_some bytes (Err over) x e = absurd cc

pub number_is : (bytes : List ℕ) (x : ℕ × List ℕ) → AreBytes bytes → number_at bytes ≡ Some x
    → (text : List ℕ) × (bytes ≡ text ++ x.1) × Spells text x.0
unfolding number_at
number_is bytes x fits e =
    let s = split_some bytes (integer_at bytes) x e in
    let f = found_is bytes fits s.0.0 s.0.1 s.1 in
    let r : f.1 ≡ x.1 = sym (drop_at f.0 f.1 s.0.1 f.5) ∙ ap (drop s.0.1) (sym f.2) ∙ s.3 in
    (f.0, f.2 ∙ ap (λ (bs : List ℕ). f.0 ++ bs) r, (f.3, f.4 ∙ s.2, omega (arith, f.6, s.2)))

pub is_number : (text rest : List ℕ) (n : ℕ) → Spells text n
    → number_at (text ++ rest) ≡ Some (n, rest)
unfolding number_at
is_number text rest n is =
    rw (
      integer_spelled text rest is.0 (omega (arith, is.1, is.2)),
      drop_at text rest (length text) refl,
    ) (ap (λ k. Some (k, rest)) is.1)

-- ---- words

word_is : (bytes : List ℕ) (x : ℕ × List ℕ) → word_at bytes ≡ Some x → (text : List ℕ)
    × (bytes ≡ text ++ x.1) × SpellsWord text (Some x.0)
unfolding word_at
word_is bytes x e =
    let g = guard_some (ltb (length bytes) 4) (
      from_be_bytes w32 (take 4 bytes),
      drop 4 bytes,
    ) x e in
    let long = ltb-false _ _ g.0 in
    let r : drop 4 bytes ≡ x.1 = ap (λ (p : ℕ × List ℕ). p.1) g.1 in (
      take 4 bytes,
      sym (take-append-drop 4 bytes) ∙ ap (λ (bs : List ℕ). take 4 bytes ++ bs) r,
      (omega (arith, length-take 4 bytes), ap (λ (p : ℕ × List ℕ). p.0) g.1),
    )

pub is_word : (text rest : List ℕ) (n : ℕ) → SpellsWord text (Some n)
    → word_at (text ++ rest) ≡ Some (n, rest)
is_word text rest n is = word_spelled text rest is.0 ∙ ap (λ k. Some (k, rest)) is.1

abbrev pub has : Option ℕ → Bool
has None = false
has (Some n) = true

word_if_is : (wanted : Bool) (bytes : List ℕ) (x : Option ℕ × List ℕ)
    → word_if wanted bytes ≡ Some x → (text : List ℕ) × (bytes ≡ text ++ x.1) × SpellsWord text x.0
    × (has x.0 ≡ wanted)
word_if_is false bytes x e =
    let p : ◌≡◌ {A = Option ℕ × List ℕ} (None, bytes) x = cc in
    let q : bytes ≡ x.1 = ap (λ (y : Option ℕ × List ℕ). y.1) p in
    let o : None ≡ x.0 = ap (λ (y : Option ℕ × List ℕ). y.0) p in
    ([], q, subst (λ (w : Option ℕ). SpellsWord [] w) o refl, ap has (sym o))
word_if_is true bytes x e =
    let b = bind_some (word_at bytes) (λ word. Some (Some word.0, word.1)) x e in
    let w = word_is bytes b.0 b.1 in
    let p : ◌≡◌ {A = Option ℕ × List ℕ} (Some b.0.0, b.0.1) x = cc in
    let o : Some b.0.0 ≡ x.0 = ap (λ (y : Option ℕ × List ℕ). y.0) p in (
      w.0,
      w.1 ∙ ap (λ (y : Option ℕ × List ℕ). w.0 ++ y.1) p,
      subst (λ (v : Option ℕ). SpellsWord w.0 v) o w.2,
      ap has (sym o),
    )

is_word_if : (w : Option ℕ) (text rest : List ℕ) → SpellsWord text w
    → word_if (has w) (text ++ rest) ≡ Some (w, rest)
is_word_if None text rest is = ap (λ (bs : List ℕ). Some (None, bs ++ rest)) is
is_word_if (Some n) text rest is = rw (is_word text rest n is) refl

-- ---- strings

string_is : (bytes : List ℕ) (x : List ℕ × List ℕ) → AreBytes bytes → string_at bytes ≡ Some x
    → (size : List ℕ) × (bytes ≡ size ++ (x.0 ++ x.1)) × Spells size (length x.0)
unfolding string_at
string_is bytes x fits e =
    let b = bind_some (number_at bytes) (λ size. cond (ltb (length size.1) size.0) None
    (Some (take size.0 size.1, drop size.0 size.1))) x e in
    let g = guard_some (ltb (length b.0.1) b.0.0) (take b.0.0 b.0.1, drop b.0.0 b.0.1) x b.2 in
    let n = number_is bytes b.0 fits b.1 in
    let t : take b.0.0 b.0.1 ≡ x.0 = ap (λ (p : List ℕ × List ℕ). p.0) g.1 in
    let d : drop b.0.0 b.0.1 ≡ x.1 = ap (λ (p : List ℕ × List ℕ). p.1) g.1 in
    let parts : b.0.1 ≡ x.0 ++ x.1 = sym (take-append-drop b.0.0 b.0.1)
    ∙ ap (λ (bs : List ℕ). bs ++ drop b.0.0 b.0.1) t ∙ ap (λ (bs : List ℕ). x.0 ++ bs) d in
    let len : b.0.0 ≡ length x.0 = omega (
      arith,
      ap length t,
      length-take b.0.0 b.0.1,
      ltb-false _ _ g.0,
    ) in
    (n.0, n.1 ∙ ap (λ (bs : List ℕ). n.0 ++ bs) parts, subst (λ k. Spells n.0 k) len n.2)

is_string : (size text rest : List ℕ) → Spells size (length text)
    → string_at (size ++ (text ++ rest)) ≡ Some (text, rest)
unfolding string_at
is_string size text rest is =
    let long : ltb (length (text ++ rest)) (length text) ≡ false =
    le-ltb _ _ (omega (arith, length-append text rest)) in
    rw (
      is_number size (text ++ rest) (length text) is,
      long,
      take_at text rest (length text) refl,
      drop_at text rest (length text) refl,
    ) refl

-- ---- parameters

array_says : (id count : ℕ) (front bytes : List ℕ) (x : Parameter × List ℕ) → AreBytes bytes
    → is_array id ≡ true → (a b : List ℕ) → front ≡ a ++ b → Spells a id → Spells b count
    → array_behind id count bytes ≡ Some x
    → (text : List ℕ) × (front ++ bytes ≡ text ++ x.1) × SpellsParameter text x.0
array_says id count front bytes x fits array a b parts spells_id spells_count e =
    elim (bool_is (id == GPC_RATE_ARRAY)) [
      | inl rates ↦
          let f = rw rates at e in
          let p = bind_some (number_at bytes) _ x f in
          let n = number_is bytes p.0 fits p.1 in
          let whole : front ++ bytes ≡ (a ++ (b ++ n.0)) ++ p.0.1 =
          ap (λ (bs : List ℕ). front ++ bs) n.1 ∙ ap (λ (bs : List ℕ). bs ++ (n.0 ++ p.0.1)) parts
          ∙ append_assoc a b (n.0 ++ p.0.1)
          ∙ ap (λ (bs : List ℕ). a ++ bs) (sym (append_assoc b n.0 p.0.1))
          ∙ sym (append_assoc a (b ++ n.0) p.0.1) in
          subst (λ (y : Parameter × List ℕ). (text : List ℕ) × (front ++ bytes ≡ text ++ y.1)
          × SpellsParameter text y.0) (same_Some _ x p.2) (
            a ++ (b ++ n.0),
            whole,
            (a, b, n.0, refl, spells_id, spells_count, (rates, n.2), array),
          )
      | inr none ↦
          let f = rw none at e in
          let whole : front ++ bytes ≡ (a ++ (b ++ [])) ++ bytes =
          ap (λ (bs : List ℕ). bs ++ bytes) (parts
          ∙ ap (λ (bs : List ℕ). a ++ bs) (sym (append-nil b))) in
          subst (λ (y : Parameter × List ℕ). (text : List ℕ) × (front ++ bytes ≡ text ++ y.1)
          × SpellsParameter text y.0) (same_Some _ x f) (
            a ++ (b ++ []),
            whole,
            (a, b, [], refl, spells_id, spells_count, (none, refl), array),
          )
    ]

chosen_says : (array paired : Bool) (id number : ℕ) (front bytes : List ℕ)
    (x : Parameter × List ℕ) → AreBytes bytes → is_array id ≡ array → is_paired id ≡ paired
    → (a b : List ℕ) → front ≡ a ++ b → Spells a id → Spells b number
    → cond array (array_behind id number bytes)
    (cond paired (Some (Pair id number, bytes)) None) ≡ Some x
    → (text : List ℕ) × (front ++ bytes ≡ text ++ x.1) × SpellsParameter text x.0
chosen_says true paired id number front bytes x fits array is a b parts p q e =
    array_says id number front bytes x fits array a b parts p q e
chosen_says false true id number front bytes x fits array is a b parts p q e =
    subst (λ (y : Parameter × List ℕ). (text : List ℕ) × (front ++ bytes ≡ text ++ y.1)
    × SpellsParameter text y.0) (same_Some _ x e) (front, refl, (a, b, parts, p, q, is))
chosen_says false false id number front bytes x fits array is a b parts p q e =
    absurd (none-some x e)

behind_says : (id number : ℕ) (front bytes : List ℕ) (x : Parameter × List ℕ) → AreBytes bytes
    → (a b : List ℕ) → front ≡ a ++ b → Spells a id → Spells b number
    → parameter_behind id number bytes ≡ Some x
    → (text : List ℕ) × (front ++ bytes ≡ text ++ x.1) × SpellsParameter text x.0
behind_says id number front bytes x fits a b parts p q e =
    chosen_says (is_array id) (is_paired id) id number front bytes x fits refl refl a b parts p q e

parameter_is : (bytes : List ℕ) (x : Parameter × List ℕ) → AreBytes bytes
    → parameter_at bytes ≡ Some x
    → (text : List ℕ) × (bytes ≡ text ++ x.1) × SpellsParameter text x.0
unfolding parameter_at
parameter_is bytes x fits e =
    let a = bind_some (number_at bytes)
    (λ id. number_at id.1 >>= λ value. parameter_behind id.0 value.0 value.1) x e in
    let b = bind_some (number_at a.0.1) (λ value. parameter_behind a.0.0 value.0 value.1) x a.2 in
    let m = number_is bytes a.0 fits a.1 in
    let fits1 = rest_bytes m.0 a.0.1 bytes m.1 fits in
    let n = number_is a.0.1 b.0 fits1 b.1 in
    let fits2 = rest_bytes n.0 b.0.1 a.0.1 n.1 fits1 in
    let whole : bytes ≡ (m.0 ++ n.0) ++ b.0.1 = m.1 ∙ ap (λ (bs : List ℕ). m.0 ++ bs) n.1
    ∙ sym (append_assoc m.0 n.0 b.0.1) in
    let said = behind_says a.0.0 b.0.0 (m.0 ++ n.0) b.0.1 x fits2 m.0 n.0 refl m.2 n.2 b.2 in
    (said.0, whole ∙ said.1, said.2)

is_pair : (text rest a b : List ℕ) (id period : ℕ) → text ≡ a ++ b → Spells a id
    → Spells b period → is_paired id ≡ true
    → parameter_at (text ++ rest) ≡ Some (Pair id period, rest)
unfolding parameter_at
is_pair text rest a b id period is p q paired =
    let regrouped : text ++ rest ≡ a ++ (b ++ rest) = ap (λ (bs : List ℕ). bs ++ rest) is
    ∙ append_assoc a b rest in
    ap parameter_at regrouped ∙ rw (
      is_number a (b ++ rest) id p,
      is_number b rest period q,
      second_of (is_array id) (is_paired id) (array_behind id period rest)
          (Some (Pair id period, rest)) None (paired_is id paired).1 paired,
    ) refl

is_array_at : (text rest a b c : List ℕ) (id count : ℕ) (period : Option ℕ)
    → text ≡ a ++ (b ++ c) → Spells a id → Spells b count → SpellsPeriod c id period
    → is_array id ≡ true → parameter_at (text ++ rest)
    ≡ Some (Array (record { id = id; count = count; period = period }), rest)
unfolding parameter_at
is_array_at text rest a b c id count None is p q own array =
    let regrouped : text ++ rest ≡ a ++ (b ++ rest) =
    ap (λ (bs : List ℕ). bs ++ rest) (is ∙ ap (λ (bs : List ℕ). a ++ (b ++ bs)) own.1
    ∙ ap (λ (bs : List ℕ). a ++ bs) (append-nil b)) ∙ append_assoc a b rest in
    ap parameter_at regrouped ∙ rw (
      is_number a (b ++ rest) id p,
      is_number b rest count q,
      array,
      own.0,
    ) refl
is_array_at text rest a b c id count (Some period) is p q own array =
    let regrouped : text ++ rest ≡ a ++ (b ++ (c ++ rest)) =
    ap (λ (bs : List ℕ). bs ++ rest) is ∙ append_assoc a (b ++ c) rest
    ∙ ap (λ (bs : List ℕ). a ++ bs) (append_assoc b c rest) in
    ap parameter_at regrouped ∙ rw (
      is_number a (b ++ (c ++ rest)) id p,
      is_number b (c ++ rest) count q,
      array,
      own.0,
      is_number c rest period own.1,
    ) refl

is_parameter : (text rest : List ℕ) (p : Parameter) → SpellsParameter text p
    → parameter_at (text ++ rest) ≡ Some (p, rest)
is_parameter text rest (Pair id period) is =
    is_pair text rest is.0 is.1 id period is.2 is.3 is.4 is.5
is_parameter text rest (Array array) is =
    is_array_at text rest is.0 is.1 is.2 array.id array.count array.period is.3 is.4 is.5 is.6 is.7

parameters_are_by : (n : ℕ) (bytes : List ℕ) → length bytes ≤ n → AreBytes bytes
    → (o : Option (Parameter × List ℕ)) → parameter_at bytes ≡ o
    → BeginsWith bytes (rest_parameters parameters_at o)
parameters_are_by n bytes le fits None is = λ p text rest e spelled. none-some (p, rest) (sym is
    ∙ ap parameter_at e ∙ is_parameter text rest p spelled)
parameters_are_by zero bytes le fits (Some x) is =
    absurd (omega (arith, parameter_shorter bytes x is))
parameters_are_by (suc n) bytes le fits (Some x) is =
    let p = parameter_is bytes x fits is in (
      p.0,
      x.1,
      p.1,
      p.2,
      subst (BeginsWith x.1) (sym (parameters_step x.1))
          (parameters_are_by n x.1 (omega (arith, parameter_shorter bytes x is))
          (rest_bytes p.0 x.1 bytes p.1 fits) (parameter_at x.1) refl),
    )

parameters_are : (bytes : List ℕ) → AreBytes bytes → BeginsWith bytes (parameters_at bytes)
parameters_are bytes fits = subst (BeginsWith bytes) (sym (parameters_step bytes))
    (parameters_are_by (length bytes) bytes (omega arith) fits (parameter_at bytes) refl)

no_parameter : (bytes : List ℕ) → AreBytes bytes
    → ((p : Parameter) (text rest : List ℕ) → bytes ≡ text ++ rest → SpellsParameter text p → ⊥)
    → (o : Option (Parameter × List ℕ)) → parameter_at bytes ≡ o
    → rest_parameters parameters_at o ≡ []
no_parameter bytes fits none None is = refl
no_parameter bytes fits none (Some x) is = let p = parameter_is bytes x fits is in
    absurd (none x.0 p.0 x.1 p.1 p.2)

are_parameters : (bytes : List ℕ) (ps : List Parameter) → AreBytes bytes → BeginsWith bytes ps
    → parameters_at bytes ≡ ps
are_parameters bytes [] fits none =
    parameters_step bytes ∙ no_parameter bytes fits none (parameter_at bytes) refl
are_parameters bytes (p ∷ ps) fits h =
    parameters_step bytes
    ∙ ap (λ (bs : List ℕ). rest_parameters parameters_at (parameter_at bs)) h.2
    ∙ ap (rest_parameters parameters_at) (is_parameter h.0 h.1 p h.3)
    ∙ ap (λ (qs : List Parameter). p ∷ qs)
    (are_parameters h.1 ps (rest_bytes h.0 h.1 bytes h.2 fits) h.4)

-- ---- the messages of class 10

abbrev pub is_with : Bool → Bool → ℕ
is_with true false = 128
is_with false false = 129
is_with true true = 133
is_with false true = 134

update_kind-has : (id life : Option ℕ) → update_kind id life ≡ is_with (has id) (has life)
update_kind-has (Some id) None = refl
update_kind-has None None = refl
update_kind-has (Some id) (Some life) = refl
update_kind-has None (Some life) = refl

pub update_is : (has_id has_life : Bool) (payload : List ℕ) (message : Message)
    → update_of has_id has_life payload ≡ Some message
    → SaysOfTable (is_with has_id has_life) payload message
unfolding update_of
update_is has_id has_life payload message e =
    let a = bind_some (word_if has_id payload) (λ id. word_if has_life id.1 >>= λ life. Some
    (messages.Update id.0 life.0 life.1)) message e in
    let b = bind_some (word_if has_life a.0.1) (λ life. Some (messages.Update a.0.0 life.0 life.1))
    message a.2 in
    let i = word_if_is has_id payload a.0 a.1 in
    let l = word_if_is has_life a.0.1 b.0 b.1 in
    let m : messages.Update a.0.0 b.0.0 b.0.1 ≡ message = cc in
    let k : is_with has_id has_life ≡ update_kind a.0.0 b.0.0 =
    sym (update_kind-has a.0.0 b.0.0 ∙ ap (λ x. is_with x (has b.0.0)) i.3
    ∙ ap (is_with has_id) l.3) in
    subst (SaysOfTable (is_with has_id has_life) payload) m (
      k,
      (i.0, l.0, i.1 ∙ ap (λ (bs : List ℕ). i.0 ++ bs) l.1, i.2, l.2),
    )

pub is_update : (id life : Option ℕ) (a b rest : List ℕ) → SpellsWord a id → SpellsWord b life
    → update_of (has id) (has life) (a ++ (b ++ rest)) ≡ Some (messages.Update id life rest)
unfolding update_of
is_update id life a b rest p q = rw (is_word_if id a (b ++ rest) p, is_word_if life b rest q) refl

definition_is : (payload : List ℕ) (d : Definition) → AreBytes payload
    → definition_of payload ≡ Some d → Defines payload d
unfolding definition_of
definition_is payload d fits e =
    let a = bind_some (number_at payload) (λ id. string_at id.1 >>= λ name. number_at name.1 >>=
    λ kind. number_at kind.1 >>= λ len. number_at len.1 >>= λ bits. number_at bits.1 >>=
    λ expiry. Some (record {
      id = id.0;
      name = name.0;
      kind = kind.0;
      len = len.0;
      bits =
          bits.0;
      expiry = expiry.0;
      periods = pairs_in (parameters_at expiry.1);
      arrays = arrays_in (parameters_at expiry.1);
    })) d e in
    let b = bind_some (string_at a.0.1) (λ name. number_at name.1 >>= λ kind. number_at kind.1 >>=
    λ len. number_at len.1 >>= λ bits. number_at bits.1 >>= λ expiry. Some
    (record {
      id = a.0.0;
      name = name.0;
      kind = kind.0;
      len = len.0;
      bits = bits.0;
      expiry =
          expiry.0;
      periods = pairs_in (parameters_at expiry.1);
      arrays = arrays_in (parameters_at expiry.1);
    })) d a.2 in
    let k = bind_some (number_at b.0.1) (λ kind. number_at kind.1 >>= λ len. number_at len.1 >>=
    λ bits. number_at bits.1 >>= λ expiry. Some (record {
      id = a.0.0;
      name = b.0.0;
      kind =
          kind.0;
      len = len.0;
      bits = bits.0;
      expiry = expiry.0;
      periods = pairs_in (parameters_at expiry.1);
      arrays = arrays_in (parameters_at expiry.1);
    })) d
    b.2 in
    let l = bind_some (number_at k.0.1) (λ len. number_at len.1 >>= λ bits. number_at bits.1 >>=
    λ expiry. Some (record {
      id = a.0.0;
      name = b.0.0;
      kind = k.0.0;
      len = len.0;
      bits =
          bits.0;
      expiry = expiry.0;
      periods = pairs_in (parameters_at expiry.1);
      arrays = arrays_in (parameters_at expiry.1);
    })) d k.2 in
    let t = bind_some (number_at l.0.1) (λ bits. number_at bits.1 >>= λ expiry. Some
    (record {
      id = a.0.0;
      name = b.0.0;
      kind = k.0.0;
      len = l.0.0;
      bits = bits.0;
      expiry =
          expiry.0;
      periods = pairs_in (parameters_at expiry.1);
      arrays = arrays_in (parameters_at expiry.1);
    })) d l.2 in
    let x = bind_some (number_at t.0.1)
    (λ expiry. Some (record {
      id = a.0.0;
      name = b.0.0;
      kind = k.0.0;
      len = l.0.0;
      bits =
          t.0.0;
      expiry = expiry.0;
      periods = pairs_in (parameters_at expiry.1);
      arrays = arrays_in (parameters_at expiry.1);
    })) d t.2 in
    let a' = number_is payload a.0 fits a.1 in
    let fits1 = rest_bytes a'.0 a.0.1 payload a'.1 fits in
    let b' = string_is a.0.1 b.0 fits1 b.1 in
    let fits2 = rest_bytes (b'.0 ++ b.0.0) b.0.1 a.0.1 (b'.1
    ∙ sym (append_assoc b'.0 b.0.0 b.0.1)) fits1 in
    let k' = number_is b.0.1 k.0 fits2 k.1 in
    let fits3 = rest_bytes k'.0 k.0.1 b.0.1 k'.1 fits2 in
    let l' = number_is k.0.1 l.0 fits3 l.1 in
    let fits4 = rest_bytes l'.0 l.0.1 k.0.1 l'.1 fits3 in
    let t' = number_is l.0.1 t.0 fits4 t.1 in
    let fits5 = rest_bytes t'.0 t.0.1 l.0.1 t'.1 fits4 in
    let x' = number_is t.0.1 x.0 fits5 x.1 in
    let fits6 = rest_bytes x'.0 x.0.1 t.0.1 x'.1 fits5 in
    let made : Definition = record {
      id = a.0.0;
      name = b.0.0;
      kind = k.0.0;
      len = l.0.0;
      bits =
          t.0.0;
      expiry = x.0.0;
      periods = pairs_in (parameters_at x.0.1);
      arrays = arrays_in (parameters_at x.0.1);
    } in
    let same : made ≡ d = same_Some made d x.2 in
    subst (Defines payload) same (record {
      id = a'.0;
      name_len = b'.0;
      kind = k'.0;
      len = l'.0;
      bits = t'.0;
      expiry = x'.0;
      behind = x.0.1;
      whole = a'.1 ∙ ap (λ (bs : List ℕ). a'.0 ++ bs) (b'.1
          ∙ ap (λ (bs : List ℕ). b'.0 ++ (b.0.0 ++ bs)) (k'.1
          ∙ ap (λ (bs : List ℕ). k'.0 ++ bs) (l'.1
          ∙ ap (λ (bs : List ℕ). l'.0 ++ bs) (t'.1 ∙ ap (λ (bs : List ℕ). t'.0 ++ bs) x'.1))));
      id_is = a'.2;
      name_len_is = b'.2;
      kind_is = k'.2;
      len_is = l'.2;
      bits_is = t'.2;
      expiry_is = x'.2;
      parameters = parameters_at x.0.1;
      begins = parameters_are x.0.1 fits6;
      periods_are = refl;
      arrays_are = refl;
    })

pub is_definition : (payload : List ℕ) (d : Definition) → AreBytes payload → Defines payload d
    → definition_of payload ≡ Some d
unfolding definition_of
is_definition payload d fits h =
    let front = h.id ++ (h.name_len ++ (d.name ++ (h.kind ++ (h.len ++ (h.bits ++ h.expiry))))) in
    let regrouped : h.id ++ (h.name_len
    ++ (d.name ++ (h.kind ++ (h.len ++ (h.bits ++ (h.expiry ++ h.behind)))))) ≡ front
    ++ h.behind = simp append_assoc in
    let fits6 = rest_bytes front h.behind payload (h.whole ∙ regrouped) fits in
    let same : Definition = record d {
      periods = pairs_in h.parameters;
      arrays = arrays_in h.parameters;
    } in
    let is_same : same ≡ d = rw (← h.periods_are, ← h.arrays_are) refl in
    ap definition_of h.whole
    ∙ rw (
      is_number h.id (h.name_len ++ (d.name
          ++ (h.kind ++ (h.len ++ (h.bits ++ (h.expiry ++ h.behind)))))) d.id h.id_is,
      is_string h.name_len d.name (h.kind ++ (h.len ++ (h.bits ++ (h.expiry ++ h.behind))))
          h.name_len_is,
      is_number h.kind (h.len ++ (h.bits ++ (h.expiry ++ h.behind))) d.kind h.kind_is,
      is_number h.len (h.bits ++ (h.expiry ++ h.behind)) d.len h.len_is,
      is_number h.bits (h.expiry ++ h.behind) d.bits h.bits_is,
      is_number h.expiry h.behind d.expiry h.expiry_is,
      are_parameters h.behind h.parameters fits6 h.begins,
    ) (ap Some is_same)

pub define_is : (payload : List ℕ) (message : Message) → AreBytes payload
    → (definition_of payload >>= λ d. Some (messages.Define d)) ≡ Some message
    → SaysOfTable 130 payload message
define_is payload message fits e =
    let b = bind_some (definition_of payload) (λ d. Some (messages.Define d)) message e in
    let m : messages.Define b.0 ≡ message = cc in
    subst (SaysOfTable 130 payload) m (refl, definition_is payload b.0 fits b.1)

pub switch_is : (payload : List ℕ) (message : Message) → AreBytes payload
    → switch_of payload ≡ Some message → SaysOfTable 131 payload message
unfolding switch_of
switch_is payload message fits e =
    let b = bind_some (number_at payload) (λ id. Some (messages.Switch id.0)) message e in
    let n = number_is payload b.0 fits b.1 in
    let m : messages.Switch b.0.0 ≡ message = cc in
    subst (SaysOfTable 131 payload) m (refl, (n.0, b.0.1, n.1, n.2))

pub acked_is : (payload : List ℕ) (message : Message) → AreBytes payload
    → acked_of payload ≡ Some message → SaysOfTable 132 payload message
unfolding acked_of
acked_is payload message fits e =
    let a = bind_some (number_at payload)
    (λ id. word_at id.1 >>= λ last. Some (messages.Acked id.0 last.0)) message e in
    let b = bind_some (word_at a.0.1) (λ last. Some (messages.Acked a.0.0 last.0)) message a.2 in
    let n = number_is payload a.0 fits a.1 in
    let w = word_is a.0.1 b.0 b.1 in
    let m : messages.Acked a.0.0 b.0.0 ≡ message = cc in
    subst (SaysOfTable 132 payload) m (
      refl,
      (n.0, w.0, b.0.1, n.1 ∙ ap (λ (bs : List ℕ). n.0 ++ bs) w.1, n.2, w.2),
    )
