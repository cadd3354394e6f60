-- The spelling of a message is read back, whatever follows it.
use Rattle.std.proofs.Common.{◌≡◌, ℕ, ◌+◌, ◌^◌, ◌<◌, ◌≤◌, Bool, true, false, ltb, List, [], ◌∷◌}
use Rattle.std.proofs.Common.{◌++◌, length, drop, Option, Some, None, Ok, refl, sym, ap, ◌∙◌}
use Rattle.std.proofs.Common.{append_assoc, length-append, arith}
use Rattle.std.specs.Option.{option_map_or}
use Rattle.std.specs.List.{flat_map}
use Rattle.std.specs.Int.{w32, to_be_bytes, from_be_bytes}
use Rattle.std.proofs.lemmas.Bool.{le-ltb}
use Rattle.std.proofs.lemmas.List.{take_at, drop_at, append-nil}
use Rattle.std.proofs.lemmas.Nat.{from_be_bytes-to_be_bytes_4}
use Rattle.agg_types.specs.declared.limits.TheConstants.{LONGEST_PAYLOAD}
use Rattle.peers_msg.specs.declared.message.Definition.{Definition}
use Rattle.peers_msg.specs.declared.message.Message.{Message}
use Rattle.peers_msg.specs.declared.message.Message.TheVariants as messages
use Rattle.peers_msg.specs.Numeral.{integer_at}
use Rattle.peers_msg.specs.Payload.{number_at, word_at, word_if, string_at}
use Rattle.peers_msg.specs.Payload.{definition_of, switch_of, acked_of, update_of}
use Rattle.peers_msg.specs.Message.{Framed, frame_at, Whole, whole_or_bad, first_in, first_of}
use Rattle.peers_msg.specs.Message.{message_of, table_of, control_of, error_of, after_message}
use Rattle.peers_msg.specs.Message.{reading_by, reading_of}
use Rattle.peers_msg.specs.Spelling.{integer_spelling, word_spelling, parameter_spelling}
use Rattle.peers_msg.specs.Spelling.{parameters_of, in_order, as_written}
use Rattle.peers_msg.specs.Spelling.{definition_spelling, framed_spelling, update_kind}
use Rattle.peers_msg.specs.Spelling.{message_spelling, IsSendable, IsWord, IsDefinition}
use Rattle.peers_msg.specs.Spelling.{IsInRange}
use Rattle.peers_msg.proofs.Numerals.{spelled, integer_spelled, number_again, spelling_len}
use Rattle.peers_msg.proofs.Written.{written_again}
use Rattle.peers_msg.proofs.Readings.{reading_step}

pub word_spelled : (text rest : List ℕ) → length text ≡ 4
    → word_at (text ++ rest) ≡ Some (from_be_bytes w32 text, rest)
unfolding word_at
word_spelled text rest four =
    let long : ltb (length (text ++ rest)) 4 ≡ false =
    le-ltb _ _ (omega (arith, four, length-append text rest)) in
    rw (long, take_at text rest 4 four, drop_at text rest 4 four) refl

word_again : (n : ℕ) (rest : List ℕ) → n < 2 ^ 32 → word_at (to_be_bytes w32 n ++ rest)
    ≡ Some (n, rest)
word_again n rest small = word_spelled (to_be_bytes w32 n) rest refl
    ∙ ap (λ k. Some (k, rest)) (from_be_bytes-to_be_bytes_4 n small)

string_again : (text rest : List ℕ) → length text < 2 ^ 64
    → string_at (integer_spelling (length text) ++ (text ++ rest)) ≡ Some (text, rest)
unfolding string_at
string_again text rest small =
    let long : ltb (length (text ++ rest)) (length text) ≡ false =
    le-ltb _ _ (omega (arith, length-append text rest)) in
    rw (
      number_again (length text) (text ++ rest) small,
      long,
      take_at text rest (length text) refl,
      drop_at text rest (length text) refl,
    ) refl

definition_again : (d : Definition) → IsDefinition d → length d.name < 2 ^ 64
    → definition_of (definition_spelling d) ≡ Some (in_order d)
unfolding definition_of
definition_again d fits small =
    let ps = flat_map parameter_spelling (parameters_of d) in
    let regrouped : definition_spelling d ≡ integer_spelling d.id
    ++ (integer_spelling (length d.name)
    ++ (d.name ++ (integer_spelling d.kind
    ++ (integer_spelling d.len ++ (integer_spelling d.bits
    ++ (integer_spelling d.expiry ++ ps)))))) = simp append_assoc in
    ap definition_of regrouped
    ∙ rw (
      number_again d.id (integer_spelling (length d.name)
          ++ (d.name ++ (integer_spelling d.kind
          ++ (integer_spelling d.len ++ (integer_spelling d.bits
          ++ (integer_spelling d.expiry ++ ps)))))) fits.id,
      string_again d.name (integer_spelling d.kind
          ++ (integer_spelling d.len ++ (integer_spelling d.bits
          ++ (integer_spelling d.expiry ++ ps)))) small,
      number_again d.kind (integer_spelling d.len
          ++ (integer_spelling d.bits ++ (integer_spelling d.expiry ++ ps))) fits.kind,
      number_again d.len (integer_spelling d.bits ++ (integer_spelling d.expiry ++ ps)) fits.len,
      number_again d.bits (integer_spelling d.expiry ++ ps) fits.bits,
      number_again d.expiry ps fits.expiry,
      written_again d fits,
    ) refl

word_if_again : (w : Option ℕ) (rest : List ℕ) (has : Bool) → IsWord w
    → has ≡ option_map_or (λ _. true) w false → word_if has (word_spelling w ++ rest)
    ≡ Some (w, rest)
word_if_again None rest has fits is = rw is refl
word_if_again (Some n) rest has fits is = rw (is, word_again n rest fits) refl

update_again : (id life : Option ℕ) (rest : List ℕ) (has_id has_life : Bool) → IsWord id
    → IsWord life → has_id ≡ option_map_or (λ _. true) id false
    → has_life ≡ option_map_or (λ _. true) life false
    → update_of has_id has_life (word_spelling id ++ word_spelling life ++ rest)
    ≡ Some (messages.Update id life rest)
unfolding update_of
update_again id life rest has_id has_life p q i j =
    ap (update_of has_id has_life) (append_assoc (word_spelling id) (word_spelling life) rest)
    ∙ rw (
      word_if_again id (word_spelling life ++ rest) has_id p i,
      word_if_again life rest has_life q j,
    ) refl

-- ---- messages

frame_again : (kind : ℕ) (payload more : List ℕ) → 128 ≤ kind → length payload ≤ LONGEST_PAYLOAD
    → frame_at (framed_spelling 10 kind payload ++ more) ≡ Framed 10 kind payload more
unfolding frame_at
frame_again kind payload more high small =
    let k : ltb kind 128 ≡ false = le-ltb kind 128 high in
    let s = spelled (length payload) in
    let n : integer_at (integer_spelling (length payload) ++ (payload ++ more))
    ≡ Ok (Some (length payload, length (integer_spelling (length payload)))) =
    integer_spelled (integer_spelling (length payload)) (payload ++ more) s.0 (omega (arith, s.1))
    ∙ ap (λ v. Ok (Some (v, length (integer_spelling (length payload))))) s.1 in
    let d : drop (length (integer_spelling (length payload))) (integer_spelling (length payload)
    ++ (payload ++ more)) ≡ payload ++ more =
    drop_at (integer_spelling (length payload)) (payload ++ more)
    (length (integer_spelling (length payload))) refl in
    let a : ltb LONGEST_PAYLOAD (length payload) ≡ false = le-ltb _ _ small in
    let b : ltb (length (payload ++ more)) (length payload) ≡ false =
    le-ltb _ _ (omega (arith, length-append payload more)) in
    rw (
      append_assoc (integer_spelling (length payload)) payload more,
      k,
      n,
      d,
      a,
      b,
      take_at payload more (length payload) refl,
      drop_at payload more (length payload) refl,
    ) refl

framed_again : (kind : ℕ) (payload more : List ℕ) (message : Message) → 128 ≤ kind
    → length payload ≤ LONGEST_PAYLOAD → table_of kind payload ≡ Some message
    → first_of (framed_spelling 10 kind payload ++ more) ≡ Whole message more
unfolding first_of message_of
framed_again kind payload more message high small is =
    ap first_in (frame_again kind payload more high small) ∙ ap (λ o. whole_or_bad o more) is

table_update : (id life : Option ℕ) (rest : List ℕ) → IsWord id → IsWord life
    → table_of (update_kind id life) (word_spelling id ++ word_spelling life ++ rest)
    ≡ Some (messages.Update id life rest)
unfolding table_of
table_update (Some id) None rest p q = update_again (Some id) None rest true false p q refl refl
table_update None None rest p q = update_again None None rest false false p q refl refl
table_update (Some id) (Some life) rest p q =
    update_again (Some id) (Some life) rest true true p q refl refl
table_update None (Some life) rest p q = update_again None (Some life) rest false true p q refl refl

high_update : (id life : Option ℕ) → 128 ≤ update_kind id life
high_update (Some id) None = omega arith
high_update None None = omega arith
high_update (Some id) (Some life) = omega arith
high_update None (Some life) = omega arith

table_define : (d : Definition) → IsDefinition d → length d.name < 2 ^ 64
    → table_of 130 (definition_spelling d) ≡ Some (messages.Define (in_order d))
unfolding table_of
table_define d fits small = rw (definition_again d fits small) refl

table_switch : (id : ℕ) → id < 2 ^ 64 → table_of 131 (integer_spelling id)
    ≡ Some (messages.Switch id)
unfolding table_of switch_of
table_switch id small = rw (let e : number_at (integer_spelling id) ≡ Some (id, []) =
    ap number_at (sym (append-nil (integer_spelling id))) ∙ number_again id [] small in e) refl

table_acked : (id last : ℕ) → id < 2 ^ 64 → last < 2 ^ 32
    → table_of 132 (integer_spelling id ++ to_be_bytes w32 last) ≡ Some (messages.Acked id last)
unfolding table_of acked_of
table_acked id last p q =
    rw (
      number_again id (to_be_bytes w32 last) p,
      let e : word_at (to_be_bytes w32 last)
          ≡ Some (last, []) = word_again last [] q in e,
    ) refl

name_fits : (d : Definition) → length (definition_spelling d) ≤ LONGEST_PAYLOAD
    → length d.name < 2 ^ 64
name_fits d small =
    let e : length (definition_spelling d) ≡ length (integer_spelling d.id) +
    (length (integer_spelling (length d.name)) +
    (length d.name + (length (integer_spelling d.kind) +
    (length (integer_spelling d.len) +
    (length (integer_spelling d.bits) + (length (integer_spelling d.expiry) + length
    (flat_map parameter_spelling (parameters_of d)))))))) = simp (append_assoc, length-append) in
    omega (arith, e)

pub first_again : (message : Message) (more : List ℕ) → IsSendable message → IsInRange message
    → first_of (message_spelling message ++ more) ≡ Whole (as_written message) more
unfolding message_spelling first_of frame_at message_of control_of error_of
first_again messages.Request more sendable fits = refl
first_again messages.Finished more sendable fits = refl
first_again messages.Partial more sendable fits = refl
first_again messages.Confirm more sendable fits = refl
first_again messages.Heartbeat more sendable fits = refl
first_again messages.ProtocolError more sendable fits = refl
first_again messages.SizeError more sendable fits = refl
first_again (messages.Update id life rest) more sendable fits =
    framed_again (update_kind id life) (word_spelling id ++ word_spelling life ++ rest) more
    (messages.Update id life rest) (high_update id life) sendable
    (table_update id life rest fits.0 fits.1)
first_again (messages.Define d) more sendable fits =
    framed_again 130 (definition_spelling d) more (messages.Define (in_order d)) (omega arith)
    sendable
    (table_define d fits (name_fits d sendable))
first_again (messages.Switch id) more sendable fits =
    framed_again 131 (integer_spelling id) more (messages.Switch id) (omega arith)
    (omega (arith, spelling_len id fits)) (table_switch id fits)
first_again (messages.Acked id last) more sendable fits =
    framed_again 132 (integer_spelling id ++ to_be_bytes w32 last) more (messages.Acked id last)
    (omega arith) (omega (
      arith,
      spelling_len id fits.0,
      length-append (integer_spelling id) (to_be_bytes w32 last),
    ))
    (table_acked id last fits.0 fits.1)
first_again (messages.Other class kind) more sendable fits = absurd sendable

pub reading_again : (message : Message) (more : List ℕ) → IsSendable message → IsInRange message
    → reading_of (message_spelling message ++ more)
    ≡ after_message (as_written message) (reading_of more)
reading_again message more sendable fits =
    reading_step (message_spelling message ++ more)
    ∙ ap (reading_by reading_of (message_spelling message ++ more))
    (first_again message more sendable fits)
