-- The message that the function on bytes reads under a class and a type is the one that is said
-- there.
use Rattle.std.proofs.Common.{◌≡◌, ◌⊎◌, ℕ, ◌<◌, true, false, List, ◌++◌, Option, Some, None, refl}
use Rattle.std.proofs.Common.{sym, ap, subst, ◌∙◌, arith, inl, inr}
use Rattle.std.proofs.lemmas.Bool.{ne_eqb, cases_lt, cases_eq}
use Rattle.std.proofs.lemmas.Option.{same_Some}
use Rattle.peers_msg.specs.declared.message.Message.{Message}
use Rattle.peers_msg.specs.declared.message.Message.TheVariants as messages
use Rattle.peers_msg.specs.Payload.{switch_of, acked_of}
use Rattle.peers_msg.specs.Message.{message_of, table_of, control_of, error_of}
use Rattle.peers_msg.specs.Spelling.{update_kind}
use Rattle.peers_msg.specs.Reads.{AreBytes, SpellsWord, SaysOfTable, Says}
use Rattle.peers_msg.proofs.Says.{update_is, is_update, define_is, is_definition, switch_is}
use Rattle.peers_msg.proofs.Says.{is_number, acked_is, is_word}

-- a type that isn't one of a message with a meaning
abbrev IsOtherKind : ℕ → Type 0
IsOtherKind kind = (kind < 128) ⊎ (134 < kind)

table_other : (kind : ℕ) (payload : List ℕ) → IsOtherKind kind
    → table_of kind payload ≡ Some (messages.Other 10 kind)
unfolding table_of
table_other kind payload (inl low) =
    rw (
      ne_eqb kind 128 (λ e. omega arith),
      ne_eqb kind 129 (λ e. omega arith),
      ne_eqb kind 130 (λ e. omega arith),
      ne_eqb kind 131 (λ e. omega arith),
      ne_eqb kind 132 (λ e. omega arith),
      ne_eqb kind 133 (λ e. omega arith),
      ne_eqb kind 134 (λ e. omega arith),
    ) refl
table_other kind payload (inr high) =
    rw (
      ne_eqb kind 128 (λ e. omega arith),
      ne_eqb kind 129 (λ e. omega arith),
      ne_eqb kind 130 (λ e. omega arith),
      ne_eqb kind 131 (λ e. omega arith),
      ne_eqb kind 132 (λ e. omega arith),
      ne_eqb kind 133 (λ e. omega arith),
      ne_eqb kind 134 (λ e. omega arith),
    ) refl

abbrev TableSays : List ℕ → Message → ℕ → Type 0
TableSays payload message kind = table_of kind payload ≡ Some message
    → SaysOfTable kind payload message

table_128 : (payload : List ℕ) (message : Message) → TableSays payload message 128
unfolding table_of
table_128 payload message e = update_is true false payload message e

table_129 : (payload : List ℕ) (message : Message) → TableSays payload message 129
unfolding table_of
table_129 payload message e = update_is false false payload message e

table_130 : (payload : List ℕ) (message : Message) → AreBytes payload
    → TableSays payload message 130
unfolding table_of
table_130 payload message fits e = define_is payload message fits e

table_131 : (payload : List ℕ) (message : Message) → AreBytes payload
    → TableSays payload message 131
unfolding table_of
table_131 payload message fits e = switch_is payload message fits e

table_132 : (payload : List ℕ) (message : Message) → AreBytes payload
    → TableSays payload message 132
unfolding table_of
table_132 payload message fits e = acked_is payload message fits e

table_133 : (payload : List ℕ) (message : Message) → TableSays payload message 133
unfolding table_of
table_133 payload message e = update_is true true payload message e

table_134 : (payload : List ℕ) (message : Message) → TableSays payload message 134
unfolding table_of
table_134 payload message e = update_is false true payload message e

table_any : (kind : ℕ) (payload : List ℕ) (message : Message) → IsOtherKind kind
    → TableSays payload message kind
table_any kind payload message other e =
    subst (SaysOfTable kind payload) (same_Some (messages.Other 10 kind) message
    (sym (table_other kind payload other) ∙ e)) (refl, refl, other)

-- each type, from 128 to 134 by what is left above it
by_kind : (P : ℕ → Type 0) (kind : ℕ) → P 128 → P 129 → P 130 → P 131 → P 132 → P 133 → P 134
    → (IsOtherKind kind → P kind) → P kind
by_kind P kind a b c d e f g other =
    elim (cases_lt kind 128) [
      | inl low ↦ other (inl low)
      | inr high ↦
          elim (cases_lt 134 kind) [
            | inl above ↦ other (inr above)
            | inr below ↦
                elim (cases_eq kind 128) [
                  | inl is ↦ subst P (sym is) a
                  | inr not128 ↦
                      elim (cases_eq kind 129) [
                        | inl is ↦ subst P (sym is) b
                        | inr not129 ↦
                            elim (cases_eq kind 130) [
                              | inl is ↦ subst P (sym is) c
                              | inr not130 ↦
                                  elim (cases_eq kind 131) [
                                    | inl is ↦ subst P (sym is) d
                                    | inr not131 ↦
                                        elim (cases_eq kind 132) [
                                          | inl is ↦ subst P (sym is) e
                                          | inr not132 ↦
                                              elim (cases_eq kind 133) [
                                                | inl is ↦ subst P (sym is) f
                                                | inr not133 ↦
                                                    elim (cases_eq kind 134) [
                                                      | inl is ↦
                                                          subst P (sym is) g
                                                      | inr not134 ↦
                                                          absurd (omega arith)
                                                    ]
                                              ]
                                        ]
                                  ]
                            ]
                      ]
                ]
          ]
    ]

table_says : (kind : ℕ) (payload : List ℕ) (message : Message) → AreBytes payload
    → TableSays payload message kind
table_says kind payload message fits =
    by_kind (TableSays payload message) kind (table_128 payload message) (table_129 payload message)
    (table_130 payload message fits) (table_131 payload message fits)
    (table_132 payload message fits) (table_133 payload message) (table_134 payload message)
    (table_any kind payload message)

update_says : (id life : Option ℕ) (a b rest : List ℕ) → SpellsWord a id → SpellsWord b life
    → table_of (update_kind id life) (a ++ (b ++ rest)) ≡ Some (messages.Update id life rest)
unfolding table_of
update_says (Some id) None a b rest p q = is_update (Some id) None a b rest p q
update_says None None a b rest p q = is_update None None a b rest p q
update_says (Some id) (Some life) a b rest p q = is_update (Some id) (Some life) a b rest p q
update_says None (Some life) a b rest p q = is_update None (Some life) a b rest p q

says_table : (kind : ℕ) (payload : List ℕ) (message : Message) → AreBytes payload
    → SaysOfTable kind payload message → table_of kind payload ≡ Some message
unfolding table_of switch_of acked_of
says_table kind payload messages.Request fits h = absurd h
says_table kind payload messages.Finished fits h = absurd h
says_table kind payload messages.Partial fits h = absurd h
says_table kind payload messages.Confirm fits h = absurd h
says_table kind payload messages.Heartbeat fits h = absurd h
says_table kind payload messages.ProtocolError fits h = absurd h
says_table kind payload messages.SizeError fits h = absurd h
says_table kind payload (messages.Update id life rest) fits h =
    ap (λ k. table_of k payload) h.0 ∙ ap (table_of (update_kind id life)) h.1.2
    ∙ update_says id life h.1.0 h.1.1 rest h.1.3 h.1.4
says_table kind payload (messages.Define d) fits h = ap (λ k. table_of k payload) h.0
    ∙ rw (is_definition payload d fits h.1) refl
says_table kind payload (messages.Switch id) fits h = ap (λ k. table_of k payload) h.0
    ∙ rw (h.1.2, is_number h.1.0 h.1.1 id h.1.3) refl
says_table kind payload (messages.Acked id last) fits h =
    ap (λ k. table_of k payload) h.0 ∙ rw (
      h.1.3,
      is_number h.1.0 (h.1.1 ++ h.1.2) id h.1.4,
      is_word h.1.1 h.1.2 last h.1.5,
    ) refl
says_table kind payload (messages.Other class other) fits h =
    table_other kind payload h.2 ∙ ap (λ k. Some (messages.Other k kind)) (sym h.0)
    ∙ ap (λ k. Some (messages.Other class k)) (sym h.1)

-- what is read is said
pub message_says : (class kind : ℕ) (payload : List ℕ) (message : Message) → AreBytes payload
    → message_of class kind payload ≡ Some message → Says class kind payload message
unfolding message_of
message_says class kind payload message fits e =
    elim (cases_eq class 0) [
      | inl is0 ↦ inl (
        is0,
        let q : Some (control_of kind) ≡ Some message = rw is0 at e in
            sym (same_Some _ _ q),
      )
      | inr not0 ↦
          elim (cases_eq class 1) [
            | inl is1 ↦ inr (inl (
              is1,
              let q : Some (error_of kind) ≡ Some message = rw is1 at e in
                  sym (same_Some _ _ q),
            ))
            | inr not1 ↦
                elim (cases_eq class 10) [
                  | inl is10 ↦ inr (inr (inl (
                    is10,
                    let q : table_of kind payload ≡ Some message =
                        rw is10 at e in table_says kind payload message fits q,
                  )))
                  | inr not10 ↦ inr (inr (inr (
                    (not0, not1, not10),
                    let q : Some (messages.Other class kind) ≡ Some message =
                        rw (ne_eqb class 0 not0, ne_eqb class 1 not1, ne_eqb class 10 not10) at e in
                        sym (same_Some _ _ q),
                  )))
                ]
          ]
    ]

-- what is said is read
pub says_message : (class kind : ℕ) (payload : List ℕ) (message : Message) → AreBytes payload
    → Says class kind payload message → message_of class kind payload ≡ Some message
unfolding message_of
says_message class kind payload message fits (inl h) = rw (h.0, h.1) refl
says_message class kind payload message fits (inr (inl h)) = rw (h.0, h.1) refl
says_message class kind payload message fits (inr (inr (inl h))) =
    rw h.0 (says_table kind payload message fits h.1)
says_message class kind payload message fits (inr (inr (inr h))) =
    rw (ne_eqb class 0 h.0.0, ne_eqb class 1 h.0.1, ne_eqb class 10 h.0.2, h.1) refl
