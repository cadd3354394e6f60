-- The messages of a turn, table by table by their places.
use Rattle.std.proofs.Common.{◌≡◌, ℕ, zero, suc, ◌+◌, List, [], ◌∷◌, ◌++◌, None, Some, refl}
use Rattle.std.proofs.Common.{sym, ap, ◌∙◌, arith}
use Rattle.std.specs.Prelude.{slice_get, slice_index_or}
use Rattle.std.specs.List.{flat_map}
use Rattle.peers_msg.specs.Message.{reading_of}
use Rattle.peers_msg.specs.declared.message.Message.{Message}
use Rattle.pushed_keys.specs.Turns.{no_table}
use Rattle.pushed_keys.specs.declared.change.Turn.{Turn}
use Rattle.pushed_keys.specs.declared.pushed.Pushed.{Pushed}
use Rattle.pushed_keys.specs.declared.told.ToldTable.{ToldTable}
use Rattle.telling.specs.Telling.{Told, TableTurn, defined_before, first_definitions, table_turn}
use Rattle.telling.specs.Telling.{table_turns, told_after, turn_at, turn_text}
use Rattle.turn_laws.specs.Heard.{all_under_own, force_behind, heard, in_force, under_own}
use Rattle.turn_laws.specs.Keys.{AreSets, IsKept}
use Rattle.turn_laws.specs.Written.{AreTables, last_behind, messages_of, section, sections}
use Rattle.turn_laws.specs.Written.{updates_at}
use Rattle.turn_laws.proofs.ByTurn.{turn_behind, turn_messages_of, turn_section, turn_sections}
use Rattle.turn_laws.proofs.ByTurn.{turn_under_own}
use Rattle.turn_laws.proofs.Hearing.{turn_heard}
use Rattle.turn_laws.proofs.Places.{said_there}
use Rattle.turn_laws.proofs.Spoken.{turn_read}

-- the updates of these tables are said by place
abbrev AreSaid : Turn → List (List (List ℕ)) → List ToldTable → (ℕ → List Message) → ℕ
    → List Pushed → Type 0
AreSaid turn sets told said before ps =
    (n i : ℕ) (p : Pushed) → n ≡ before + i → slice_get ps i ≡ Some p
    → said n ≡ (table_turn turn (n + 1) p (slice_index_or sets n [])
    (slice_index_or told n no_table)).updates

sections_by_place : (turn : Turn) (sets : List (List (List ℕ))) (told : List ToldTable)
    (said : ℕ → List Message) (last before : ℕ) (ps : List Pushed)
    → AreSaid turn sets told said before ps
    → turn_sections last (table_turns turn sets told before ps) ≡ sections said last before ps
unfolding table_turns table_turn
sections_by_place turn sets told said last before [] h = refl
sections_by_place turn sets told said last before (p ∷ ps) h =
    let t : TableTurn = table_turn turn (before + 1) p (slice_index_or sets before [])
    (slice_index_or told before no_table) in
    let here : t.updates ≡ said before = sym (h before zero p (omega arith) refl) in
    ap (λ (ms : List Message). turn_section last t t.updates ++ ms)
    (sections_by_place turn sets told said (turn_behind last t t.updates) (before + 1) ps
    (λ n i q e is. h n (suc i) q (omega arith) is))
    ∙ (λ i. section last (before + 1) p (here i)
    ++ sections said (last_behind last (before + 1) (here i)) (before + 1) ps)

own_by_place : (turn : Turn) (sets : List (List (List ℕ))) (told : List ToldTable)
    (said : ℕ → List Message) (before : ℕ) (ps : List Pushed)
    → AreSaid turn sets told said before ps
    → flat_map turn_under_own (table_turns turn sets told before ps)
    ≡ all_under_own said before ps
unfolding table_turns table_turn
own_by_place turn sets told said before [] h = refl
own_by_place turn sets told said before (p ∷ ps) h =
    let t : TableTurn = table_turn turn (before + 1) p (slice_index_or sets before [])
    (slice_index_or told before no_table) in
    let here : t.updates ≡ said before = sym (h before zero p (omega arith) refl) in
    let rest : flat_map turn_under_own (table_turns turn sets told (before + 1) ps)
    ≡ all_under_own said (before + 1) ps =
    own_by_place turn sets told said (before + 1) ps
    (λ n i q e is. h n (suc i) q (omega arith) is) in
    λ i. under_own (before + 1) p (here i) ++ rest i

module _ (pushed : List Pushed) (sets : List (List (List ℕ))) (now : ℕ) (told : Told) where
  all_said : AreSaid (turn_at now told) sets told.tables (updates_at pushed sets now told) 0 pushed
  all_said = λ n i p e is. said_there pushed sets now told n p
      (ap (slice_get pushed) (let s : n ≡ i = omega arith in s) ∙ is)

  messages_by_place : turn_messages_of pushed sets now told ≡ messages_of pushed sets now told
  messages_by_place = ap (λ (ms : List Message). first_definitions pushed told ++ ms)
      (sections_by_place (turn_at now told) sets told.tables (updates_at pushed sets now told)
      (defined_before pushed told) 0 pushed all_said)

  pub read_by_place : AreTables pushed → AreSets sets → IsKept told
      → reading_of (turn_text pushed sets now told)
      ≡ record { messages = messages_of pushed sets now told; fault = None; rest = [] }
  read_by_place h s k =
      turn_read pushed sets now told h s k
      ∙ (λ i. record { messages = messages_by_place i; fault = None; rest = [] })

  pub heard_by_place : heard (in_force pushed told) (messages_of pushed sets now told)
      ≡ all_under_own (updates_at pushed sets now told) 0 pushed
  heard_by_place =
      ap (heard (in_force pushed told)) (sym messages_by_place)
      ∙ (turn_heard pushed sets now told).0
      ∙ own_by_place (turn_at now told) sets told.tables (updates_at pushed sets now told) 0 pushed
      all_said

  pub force_by_place : force_behind (in_force pushed told) (messages_of pushed sets now told)
      ≡ in_force pushed (told_after pushed sets now told)
  force_by_place =
      ap (force_behind (in_force pushed told)) (sym messages_by_place)
      ∙ (turn_heard pushed sets now told).1
