-- What a receiver makes of a turn's messages.
use Rattle.std.proofs.Common.{◌≡◌, ℕ, zero, suc, ◌+◌, Bool, true, false, cond, List, [], ◌∷◌, ◌++◌}
use Rattle.std.proofs.Common.{length, map, Option, None, Some, refl, sym, ap, ◌∙◌, arith}
use Rattle.std.proofs.Common.{add-one, append_assoc}
use Rattle.std.specs.Prelude.{nat_eq, slice_get}
use Rattle.std.proofs.lemmas.Bool.Decides.{nat_tests}
use Rattle.std.specs.List.{AllByRecursion, flat_map}
use Rattle.std.specs.Option.{option_map}
use Rattle.peers_msg.specs.declared.message.Definition.{Definition}
use Rattle.peers_msg.specs.declared.message.Message.{Message}
use Rattle.peers_msg.specs.declared.message.Message.TheVariants as messages
use Rattle.pushed_keys.specs.Stands.{stands}
use Rattle.pushed_keys.specs.Turns.{changes, next_id}
use Rattle.pushed_keys.specs.declared.change.Change.{Change}
use Rattle.pushed_keys.specs.declared.change.Change.TheVariants.{Put, TakeAway}
use Rattle.pushed_keys.specs.declared.change.Turn.{Turn}
use Rattle.pushed_keys.specs.declared.pushed.Pushed.{Pushed}
use Rattle.pushed_keys.specs.declared.told.ToldTable.{ToldTable}
use Rattle.telling.specs.Told.{Told}
use Rattle.telling.specs.Telling.{TableTurn, defined_before, definition_of, definitions}
use Rattle.telling.specs.Telling.{last_defined, table_turn, table_turns, told_after, turn_at, turns}
use Rattle.telling.specs.Telling.{update_of, updates}
use Rattle.turn_laws.specs.Heard.{definition_with, force_after, force_behind, heard, heard_of}
use Rattle.turn_laws.specs.Heard.{in_force}
use Rattle.turn_laws.proofs.ByTurn.{turn_behind, turn_messages_of, turn_section, turn_sections}
use Rattle.turn_laws.proofs.ByTurn.{turn_under_own}
use Rattle.turn_laws.proofs.Spoken.{last_is}

heard_append : (force : Option Definition) (ms ns : List Message)
    → heard force (ms ++ ns) ≡ heard force ms ++ heard (force_behind force ms) ns
heard_append force [] ns = refl
heard_append force (m ∷ ms) ns =
    ap (λ (hs : List (Option Definition × Message)). heard_of force m ++ hs)
    (heard_append (force_after force m) ms ns)
    ∙ sym (append_assoc (heard_of force m) (heard (force_after force m) ms)
    (heard (force_behind (force_after force m) ms) ns))

force_append : (force : Option Definition) (ms ns : List Message)
    → force_behind force (ms ++ ns) ≡ force_behind (force_behind force ms) ns
force_append force [] ns = refl
force_append force (m ∷ ms) ns = force_append (force_after force m) ms ns

-- ---- definitions

heard_none : (force : Option Definition) (before : ℕ) (ps : List Pushed)
    → heard force (definitions before ps) ≡ []
unfolding definitions
heard_none force before [] = refl
heard_none force before (p ∷ ps) =
    heard_none (Some (definition_of (before + 1) p)) (before + 1) ps

-- the last of them is in force behind them
force_last : (force : Option Definition) (before : ℕ) (p : Pushed) (ps : List Pushed)
    → force_behind force (definitions before (p ∷ ps))
    ≡ option_map (definition_of (before + suc (length ps))) (slice_get (p ∷ ps) (length ps))
unfolding definitions
force_last force before p [] =
    ap (λ (n : ℕ). Some (definition_of n p))
    (let s : before + 1 ≡ before + suc zero = omega arith in s)
force_last force before p (q ∷ ps) =
    force_last (Some (definition_of (before + 1) p)) (before + 1) q ps
    ∙ ap (λ (n : ℕ). option_map (definition_of n) (slice_get (q ∷ ps) (length ps)))
    (let s : (before + 1) + suc (length ps) ≡ before + suc (length (q ∷ ps)) = omega arith in s)

force_all : (ps : List Pushed)
    → force_behind None (definitions 0 ps) ≡ definition_with ps (length ps)
unfolding definitions
force_all [] = refl
force_all (p ∷ ps) =
    force_last None 0 p ps
    ∙ ap (λ (n : ℕ). option_map (definition_of n) (slice_get (p ∷ ps) (length ps)))
    (let s : 0 + suc (length ps) ≡ length ps + 1 = omega arith in s)

-- ---- updates

abbrev IsUpdate : Message → Type 0
IsUpdate (messages.Update id life rest) = Unit {0}
IsUpdate message = ⊥

heard_update : (force : Option Definition) (m : Message) (others : List Message) → IsUpdate m
    → (heard force (m ∷ others) ≡ (force, m) ∷ heard force others)
    × (force_behind force (m ∷ others) ≡ force_behind force others)
heard_update force (messages.Update id life rest) others h = (refl, refl)
heard_update force messages.Request others h = absurd h
heard_update force messages.Finished others h = absurd h
heard_update force messages.Partial others h = absurd h
heard_update force messages.Confirm others h = absurd h
heard_update force messages.Heartbeat others h = absurd h
heard_update force messages.ProtocolError others h = absurd h
heard_update force messages.SizeError others h = absurd h
heard_update force (messages.Define d) others h = absurd h
heard_update force (messages.Switch id) others h = absurd h
heard_update force (messages.Acked id last) others h = absurd h
heard_update force (messages.Other class kind) others h = absurd h

abbrev AreUpdates : List Message → Type 0
AreUpdates us = AllByRecursion IsUpdate us

heard_updates : (force : Option Definition) (us : List Message) → AreUpdates us
    → (heard force us ≡ map (λ u. (force, u)) us) × (force_behind force us ≡ force)
heard_updates force [] h = (refl, refl)
heard_updates force (u ∷ us) h =
    let first = heard_update force u us h.0 in
    let rest = heard_updates force us h.1 in (
      first.0 ∙ ap (λ (hs : List (Option Definition × Message)). (force, u) ∷ hs) rest.0,
      first.1 ∙ rest.1,
    )

is_update : (table : Pushed) (id : ℕ) (key : List ℕ) (change : Change)
    → IsUpdate (update_of table id key change)
is_update table id key Put = tt
is_update table id key TakeAway = tt

are_updates : (table : Pushed) (last : ℕ) (cs : List (List ℕ × Change))
    → AreUpdates (updates table last cs)
are_updates table last [] = tt
are_updates table last (c ∷ cs) =
    (is_update table (next_id last) c.0 c.1, are_updates table (next_id last) cs)

-- ---- one table after the other

-- the table has its place among all, and says updates
record IsPlaced (all : List Pushed) (t : TableTurn) : Type 0 where
  own : definition_with all t.id ≡ Some (definition_of t.id t.pushed)
  updates : AreUpdates t.updates

own_section : (all : List Pushed) (last : ℕ) (t : TableTurn) (force : Option Definition)
    (u : Message) (us : List Message) (b : Bool) → nat_eq last t.id ≡ b
    → force ≡ definition_with all last → IsPlaced all t → AreUpdates (u ∷ us)
    → (heard force (cond b [] (messages.Define (definition_of t.id t.pushed) ∷ []) ++ u ∷ us)
    ≡ map (λ u. (Some (definition_of t.id t.pushed), u)) (u ∷ us))
    × (force_behind force (cond b [] (messages.Define (definition_of t.id t.pushed) ∷ []) ++ u ∷ us)
    ≡ definition_with all t.id)
own_section all last t force u us true is f placed h =
    let same : last ≡ t.id = grind (arith, nat_tests) in
    let own : force ≡ Some (definition_of t.id t.pushed) =
    f ∙ ap (definition_with all) same ∙ placed.own in
    let rest = heard_updates force (u ∷ us) h in (
      rest.0 ∙ ap (λ (o : Option Definition). map (λ u. (o, u)) (u ∷ us)) own,
      rest.1 ∙ own ∙ sym placed.own,
    )
own_section all last t force u us false is f placed h =
    let rest = heard_updates (Some (definition_of t.id t.pushed)) (u ∷ us) h in
    (rest.0, rest.1 ∙ sym placed.own)

heard_section : (all : List Pushed) (last : ℕ) (t : TableTurn) (force : Option Definition)
    (us : List Message) → force ≡ definition_with all last → IsPlaced all t → AreUpdates us
    → (heard force (turn_section last t us)
    ≡ map (λ u. (Some (definition_of t.id t.pushed), u)) us)
    × (force_behind force (turn_section last t us) ≡ definition_with all (turn_behind last t us))
heard_section all last t force [] f placed h = (refl, f)
heard_section all last t force (u ∷ us) f placed h =
    own_section all last t force u us (nat_eq last t.id) refl f placed h

heard_sections : (all : List Pushed) (last : ℕ) (ts : List TableTurn) (force : Option Definition)
    → force ≡ definition_with all last → AllByRecursion (IsPlaced all) ts
    → (heard force (turn_sections last ts) ≡ flat_map turn_under_own ts)
    × (force_behind force (turn_sections last ts) ≡ definition_with all (last_defined last ts))
unfolding last_defined
heard_sections all last [] force f h = (refl, f)
heard_sections all last (t ∷ ts) force f h =
    let here = heard_section all last t force t.updates f h.0 h.0.updates in
    let mid : ℕ = turn_behind last t t.updates in
    let rest = heard_sections all mid ts (force_behind force (turn_section last t t.updates)) here.1
    h.1 in (
      heard_append force (turn_section last t t.updates) (turn_sections mid ts)
          ∙ (λ i. here.0 i ++ rest.0 i),
      force_append force (turn_section last t t.updates) (turn_sections mid ts) ∙ rest.1
          ∙ ap (λ (n : ℕ). definition_with all (last_defined n ts))
          (sym (last_is last t t.updates)),
    )

placed_turn : (all : List Pushed) (turn : Turn) (before : ℕ) (p : Pushed) (set : List (List ℕ))
    (old : ToldTable) → slice_get all before ≡ Some p
    → IsPlaced all (table_turn turn (before + 1) p set old)
unfolding table_turn
placed_turn all turn before p set old is = record {
  own = ap (definition_with all) (add-one before)
      ∙ ap (option_map (definition_of (before + 1))) is;
  updates = are_updates p old.last (changes p turn (stands set old.marks));
}

placed_turns : (all : List Pushed) (turn : Turn) (sets : List (List (List ℕ)))
    (told : List ToldTable) (before : ℕ) (ps : List Pushed)
    → ((i : ℕ) (p : Pushed) → slice_get ps i ≡ Some p → slice_get all (before + i) ≡ Some p)
    → AllByRecursion (IsPlaced all) (table_turns turn sets told before ps)
unfolding table_turns
placed_turns all turn sets told before [] h = tt
placed_turns all turn sets told before (p ∷ ps) h = (
  placed_turn all turn before p _ _
      (ap (slice_get all) (let s : before ≡ before + 0 = omega arith in s) ∙ h 0 p refl),
  placed_turns all turn sets told (before + 1) ps (λ i q is.
      ap (slice_get all) (let s : (before + 1) + i ≡ before + suc i = omega arith in s)
      ∙ h (suc i) q is),
)

-- before the tables the one in force is the one defined last
begun : (pushed : List Pushed) (told : Told) (b : Bool)
    → (heard (cond b (definition_with pushed told.defined) None)
    (cond b [] (definitions 0 pushed)) ≡ [])
    × (force_behind (cond b (definition_with pushed told.defined) None)
    (cond b [] (definitions 0 pushed))
    ≡ definition_with pushed (cond b told.defined (length pushed)))
begun pushed told true = (refl, refl)
begun pushed told false = (heard_none None 0 pushed, force_all pushed)

pub turn_heard : (pushed : List Pushed) (sets : List (List (List ℕ))) (now : ℕ) (told : Told)
    → (heard (in_force pushed told) (turn_messages_of pushed sets now told)
    ≡ flat_map turn_under_own (turns pushed sets now told))
    × (force_behind (in_force pushed told) (turn_messages_of pushed sets now told)
    ≡ in_force pushed (told_after pushed sets now told))
unfolding told_after
turn_heard pushed sets now told =
    let first : List Message = cond told.begun [] (definitions 0 pushed) in
    let ts : List TableTurn = turns pushed sets now told in
    let last : ℕ = defined_before pushed told in
    let start = begun pushed told told.begun in
    let rest = heard_sections pushed last ts (force_behind (in_force pushed told) first) start.1
    (placed_turns pushed (turn_at now told) sets told.tables 0 pushed
    (λ i p is. ap (slice_get pushed) (let s : 0 + i ≡ i = omega arith in s) ∙ is)) in (
      heard_append (in_force pushed told) first (turn_sections last ts)
          ∙ (λ i. start.0 i ++ rest.0 i),
      force_append (in_force pushed told) first (turn_sections last ts) ∙ rest.1,
    )
