-- What a receiver has of a key, against what is told.
use Rattle.std.proofs.Common.{◌≡◌, ℕ, ◌+◌, ◌-◌, ◌≤◌, Bool, true, false, cond, ◌&&◌, ◌||◌}
use Rattle.std.proofs.Common.{ltb, List, [], ◌∷◌, length, Option, None, Some, refl, sym, ap}
use Rattle.std.proofs.Common.{subst, ◌∙◌, arith, inl, inr}
use Rattle.std.specs.Prelude.{filter, not, slice_get, slice_index_or}
use Rattle.std.specs.Bool.{then_some}
use Rattle.std.specs.List.{flat_map}
use Rattle.std.specs.List.Sorted.{IsStrictlySortedBy}
use Rattle.std.specs.Option.{option_map_or}
use Rattle.std.specs.Str.{bytes_eq}
use Rattle.std.proofs.Math.Bool.{and-false, and-true}
use Rattle.std.proofs.lemmas.Bool.{cases_Bool, le-ltb, lt-ltb, ltb-false, ltb-true}
use Rattle.agg_types.specs.Fits.{key_fits}
use Rattle.agg_types.specs.declared.limits.TheConstants.{LONGEST_KEY}
use Rattle.peers_msg.specs.Message.{Reading, reading_of}
use Rattle.pushed_keys.specs.Rules.{change_of, is_told, is_written, put_after}
use Rattle.pushed_keys.specs.Stands.{stands}
use Rattle.pushed_keys.specs.declared.change.Change.{Change}
use Rattle.pushed_keys.specs.declared.change.Change.TheVariants.{Put, TakeAway}
use Rattle.pushed_keys.specs.declared.change.Turn.{Turn}
use Rattle.pushed_keys.specs.declared.pushed.Pushed.{Pushed}
use Rattle.pushed_keys.specs.declared.told.Mark.{Mark}
use Rattle.telling.specs.Telling.{Told, asked, keys_told, table_at, told_after, told_keys, turn_at}
use Rattle.telling.specs.Telling.{turn_text, turns, untold}
use Rattle.telling.proofs.Whole.{table_told}
use Rattle.turn_laws.specs.Heard.{force_behind, heard, in_force}
use Rattle.turn_laws.specs.Keys.{AreInOrder, AreSets, IsKept, is_in, keys_of, put_of}
use Rattle.turn_laws.specs.Receiver.{AreTurns, Entry, Receiver, entries_after, is_flagged}
use Rattle.turn_laws.specs.Receiver.{new_receiver, newest, reads, receiver_behind}
use Rattle.turn_laws.specs.Session.{Asked, Step, Turned, told_behind}
use Rattle.turn_laws.specs.Written.{AreTables}
use Rattle.turn_laws.proofs.ByTurn.{turn_messages_of, turn_under_own}
use Rattle.turn_laws.proofs.Entries.{AreReadable, behind, changes_at, made, table_entries}
use Rattle.turn_laws.proofs.Hearing.{turn_heard}
use Rattle.turn_laws.proofs.Places.{marks_there}
use Rattle.turn_laws.proofs.Sides.{Each, IsBelow, alike, each_changed, each_marked, each_stand}
use Rattle.turn_laws.proofs.Sides.{not_put, order_changed}
use Rattle.turn_laws.proofs.Spoken.{turn_read}
use Rattle.turn_laws.proofs.Tables.{change_there, kept_behind, put_there, standing_order}

-- ---- one key

-- A key that was last put at a moment has the entry of that put; any other isn't flagged from this
-- moment on.
abbrev pub Matches : ℕ → Pushed → List ℕ → ℕ → Option ℕ → Option Entry → Type 0
Matches id table key since (Some put) entry =
    (entry ≡ Some (made id table put key Put)) × (put ≤ since)
Matches id table key since None entry =
    (now : ℕ) → since ≤ now → is_flagged now entry ≡ false

module _ (id : ℕ) (table : Pushed) (key : List ℕ) (turn : Turn) where
  -- behind a turn, from what it changes of a key
  abbrev changed : Option Change → Option Entry → Option Entry
  changed change entry = behind id table turn.now key change entry

  put_step : (b : Bool) (since put : ℕ) (entry : Option Entry) → since ≤ turn.now
      → Matches id table key since (Some put) entry
      → Matches id table key turn.now (cond b (Some turn.now) (Some put))
      (changed (then_some b Put) entry)
  put_step true since put entry le h = (refl, omega arith)
  put_step false since put entry le h = (h.0, omega (arith, h.1))

  absent_step : (b : Bool) (since : ℕ) (entry : Option Entry) → since ≤ turn.now
      → Matches id table key since None entry
      → Matches id table key turn.now (cond (b && false) None None)
      (changed (then_some (not b && false) TakeAway) entry)
  absent_step true since entry le h = λ now more. h now (omega arith)
  absent_step false since entry le h = λ now more. h now (omega arith)

  -- an entry whose life has gone by isn't flagged
  over : (since put : ℕ) (entry : Option Entry) → since ≤ turn.now
      → Matches id table key since (Some put) entry → is_told table turn.now put ≡ false
      → Matches id table key turn.now None entry
  over since put entry le h gone = λ now more.
      let past : table.life ≤ turn.now - put = ltb-false _ _ gone in
      let late : ltb now (put + table.life) ≡ false = le-ltb _ _ (omega (arith, past, h.1)) in
      ap (is_flagged now) h.0 ∙ ap (λ (b : Bool). b && true) late

  left_step : (holds told : Bool) (since put : ℕ) (entry : Option Entry) → since ≤ turn.now
      → Matches id table key since (Some put) entry → is_told table turn.now put ≡ told
      → Matches id table key turn.now (cond (holds && told) (Some put) None)
      (changed (then_some (not holds && told) TakeAway) entry)
  left_step true true since put entry le h is = (h.0, omega (arith, h.1))
  left_step true false since put entry le h is = over since put entry le h is
  left_step false true since put entry le h is = λ now more. and-false (ltb now (turn.now + 1))
  left_step false false since put entry le h is = over since put entry le h is

  pub key_step : (inside : Bool) (since : ℕ) (put : Option ℕ) (entry : Option Entry)
      → since ≤ turn.now → Matches id table key since put entry
      → Matches id table key turn.now (put_after table turn inside put)
      (changed (change_of table turn inside put) entry)
  unfolding put_after change_of
  key_step true since None entry le h = (refl, omega arith)
  key_step true since (Some put) entry le h =
      put_step (is_written table turn (Some put)) since put entry le h
  key_step false since None entry le h = absent_step table.holds since entry le h
  key_step false since (Some put) entry le h =
      left_step table.holds (is_told table turn.now put) since put entry le h refl

-- ---- what is told

told_one : (table : Pushed) (now : ℕ) (key : List ℕ) (mark : Mark) (rest : List Mark)
    (later : Option ℕ) (b c : Bool) → is_told table now mark.put ≡ b → bytes_eq key mark.key ≡ c
    → is_in key (keys_of rest) ≡ option_map_or (is_told table now) later false
    → (c ≡ true → later ≡ None)
    → is_in key (keys_of (cond b (mark ∷ rest) rest))
    ≡ option_map_or (is_told table now) (cond c (Some mark.put) later) false
told_one table now key mark rest later true true is same ih none =
    ap (λ (x : Bool). x || is_in key (keys_of rest)) same ∙ sym is
told_one table now key mark rest later true false is same ih none =
    ap (λ (x : Bool). x || is_in key (keys_of rest)) same ∙ ih
told_one table now key mark rest later false true is same ih none =
    ih ∙ ap (λ (o : Option ℕ). option_map_or (is_told table now) o false) (none refl) ∙ sym is
told_one table now key mark rest later false false is same ih none = ih

-- a key is told by its mark
told_by_mark : (table : Pushed) (now : ℕ) (key : List ℕ) (marks : List Mark)
    → AreInOrder (keys_of marks)
    → is_in key (keys_told table now marks)
    ≡ option_map_or (is_told table now) (put_of key marks) false
unfolding IsStrictlySortedBy
told_by_mark table now key [] h = refl
told_by_mark table now key (mark ∷ marks) h =
    told_one table now key mark (filter (λ m. is_told table now m.put) marks) (put_of key marks)
    (is_told table now mark.put) (bytes_eq key mark.key) refl refl
    (told_by_mark table now key marks h.1)
    (λ e. not_put key marks (subst (λ (k : List ℕ). Each (IsBelow k) (keys_of marks))
    (sym (alike key mark.key e)) h.0))

same_life : (now put life : ℕ) → put ≤ now → ltb (now - put) life ≡ ltb now (put + life)
same_life now put life le =
    elim (cases_Bool (ltb (now - put) life)) [
      | inl is ↦ is ∙ sym (lt-ltb _ _ (omega (arith, ltb-true _ _ is)))
      | inr isnt ↦ isnt ∙ sym (le-ltb _ _ (omega (arith, ltb-false _ _ isnt)))
    ]

flagged_by_mark : (id : ℕ) (table : Pushed) (key : List ℕ) (since now : ℕ) (put : Option ℕ)
    (entry : Option Entry) → since ≤ now → Matches id table key since put entry
    → is_flagged now entry ≡ option_map_or (is_told table now) put false
flagged_by_mark id table key since now None entry le h = h now le
flagged_by_mark id table key since now (Some put) entry le h =
    ap (is_flagged now) h.0 ∙ and-true (ltb now (put + table.life))
    ∙ sym (same_life now put table.life (omega (arith, h.1)))

-- ---- a session

abbrev Fits : Pushed → List ℕ → Type 0
Fits table key = key_fits table.kind key ≡ true

module _ (pushed : List Pushed) (place : ℕ) (table : Pushed) (key : List ℕ)
    (is : slice_get pushed place ≡ Some table) (tables : AreTables pushed) where
  -- a receiver stands with what is told
  record Stands (told : Told) (receiver : Receiver) (since : ℕ) : Type 0 where
    force : receiver.force ≡ in_force pushed told
    kept : IsKept told
    fit : Each (Fits table) (keys_of (table_at told place).marks)
    same : Matches (place + 1) table key since (put_of key (table_at told place).marks)
        (newest (place + 1) key receiver.entries)

  turn_entries : (sets : List (List (List ℕ))) (now : ℕ) (told : Told) (receiver : Receiver)
      → receiver.force ≡ in_force pushed told → AreSets sets → IsKept told
      → reads now (reading_of (turn_text pushed sets now told)).messages receiver
      ≡ record {
        force = in_force pushed (told_after pushed sets now told);
        entries = entries_after now (flat_map turn_under_own (turns pushed sets now told))
            receiver.entries;
      }
  turn_entries sets now told receiver force s k =
      let read : (reading_of (turn_text pushed sets now told)).messages
      ≡ turn_messages_of pushed sets now told =
      ap (λ (r : Reading). r.messages) (turn_read pushed sets now told tables s k) in
      let said = turn_heard pushed sets now told in
      let forced : force_behind receiver.force
      (reading_of (turn_text pushed sets now told)).messages
      ≡ in_force pushed (told_after pushed sets now told) =
      (λ i. force_behind (force i) (read i)) ∙ said.1 in
      let listed : heard receiver.force (reading_of (turn_text pushed sets now told)).messages
      ≡ flat_map turn_under_own (turns pushed sets now told) =
      (λ i. heard (force i) (read i)) ∙ said.0 in
      λ i. record { force = forced i; entries = entries_after now (listed i) receiver.entries }

  readable : (sets : List (List (List ℕ))) (now : ℕ) (told : Told) → AreSets sets
      → IsKept told → Each (Fits table) (slice_index_or sets place [])
      → Each (Fits table) (keys_of (table_at told place).marks)
      → AreReadable table (changes_at (turn_at now told) sets told.tables table place)
  readable sets now told s k f g = record {
    in_order = order_changed table (turn_at now told)
        (stands (slice_index_or sets place []) (table_at told place).marks)
        (standing_order pushed sets now told place s k);
    fit = each_changed (Fits table) table (turn_at now told)
        (stands (slice_index_or sets place []) (table_at told place).marks)
        (each_stand (Fits table) (slice_index_or sets place []) (table_at told place).marks f g);
    short = each_changed (λ key. length key ≤ LONGEST_KEY) table (turn_at now told)
        (stands (slice_index_or sets place []) (table_at told place).marks)
        (each_stand (λ key. length key ≤ LONGEST_KEY) (slice_index_or sets place [])
        (table_at told place).marks (s.short place) (k.short place));
  }

  turn_step : (sets : List (List (List ℕ))) (now : ℕ) (told : Told) (receiver : Receiver)
      (since : ℕ) → Stands told receiver since → since ≤ now → AreSets sets
      → Each (Fits table) (slice_index_or sets place [])
      → Stands (told_after pushed sets now told)
      (reads now (reading_of (turn_text pushed sets now told)).messages receiver) now
  turn_step sets now told receiver since h le s f =
      let done = turn_entries sets now told receiver h.force s h.kept in
      let old : List Mark = (table_at told place).marks in
      let inside : Bool = is_in key (slice_index_or sets place []) in
      let entry : newest (place + 1) key (entries_after now
      (flat_map turn_under_own (turns pushed sets now told)) receiver.entries)
      ≡ behind (place + 1) table now key
      (change_of table (turn_at now told) inside (put_of key old))
      (newest (place + 1) key receiver.entries) =
      table_entries now key (turn_at now told) sets told.tables 0 pushed place place table
      receiver.entries is (omega arith) (readable sets now told s h.kept f h.fit)
      ∙ ap (λ (c : Option Change). behind (place + 1) table now key c
      (newest (place + 1) key receiver.entries))
      (change_there pushed sets now told place table key s h.kept) in
      record {
        force = ap (λ (r : Receiver). r.force) done;
        kept = kept_behind pushed sets now told s h.kept;
        fit = subst (λ (ms : List Mark). Each (Fits table) (keys_of ms))
            (sym (marks_there pushed sets now told place table is))
            (each_marked (Fits table) table (turn_at now told)
            (stands (slice_index_or sets place []) old)
            (each_stand (Fits table) (slice_index_or sets place []) old f h.fit));
        same = subst (λ (o : Option ℕ). Matches (place + 1) table key now o
            (newest (place + 1) key
            (reads now (reading_of (turn_text pushed sets now told)).messages receiver).entries))
            (sym (put_there pushed sets now told place table key is s h.kept))
            (subst (Matches (place + 1) table key now
            (put_after table (turn_at now told) inside (put_of key old)))
            (sym (ap (λ (r : Receiver). newest (place + 1) key r.entries) done ∙ entry))
            (key_step (place + 1) table key (turn_at now told) inside since (put_of key old)
            (newest (place + 1) key receiver.entries) le h.same));
      }

  run : (steps : List Step) (told : Told) (receiver : Receiver) (since until : ℕ)
      → Stands told receiver since → AreTurns table place since steps until
      → is_flagged until
      (newest (place + 1) key (receiver_behind pushed told steps receiver).entries)
      ≡ is_in key (told_keys pushed (told_behind pushed told steps) place until)
  run [] told receiver since until h le =
      flagged_by_mark (place + 1) table key since until (put_of key (table_at told place).marks)
      (newest (place + 1) key receiver.entries) le h.same
      ∙ sym (ap (is_in key) (table_told pushed told place until table
      (table_at told place).marks is refl)
      ∙ told_by_mark table until key (table_at told place).marks (h.kept.in_order place))
  run (Turned sets now ∷ steps) told receiver since until h t =
      run steps (told_after pushed sets now told)
      (reads now (reading_of (turn_text pushed sets now told)).messages receiver) now until
      (turn_step sets now told receiver since h t.0 t.1 t.2) t.3
  run (Asked ∷ steps) told receiver since until h t =
      run steps (asked told) receiver since until (record {
        force = h.force;
        kept = record {
          in_order = h.kept.in_order;
          short = h.kept.short;
          ids = h.kept.ids;
        };
        fit = h.fit;
        same = h.same;
      }) t

  none_kept : IsKept untold
  unfolding IsStrictlySortedBy
  none_kept = record { in_order = λ p. tt; short = λ p. tt; ids = λ p. omega arith }

  pub received : (steps : List Step) (until : ℕ) → AreTurns table place 0 steps until
      → is_flagged until
      (newest (place + 1) key (receiver_behind pushed untold steps new_receiver).entries)
      ≡ is_in key (told_keys pushed (told_behind pushed untold steps) place until)
  received steps until t =
      run steps untold new_receiver 0 until (record {
        force = refl;
        kept = none_kept;
        fit = tt;
        same = λ now more. refl;
      }) t
