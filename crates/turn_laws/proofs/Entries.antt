-- The entries that a turn's updates make.
use Rattle.std.proofs.Common.{◌≡◌, ℕ, zero, suc, ◌+◌, ◌^◌, ◌<◌, ◌≤◌, Bool, true, false, cond, ◌&&◌}
use Rattle.std.proofs.Common.{ltb, List, [], ◌∷◌, ◌++◌, length, map, take, drop, Option, None, Some}
use Rattle.std.proofs.Common.{refl, sym, ap, subst, ◌∙◌, arith, append_assoc, length-append}
use Rattle.std.specs.Prelude.{nat_eq, option_to_list, slice_get, slice_index_or}
use Rattle.std.specs.List.{flat_map}
use Rattle.std.specs.List.Sorted.{IsStrictlySortedBy}
use Rattle.std.specs.Option.{option_map}
use Rattle.std.specs.Str.{bytes_eq}
use Rattle.std.proofs.lemmas.Bool.{le-ltb}
use Rattle.std.proofs.lemmas.Bool.Decides.{nat_tests}
use Rattle.std.proofs.lemmas.Cmp.{nat_eq_equiv}
use Rattle.std.proofs.lemmas.List.{drop_at, take_at}
use Rattle.agg_types.specs.Fits.{key_fits}
use Rattle.agg_types.specs.Kind.{kind_number}
use Rattle.agg_types.specs.declared.config.KeyKind.{KeyKind}
use Rattle.agg_types.specs.declared.config.KeyKind.TheVariants.{Integer, Ip, Ipv6, Str, Binary}
use Rattle.peers_msg.specs.Payload.{◌>>=◌, number_at, string_at}
use Rattle.peers_msg.specs.Spelling.{integer_spelling}
use Rattle.peers_msg.specs.declared.message.Definition.{Definition}
use Rattle.peers_msg.specs.declared.message.Message.{Message}
use Rattle.peers_msg.specs.declared.message.Message.TheVariants as messages
use Rattle.peers_msg.proofs.Numerals.{number_again}
use Rattle.pushed_keys.specs.Stands.{stands}
use Rattle.pushed_keys.specs.Turns.{no_table, changes, next_id}
use Rattle.pushed_keys.specs.declared.change.Change.{Change}
use Rattle.pushed_keys.specs.declared.change.Change.TheVariants.{Put, TakeAway}
use Rattle.pushed_keys.specs.declared.change.Turn.{Turn}
use Rattle.pushed_keys.specs.declared.pushed.Pushed.{Pushed}
use Rattle.pushed_keys.specs.declared.told.ToldTable.{ToldTable}
use Rattle.telling.specs.Telling.{TableTurn, definition_of, key_length, key_spelling, table_turn}
use Rattle.telling.specs.Telling.{table_turns, update_of, updates}
use Rattle.turn_laws.specs.Keys.{AreInOrder, AreShort, change_for}
use Rattle.turn_laws.specs.Receiver.{Entry, entries_after, entry_of, key_and_count, newest}
use Rattle.turn_laws.specs.Receiver.{with_count}
use Rattle.turn_laws.proofs.ByTurn.{turn_under_own}
use Rattle.turn_laws.proofs.Sides.{Each, IsBelow, alike, not_changed}

-- ---- one update

abbrev pub flag : Change → ℕ
flag Put = 1
flag TakeAway = 0

abbrev pub span : Pushed → Change → ℕ
span table Put = table.life
span table TakeAway = 1

-- the entry of a change at a moment
abbrev pub made : ℕ → Pushed → ℕ → List ℕ → Change → Entry
made id table now key change =
    record { table = id; key = key; gone = now + span table change; count = flag change }

one_read : number_at (1 ∷ []) ≡ Some (1, [])
unfolding integer_spelling
one_read = number_again 1 [] (omega arith)

none_read : number_at (0 ∷ []) ≡ Some (0, [])
unfolding integer_spelling
none_read = number_again 0 [] (omega arith)

flag_read : (key : List ℕ) (change : Change)
    → with_count key (flag change ∷ []) ≡ Some (key, flag change)
flag_read key Put =
    ap (λ (o : Option (ℕ × List ℕ)). o >>= λ count. Some (key, count.0)) one_read
flag_read key TakeAway =
    ap (λ (o : Option (ℕ × List ℕ)). o >>= λ count. Some (key, count.0)) none_read

string_again : (text rest : List ℕ) → length text < 2 ^ 64
    → string_at (integer_spelling (length text) ++ (text ++ rest)) ≡ Some (text, rest)
unfolding string_at
string_again text rest small =
    let long : ltb (length (text ++ rest)) (length text) ≡ false =
    le-ltb _ _ (omega (arith, length-append text rest)) in
    rw (
      number_again (length text) (text ++ rest) small,
      long,
      take_at text rest (length text) refl,
      drop_at text rest (length text) refl,
    ) refl

fixed_again : (len : ℕ) (key : List ℕ) (byte : ℕ) → length key ≡ len
    → cond (ltb (length (key ++ byte ∷ [])) len) None
    (with_count (take len (key ++ byte ∷ [])) (drop len (key ++ byte ∷ [])))
    ≡ with_count key (byte ∷ [])
fixed_again len key byte same =
    let long : ltb (length (key ++ byte ∷ [])) len ≡ false =
    le-ltb _ _ (omega (arith, same, length-append key (byte ∷ []))) in
    rw (long, take_at key (byte ∷ []) len same, drop_at key (byte ∷ []) len same) refl

equal : (a b : ℕ) → nat_eq a b ≡ true → a ≡ b
equal a b e = grind (arith, nat_tests)

key_again : (kind : KeyKind) (key : List ℕ) (change : Change) → key_fits kind key ≡ true
    → length key ≤ 256
    → key_and_count (kind_number kind) (key_length kind)
    (key_spelling kind key ++ flag change ∷ []) ≡ Some (key, flag change)
key_again Integer key change fits short =
    fixed_again 4 key (flag change) (equal (length key) 4 fits) ∙ flag_read key change
key_again Ip key change fits short =
    fixed_again 4 key (flag change) (equal (length key) 4 fits) ∙ flag_read key change
key_again Ipv6 key change fits short =
    fixed_again 16 key (flag change) (equal (length key) 16 fits) ∙ flag_read key change
key_again (Str len) key change fits short =
    ap (λ (text : List ℕ). string_at text >>= λ t. with_count t.0 t.1)
    (append_assoc (integer_spelling (length key)) key (flag change ∷ []))
    ∙ ap (λ (o : Option (List ℕ × List ℕ)). o >>= λ t. with_count t.0 t.1)
    (string_again key (flag change ∷ []) (omega arith))
    ∙ flag_read key change
key_again (Binary len) key change fits short =
    fixed_again len key (flag change) (equal (length key) len fits) ∙ flag_read key change

abbrev entry_with : ℕ → ℕ → List ℕ × ℕ → Entry
entry_with id gone read = record { table = id; key = read.0; gone = gone; count = read.1 }

made_again : (id : ℕ) (table : Pushed) (now n : ℕ) (key : List ℕ) (change : Change)
    → key_fits table.kind key ≡ true → length key ≤ 256
    → entry_of now (Some (definition_of id table)) (update_of table n key change)
    ≡ made id table now key change ∷ []
made_again id table now n key Put fits short =
    ap (λ (o : Option (List ℕ × ℕ)).
    option_to_list (option_map (entry_with id (now + table.life)) o))
    (key_again table.kind key Put fits short)
made_again id table now n key TakeAway fits short =
    ap (λ (o : Option (List ℕ × ℕ)). option_to_list (option_map (entry_with id (now + 1)) o))
    (key_again table.kind key TakeAway fits short)

-- ---- the updates of one table

-- the newest entry of a key behind a change, if there is one
abbrev pub behind : ℕ → Pushed → ℕ → List ℕ → Option Change → Option Entry → Option Entry
behind id table now key None old = old
behind id table now key (Some change) old = Some (made id table now key change)

newest_own : (id : ℕ) (table : Pushed) (now : ℕ) (key own : List ℕ) (change : Change)
    (entries : List Entry)
    → newest id key (made id table now own change ∷ entries)
    ≡ cond (bytes_eq key own) (Some (made id table now own change)) (newest id key entries)
newest_own id table now key own change entries =
    ap (λ (b : Bool). cond (b && bytes_eq key own) (Some (made id table now own change))
    (newest id key entries)) (nat_eq_equiv.refl id)

-- changes that can be read again
pub record AreReadable (table : Pushed) (cs : List (List ℕ × Change)) : Type 0 where
  pub in_order : AreInOrder (map (λ c. c.0) cs)
  pub fit : Each (λ key. key_fits table.kind key ≡ true) (map (λ c. c.0) cs)
  pub short : AreShort (map (λ c. c.0) cs)

own_step : (id : ℕ) (table : Pushed) (now : ℕ) (key own : List ℕ) (change : Change)
    (later : Option Change) (old : Option Entry) (b : Bool) → (b ≡ true → key ≡ own)
    → (b ≡ true → later ≡ None)
    → behind id table now key later (cond b (Some (made id table now own change)) old)
    ≡ behind id table now key (cond b (Some change) later) old
own_step id table now key own change later old true same none =
    (λ i. behind id table now key (none refl i)
    (Some (made id table now (sym (same refl) i) change)))
own_step id table now key own change later old false same none = refl

own_entries : (id : ℕ) (table : Pushed) (now last : ℕ) (key : List ℕ)
    (cs : List (List ℕ × Change)) (entries : List Entry) → AreReadable table cs
    → newest id key (entries_after now
    (map (λ u. (Some (definition_of id table), u)) (updates table last cs)) entries)
    ≡ behind id table now key (change_for key cs) (newest id key entries)
unfolding IsStrictlySortedBy
own_entries id table now last key [] entries h = refl
own_entries id table now last key (c ∷ cs) entries h =
    let rest : AreReadable table cs =
    record { in_order = h.in_order.1; fit = h.fit.1; short = h.short.1 } in
    ap (λ (made : List Entry). newest id key (entries_after now
    (map (λ u. (Some (definition_of id table), u)) (updates table (next_id last) cs))
    (made ++ entries)))
    (made_again id table now (next_id last) c.0 c.1 h.fit.0 h.short.0)
    ∙ own_entries id table now (next_id last) key cs (made id table now c.0 c.1 ∷ entries) rest
    ∙ ap (behind id table now key (change_for key cs))
    (newest_own id table now key c.0 c.1 entries)
    ∙ own_step id table now key c.0 c.1 (change_for key cs) (newest id key entries)
    (bytes_eq key c.0) (λ e. alike key c.0 e)
    (λ e. not_changed key cs (subst (λ (k : List ℕ). Each (IsBelow k) (map (λ d. d.0) cs))
    (sym (alike key c.0 e)) h.in_order.0))

-- ---- the updates of other tables

other_made : (id other gone : ℕ) (key : List ℕ) (o : Option (List ℕ × ℕ)) (entries : List Entry)
    → nat_eq other id ≡ false
    → newest id key (option_to_list (option_map (entry_with other gone) o) ++ entries)
    ≡ newest id key entries
other_made id other gone key None entries e = refl
other_made id other gone key (Some read) entries e =
    ap (λ (b : Bool). cond (b && bytes_eq key read.0) (Some (entry_with other gone read))
    (newest id key entries)) e

other_entry : (id other : ℕ) (table : Pushed) (now : ℕ) (key : List ℕ) (u : Message)
    (entries : List Entry) → nat_eq other id ≡ false
    → newest id key (entry_of now (Some (definition_of other table)) u ++ entries)
    ≡ newest id key entries
other_entry id other table now key (messages.Update n (Some life) rest) entries e =
    other_made id other (now + life) key
    (key_and_count (kind_number table.kind) (key_length table.kind) rest) entries e
other_entry id other table now key (messages.Update n None rest) entries e = refl
other_entry id other table now key messages.Request entries e = refl
other_entry id other table now key messages.Finished entries e = refl
other_entry id other table now key messages.Partial entries e = refl
other_entry id other table now key messages.Confirm entries e = refl
other_entry id other table now key messages.Heartbeat entries e = refl
other_entry id other table now key messages.ProtocolError entries e = refl
other_entry id other table now key messages.SizeError entries e = refl
other_entry id other table now key (messages.Define d) entries e = refl
other_entry id other table now key (messages.Switch n) entries e = refl
other_entry id other table now key (messages.Acked n last) entries e = refl
other_entry id other table now key (messages.Other class kind) entries e = refl

other_entries : (id other : ℕ) (table : Pushed) (now : ℕ) (key : List ℕ) (us : List Message)
    (entries : List Entry) → nat_eq other id ≡ false
    → newest id key (entries_after now
    (map (λ u. (Some (definition_of other table), u)) us) entries) ≡ newest id key entries
other_entries id other table now key [] entries e = refl
other_entries id other table now key (u ∷ us) entries e =
    other_entries id other table now key us
    (entry_of now (Some (definition_of other table)) u ++ entries) e
    ∙ other_entry id other table now key u entries e

-- ---- one table after the other

entries_append : (now : ℕ) (us vs : List (Option Definition × Message)) (entries : List Entry)
    → entries_after now (us ++ vs) entries ≡ entries_after now vs (entries_after now us entries)
entries_append now [] vs entries = refl
entries_append now (u ∷ us) vs entries =
    entries_append now us vs (entry_of now u.0 u.1 ++ entries)

unequal : (a b : ℕ) → (a ≡ b → ⊥) → nat_eq a b ≡ false
unequal a b h = grind (arith, nat_tests)

-- tables behind one leave its entries
tables_behind : (id now : ℕ) (key : List ℕ) (turn : Turn) (sets : List (List (List ℕ)))
    (told : List ToldTable) (before : ℕ) (ps : List Pushed) (entries : List Entry) → id ≤ before
    → newest id key (entries_after now
    (flat_map turn_under_own (table_turns turn sets told before ps)) entries)
    ≡ newest id key entries
unfolding table_turns table_turn
tables_behind id now key turn sets told before [] entries le = refl
tables_behind id now key turn sets told before (p ∷ ps) entries le =
    let t : TableTurn = table_turn turn (before + 1) p (slice_index_or sets before [])
    (slice_index_or told before no_table) in
    ap (newest id key) (entries_append now (turn_under_own t)
    (flat_map turn_under_own (table_turns turn sets told (before + 1) ps)) entries)
    ∙ tables_behind id now key turn sets told (before + 1) ps
    (entries_after now (turn_under_own t) entries) (omega arith)
    ∙ other_entries id (before + 1) p now key t.updates entries
    (unequal (before + 1) id (λ same. omega arith))

-- what is changed of a table, by its place
abbrev pub changes_at : Turn → List (List (List ℕ)) → List ToldTable → Pushed → ℕ
    → List (List ℕ × Change)
changes_at turn sets told table place =
    changes table turn (stands (slice_index_or sets place [])
    (slice_index_or told place no_table).marks)

first_table : (now : ℕ) (key : List ℕ) (turn : Turn) (sets : List (List (List ℕ)))
    (told : List ToldTable) (before : ℕ) (p : Pushed) (ps : List Pushed) (entries : List Entry)
    → AreReadable p (changes_at turn sets told p before)
    → newest (before + 1) key (entries_after now
    (flat_map turn_under_own (table_turns turn sets told before (p ∷ ps))) entries)
    ≡ behind (before + 1) p now key (change_for key (changes_at turn sets told p before))
    (newest (before + 1) key entries)
unfolding table_turns table_turn
first_table now key turn sets told before p ps entries h =
    let t : TableTurn = table_turn turn (before + 1) p (slice_index_or sets before [])
    (slice_index_or told before no_table) in
    ap (newest (before + 1) key) (entries_append now (turn_under_own t)
    (flat_map turn_under_own (table_turns turn sets told (before + 1) ps)) entries)
    ∙ tables_behind (before + 1) now key turn sets told (before + 1) ps
    (entries_after now (turn_under_own t) entries) (omega arith)
    ∙ own_entries (before + 1) p now (slice_index_or told before no_table).last key
    (changes_at turn sets told p before) entries h

-- behind a turn the newest entry of a key is that of its change, if it has one
pub table_entries : (now : ℕ) (key : List ℕ) (turn : Turn) (sets : List (List (List ℕ)))
    (told : List ToldTable) (before : ℕ) (ps : List Pushed) (place at : ℕ) (table : Pushed)
    (entries : List Entry) → slice_get ps place ≡ Some table → at ≡ before + place
    → AreReadable table (changes_at turn sets told table at)
    → newest (at + 1) key (entries_after now
    (flat_map turn_under_own (table_turns turn sets told before ps)) entries)
    ≡ behind (at + 1) table now key (change_for key (changes_at turn sets told table at))
    (newest (at + 1) key entries)
unfolding table_turns table_turn
table_entries now key turn sets told before [] place at table entries is here h = absurd (cc is)
table_entries now key turn sets told before (p ∷ ps) zero at table entries is here h =
    let same : p ≡ table = cc is in
    let there : before ≡ at = omega arith in
    subst (λ (n : ℕ). AreReadable table (changes_at turn sets told table n)
    → newest (n + 1) key (entries_after now
    (flat_map turn_under_own (table_turns turn sets told before (p ∷ ps))) entries)
    ≡ behind (n + 1) table now key (change_for key (changes_at turn sets told table n))
    (newest (n + 1) key entries)) there
    (subst (λ (t : Pushed). AreReadable t (changes_at turn sets told t before)
    → newest (before + 1) key (entries_after now
    (flat_map turn_under_own (table_turns turn sets told before (p ∷ ps))) entries)
    ≡ behind (before + 1) t now key (change_for key (changes_at turn sets told t before))
    (newest (before + 1) key entries)) same
    (λ r. first_table now key turn sets told before p ps entries r)) h
table_entries now key turn sets told before (p ∷ ps) (suc place) at table entries is here h =
    let t : TableTurn = table_turn turn (before + 1) p (slice_index_or sets before [])
    (slice_index_or told before no_table) in
    ap (newest (at + 1) key) (entries_append now (turn_under_own t)
    (flat_map turn_under_own (table_turns turn sets told (before + 1) ps)) entries)
    ∙ table_entries now key turn sets told (before + 1) ps place at table
    (entries_after now (turn_under_own t) entries) is (omega arith) h
    ∙ ap (behind (at + 1) table now key (change_for key (changes_at turn sets told table at)))
    (other_entries (at + 1) (before + 1) p now key t.updates entries
    (unequal (before + 1) (at + 1) (λ same. omega arith)))
