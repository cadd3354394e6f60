-- What is read fits the configuration over which it is read.
use Rattle.std.proofs.Common.{◌≡◌, ℕ, zero, suc, ◌<◌, ◌≤◌, Bool, true, false, cond, leb}
use Rattle.std.proofs.Common.{ltb, List, [], ◌∷◌, length, get_or, Option, Some}
use Rattle.std.proofs.Common.{None, Result, Ok, Err, refl, ap, subst, ◌∙◌, arith, inl, inr}
use Rattle.std.proofs.lemmas.Bool.{cases_Bool, cases_lt}
use Rattle.std.proofs.lemmas.Bool.Decides.{nat_tests}
use Rattle.std.specs.List.{list_all, position, position_or_len}
use Rattle.std.specs.Prelude.{codes, IfOk}
use Rattle.std.specs.Str.{bytes_eq}
use Rattle.agg_types.specs.Fits.{at_table, conds_fit, filter_fits, fits, key_fits, select_fits}
use Rattle.agg_types.specs.Fits.{stores}
use Rattle.agg_types.specs.Name.{is_name}
use Rattle.agg_types.specs.declared.column.Col.{Col}
use Rattle.agg_types.specs.declared.config.Cond.{Cond}
use Rattle.agg_types.specs.declared.config.Filter.{Filter}
use Rattle.agg_types.specs.declared.config.KeyKind.{KeyKind}
use Rattle.agg_types.specs.declared.config.Shape.{Shape}
use Rattle.agg_types.specs.declared.event.Select.{Select}
use Rattle.agg_types.specs.declared.event.Select.TheVariants.{All, One, Conds}
use Rattle.agg_types.specs.declared.limits.TheConstants.{LONGEST_COMMAND_LINE}
use Rattle.fleet_model.specs.State.{State}
use Rattle.key_text.specs.Read.{bytes_of, if_fits, key_of}
use Rattle.line_words.specs.Reader.{◌>>=◌, Left, comparison, data_column, end, keyword, left_of}
use Rattle.line_words.specs.Reader.{next_is, word}
use Rattle.line_words.specs.declared.misread.Expected.TheVariants.{Keyword, Key, Name}
use Rattle.answer_text.specs.Tables.{no_shape, shape_of}
use Rattle.show_clear.specs.Answer.{AskedExists, ChangedExists, NamesExist}
use Rattle.show_clear.specs.Change.{ChangeFits, event_of}
use Rattle.show_clear.specs.Parse.{Says, added, added_named, cleared, command_by, command_in}
use Rattle.show_clear.specs.Parse.{cond_of, conds_of, dropped, filter_at, filter_on, is_at_end}
use Rattle.show_clear.specs.Parse.{key_shown, last_key, last_named, named, new_name, no_more_at}
use Rattle.show_clear.specs.Parse.{one_key, rank_at, reading_of, sel_of, shown, shown_by}
use Rattle.show_clear.specs.Parse.{some_conds, stored_column, table_and_sel, table_at, table_shown}
use Rattle.show_clear.specs.Parse.{without_returns}
use Rattle.show_clear.specs.Refused.{Reading, or_refused, read_of}
use Rattle.show_clear.specs.declared.command.Change.{Change}
use Rattle.show_clear.specs.declared.command.Change.TheVariants.{Clear, AddFilter, DropFilter}
use Rattle.show_clear.specs.declared.command.Command.{Command}
use Rattle.show_clear.specs.declared.command.Command.TheVariants.{Ask, Change as Changes}
use Rattle.show_clear.specs.declared.command.Question.{Question}
use Rattle.show_clear.specs.declared.command.Question.TheVariants.{Tables, Table, FilterKeys}
use Rattle.show_clear.specs.declared.command.Question.TheVariants.{Ranking, NextChange, OneKey}
use Rattle.show_clear.specs.declared.refused.Refused.{Refused}

-- what was read in two steps was read in each
bind_ok : {A B E : Type 0} (r : Result A E) (f : A → Result B E) (b : B) → (r >>= f) ≡ Ok b
    → (a : A) × (r ≡ Ok a) × (f a ≡ Ok b)
bind_ok (Ok a) f b h = (a, refl, h)
bind_ok (Err fault) f b h = absurd cc

ok_same : {A : Type 0} (a b : A) → (let r : Reading A = Ok a in r) ≡ Ok b → a ≡ b
ok_same a b h = cc

none_read : {A C : Type 0} (refused : Refused) (a : A)
    → (let r : Reading A = Err refused in r) ≡ Ok a → C
none_read refused a h = absurd cc

either : {A C : Type 0} (b : Bool) (x y : Reading A) (a : A) → cond b x y ≡ Ok a
    → (b ≡ true → x ≡ Ok a → C) → (y ≡ Ok a → C) → C
either true x y a h first second = first refl h
either false x y a h first second = second h

some_of : {A : Type 0} (o : Option A) (refused : Refused) (x : A)
    → or_refused refused o ≡ Ok x → o ≡ Some x
some_of None refused x h = absurd cc
some_of (Some y) refused x h = ap Some (ok_same y x h)

-- ---- conditions

column_stored : (cols : List (Col × ℕ)) (left : Left) (col : Col × Left)
    → stored_column cols left ≡ Ok col → stores cols col.0 ≡ true
unfolding stored_column
column_stored cols left col h =
    let named = bind_ok (read_of (data_column left)) _ col h in
    either (stores cols named.0.0) (Ok named.0) _ col named.2
    (λ there same. subst (λ (c : Col × Left). stores cols c.0 ≡ true)
    (ok_same named.0 col same) there) (none_read _ col)

cond_of_stored : (cols : List (Col × ℕ)) (left : Left) (first : Cond × Left)
    → cond_of cols left ≡ Ok first → stores cols first.0.col ≡ true
unfolding cond_of
cond_of_stored cols left first h =
    let col = bind_ok (stored_column cols left) _ first h in
    let said = bind_ok (read_of (comparison col.0.1)) _ first col.2 in
    let bound = bind_ok (read_of said.0.0.1) _ first said.2 in
    subst (λ (c : Cond × Left). stores cols c.0.col ≡ true) (ok_same _ first bound.2)
    (column_stored cols left col.0 col.1)

-- conditions that are read are no more than they may be, and each is on a stored column
record AreStored (cols : List (Col × ℕ)) (left : ℕ) (conds : List Cond) : Type 0 where
  few : length conds ≤ left
  stored : list_all (λ cond. stores cols cond.col) conds ≡ true

none_stored : (cols : List (Col × ℕ)) (left : ℕ) (conds : List Cond) → [] ≡ conds
    → AreStored cols left conds
none_stored cols left [] h = record { few = omega arith; stored = refl }
none_stored cols left (c ∷ conds) h = absurd cc

one_more : (cols : List (Col × ℕ)) (left : ℕ) (first : Cond) (more conds : List Cond)
    → stores cols first.col ≡ true → AreStored cols left more → first ∷ more ≡ conds
    → AreStored cols (suc left) conds
one_more cols left first more [] there rest h = absurd cc
one_more cols left first more (c ∷ conds) there rest h =
    subst (AreStored cols (suc left)) h (record {
      few = omega arith;
      stored =
          rw there rest.stored;
    })

no_more_read : (cols : List (Col × ℕ)) (number : ℕ) (ws : List (List ℕ)) (conds : List Cond)
    → no_more_at number ws ≡ Ok conds → AreStored cols zero conds
no_more_read cols number [] conds h = none_stored cols zero conds (ok_same [] conds h)
no_more_read cols number (word ∷ ws) conds h = none_read _ conds h

conds_stored : (cols : List (Col × ℕ)) (most : ℕ) (left : Left) (conds : List Cond)
    → conds_of cols most left ≡ Ok conds → AreStored cols most conds
unfolding conds_of
conds_stored cols zero left conds h = no_more_read cols left.number left.words conds h
conds_stored cols (suc most) left conds h =
    either (is_at_end left) (Ok []) _ conds h
    (λ none same. none_stored cols (suc most) conds (ok_same [] conds same)) (λ goes_on.
    let read = bind_ok (cond_of cols left) _ conds goes_on in
    let more = bind_ok (conds_of cols most read.0.1) _ conds read.2 in
    one_more cols most read.0.0 more.0 conds (cond_of_stored cols left read.0 read.1)
    (conds_stored cols most read.0.1 more.0 more.1) (ok_same (read.0.0 ∷ more.0) conds more.2))

-- one condition at least is read of a word
some_read : (cols : List (Col × ℕ)) (left : Left) (conds : List Cond) → is_at_end left ≡ false
    → conds_of cols 4 left ≡ Ok conds → 1 ≤ length conds
unfolding conds_of
some_read cols left [] some h =
    let goes_on : (cond_of cols left >>= λ first. conds_of cols 3 first.1 >>= λ others. Ok
    (first.0 ∷ others)) ≡ Ok [] = rw some at h in
    let read = bind_ok (cond_of cols left) _ [] goes_on in
    let more = bind_ok (conds_of cols 3 read.0.1) _ [] read.2 in
    absurd (let bad = ok_same (read.0.0 ∷ more.0) [] more.2 in cc)
some_read cols left (c ∷ conds) some h = omega arith

conds_of_fit : (cols : List (Col × ℕ)) (left : Left) (conds : List Cond)
    → is_at_end left ≡ false → conds_of cols 4 left ≡ Ok conds → conds_fit cols conds ≡ true
conds_of_fit cols left conds begun h =
    let all = conds_stored cols 4 left conds h in
    let some : leb 1 (length conds) ≡ true =
    grind (arith, nat_tests, some_read cols left conds begun h) in
    let few : leb (length conds) 4 ≡ true = grind (arith, nat_tests, all.few) in
    rw (some, few) all.stored

-- ---- selectors

key_of_fits : (kind : KeyKind) (found : Option (List ℕ)) (key : List ℕ)
    → if_fits kind found ≡ Some key → key_fits kind key ≡ true
key_of_fits kind None key h = absurd cc
key_of_fits kind (Some bytes) key h =
    elim (cases_Bool (key_fits kind bytes)) [
      | inl fits ↦
          let same : Some bytes ≡ Some key = rw fits at h in
          let it : bytes ≡ key = cc in
          subst (λ (k : List ℕ). key_fits kind k ≡ true) it fits
      | inr other ↦ absurd (let bad : (let o : Option (List ℕ) = None in o) ≡ Some key =
          rw other at h in cc)
    ]

last_key_fits : (kind : KeyKind) (left : Left) (key : List ℕ) → last_key kind left ≡ Ok key
    → key_fits kind key ≡ true
unfolding last_key
last_key_fits kind left key h =
    let text = bind_ok (read_of (word Key left)) _ key h in
    let read = bind_ok (or_refused _ (key_of kind text.0.0)) _ key text.2 in
    let over = bind_ok (read_of (end text.0.1)) _ key read.2 in
    subst (λ (k : List ℕ). key_fits kind k ≡ true) (ok_same read.0 key over.2)
    (key_of_fits kind (bytes_of kind text.0.0) read.0
    (some_of (key_of kind text.0.0) _ read.0 read.1))

one_key_fits : (shape : Shape) (left : Left) (sel : Select) → one_key shape.kind left ≡ Ok sel
    → select_fits shape sel ≡ true
unfolding one_key
one_key_fits shape left sel h =
    let label = bind_ok (read_of (keyword (codes "key") left)) _ sel h in
    let read = bind_ok (last_key shape.kind label.0.1) _ sel label.2 in
    subst (λ (s : Select). select_fits shape s ≡ true) (ok_same (One read.0) sel read.2)
    (last_key_fits shape.kind label.0.1 read.0 read.1)

-- whether something is left
begun_if : (b : Bool) → (b ≡ true → ⊥) → b ≡ false
begun_if true not_so = absurd (not_so refl)
begun_if false not_so = refl

sel_of_fits : (shape : Shape) (left : Left) (sel : Select) → sel_of shape left ≡ Ok sel
    → select_fits shape sel ≡ true
unfolding sel_of
sel_of_fits shape left sel h =
    elim (cases_Bool (is_at_end left)) [
      | inl none ↦
          let all : (let r : Reading Select = Ok All in r) ≡ Ok sel = rw none at h in
          subst (λ (s : Select). select_fits shape s ≡ true) (ok_same All sel all) refl
      | inr some ↦
          let own : cond (next_is (codes "key") left.words) (one_key shape.kind left)
          (conds_of shape.cols 4 left >>= λ conds. Ok (Conds conds)) ≡ Ok sel = rw some at h in
          either (next_is (codes "key") left.words) (one_key shape.kind left) _ sel own
          (λ is key. one_key_fits shape left sel key) (λ other.
          let read = bind_ok (conds_of shape.cols 4 left) _ sel other in
          subst (λ (s : Select). select_fits shape s ≡ true) (ok_same (Conds read.0) sel read.2)
          (conds_of_fit shape.cols left read.0 some read.1))
    ]

-- ---- tables

at_place : (tables : List Shape) (table : ℕ) (test : Shape → Bool) → table < length tables
    → at_table tables table test ≡ test (get_or tables table no_shape)
at_place [] table test h = absurd (omega arith)
at_place (shape ∷ tables) zero test h = refl
at_place (shape ∷ tables) (suc table) test h = at_place tables table test (omega arith)

place_within : {A : Type 0} (p : A → Bool) (xs : List A) (place : ℕ) → position p xs ≡ Some place
    → place < length xs
place_within p xs place h =
    elim (cases_lt (position_or_len p xs) (length xs)) [
      | inl below ↦
          let it : ltb (position_or_len p xs) (length xs) ≡ true = grind (arith, nat_tests) in
          let same : Some (position_or_len p xs) ≡ Some place = rw it at h in
          let found : position_or_len p xs ≡ place = cc in
          omega arith
      | inr past ↦
          let it : ltb (position_or_len p xs) (length xs) ≡ false = grind (arith, nat_tests) in
          absurd (let bad : (let o : Option ℕ = None in o) ≡ Some place = rw it at h in cc)
    ]

-- a name that was read names something
record NamedAt (found : List ℕ → Option ℕ) (at : ℕ) : Type 0 where
  name : List ℕ
  is : found name ≡ Some at

named_is : (found : List ℕ → Option ℕ) (left : Left) (at : ℕ × Left)
    → named found left ≡ Ok at → NamedAt found at.0
unfolding named
named_is found left at h =
    let name = bind_ok (read_of (word Name left)) _ at h in
    let read = bind_ok (or_refused _ (found name.0.0)) _ at name.2 in
    subst (λ (a : ℕ × Left). NamedAt found a.0) (ok_same _ at read.2)
    (record { name = name.0.0; is = some_of (found name.0.0) _ read.0 read.1 })

last_is : (found : List ℕ → Option ℕ) (left : Left) (at : ℕ) → last_named found left ≡ Ok at
    → NamedAt found at
unfolding last_named
last_is found left at h =
    let read = bind_ok (named found left) _ at h in
    let over = bind_ok (read_of (end read.0.1)) _ at read.2 in
    subst (λ (a : ℕ). NamedAt found a) (ok_same read.0.0 at over.2)
    (named_is found left read.0 read.1)

table_within : (state : State) (table : ℕ) → NamedAt (table_at state) table
    → table < length state.config.tables
table_within state table found =
    place_within (λ shape. bytes_eq shape.name found.name) state.config.tables table found.is

filter_within : (state : State) (at : ℕ) → NamedAt (filter_at state) at
    → at < length state.config.filters
filter_within state at found =
    place_within (λ filter. bytes_eq filter.name found.name) state.config.filters at found.is

rank_within : (state : State) (at : ℕ) → NamedAt (rank_at state) at
    → at < length state.config.ranks
rank_within state at found =
    place_within (λ rank. bytes_eq rank.name found.name) state.config.ranks at found.is

-- a table and a selector that fits it
record Picks (state : State) (found : ℕ × Select) : Type 0 where
  within : found.0 < length state.config.tables
  fits : at_table state.config.tables found.0 (λ shape. select_fits shape found.1) ≡ true

table_and_sel_picks : (state : State) (left : Left) (found : ℕ × Select)
    → table_and_sel state left ≡ Ok found → Picks state found
unfolding table_and_sel
table_and_sel_picks state left found h =
    let table = bind_ok (named (table_at state) left) _ found h in
    let sel = bind_ok (sel_of (shape_of state table.0.0) table.0.1) _ found table.2 in
    let within = table_within state table.0.0
    (named_is (table_at state) left table.0 table.1) in
    subst (Picks state) (ok_same (table.0.0, sel.0) found sel.2) (record {
      within = within;
      fits = at_place state.config.tables table.0.0 (λ shape. select_fits shape sel.0) within
          ∙ sel_of_fits (shape_of state table.0.0) table.0.1 sel.0 sel.1;
    })

some_conds_fit : (cols : List (Col × ℕ)) (left : Left) (conds : List Cond)
    → some_conds cols left ≡ Ok conds → conds_fit cols conds ≡ true
unfolding some_conds
some_conds_fit cols left conds h =
    elim (cases_Bool (is_at_end left)) [
      | inl none ↦ absurd (let bad : (let r : Reading (List Cond) = Err _ in r) ≡ Ok conds =
          rw none at h in cc)
      | inr some ↦
          let own : conds_of cols 4 left ≡ Ok conds = rw some at h in
          conds_of_fit cols left conds some own
    ]

name_is : (state : State) (number : ℕ) (name : List ℕ) → new_name state number name ≡ Ok tt
    → is_name name ≡ true
name_is state number name h = by (is_name name) refl
  where
    by : (b : Bool) → is_name name ≡ b → is_name name ≡ true
    by true is = is
    by false other = absurd (let bad : (let r : Reading (Unit {0}) = Err _ in r) ≡ Ok tt =
        rw other at h in cc)

-- a filter that may be added fits its table
filter_on_fits : (state : State) (name : List ℕ) (left : Left) (filter : Filter)
    → is_name name ≡ true → filter_on state name left ≡ Ok filter
    → filter_fits state.config.tables filter ≡ true
unfolding filter_on
filter_on_fits state name left filter is h =
    let made = λ (table : ℕ) (conds : List Cond). (let f : Filter =
    record { name = name; table = table; conds = conds } in f) in
    let table = bind_ok (named (table_at state) left) _ filter h in
    let conds = bind_ok (some_conds (shape_of state table.0.0).cols table.0.1) _ filter table.2 in
    let there = at_place state.config.tables table.0.0 (λ shape. conds_fit shape.cols conds.0)
    (table_within state table.0.0 (named_is (table_at state) left table.0 table.1))
    ∙ some_conds_fit (shape_of state table.0.0).cols table.0.1 conds.0 conds.1 in
    subst (λ (f : Filter). filter_fits state.config.tables f ≡ true)
    (ok_same (made table.0.0 conds.0) filter conds.2) (rw is there)

-- ---- questions

table_shown_good : (state : State) (left : Left) (question : Question)
    → table_shown state left ≡ Ok question → AskedExists state question
unfolding table_shown
table_shown_good state left question h =
    either (is_at_end left) (Ok Tables) _ question h
    (λ none same. subst (AskedExists state) (ok_same Tables question same) tt) (λ more.
    let read = bind_ok (table_and_sel state left) _ question more in
    let picks = table_and_sel_picks state left read.0 read.1 in
    subst (AskedExists state) (ok_same (Table read.0.0 read.0.1) question read.2) picks.within)

-- what is read of a name that ends its line
last_good : (state : State) (found : List ℕ → Option ℕ) (left : Left) (make : ℕ → Question)
    (question : Question) → ((at : ℕ) → NamedAt found at → AskedExists state (make at))
    → (last_named found left >>= λ at. Ok (make at)) ≡ Ok question → AskedExists state question
last_good state found left make question good h =
    let read = bind_ok (last_named found left) _ question h in
    subst (AskedExists state) (ok_same (make read.0) question read.2)
    (good read.0 (last_is found left read.0 read.1))

key_shown_good : (state : State) (left : Left) (question : Question)
    → key_shown state left ≡ Ok question → AskedExists state question
unfolding key_shown
key_shown_good state left question h =
    let table = bind_ok (named (table_at state) left) _ question h in
    let key = bind_ok (last_key (shape_of state table.0.0).kind table.0.1) _ question table.2 in
    subst (AskedExists state) (ok_same (OneKey table.0.0 key.0) question key.2)
    (table_within state table.0.0 (named_is (table_at state) left table.0 table.1))

shown_by_good : (state : State) (number : ℕ) (kind : List ℕ) (left : Left) (question : Question)
    → shown_by state number kind left ≡ Ok question → AskedExists state question
shown_by_good state number kind left question h =
    either (bytes_eq kind (codes "table")) (table_shown state left) _ question h
    (λ is. table_shown_good state left question) (λ h.
    either (bytes_eq kind (codes "filter"))
    (last_named (filter_at state) left >>= λ at. Ok (FilterKeys at)) _ question h
    (λ is. last_good state (filter_at state) left FilterKeys question (filter_within state)) (λ h.
    either (bytes_eq kind (codes "rank"))
    (last_named (rank_at state) left >>= λ at. Ok (Ranking at)) _ question h
    (λ is. last_good state (rank_at state) left Ranking question (rank_within state)) (λ h.
    either (bytes_eq kind (codes "next"))
    (last_named (filter_at state) left >>= λ at. Ok (NextChange at)) _ question h
    (λ is. last_good state (filter_at state) left NextChange question (filter_within state)) (λ h.
    either (bytes_eq kind (codes "key")) (key_shown state left) _ question h
    (λ is. key_shown_good state left question) (none_read _ question)))))

shown_good : (state : State) (left : Left) (question : Question)
    → shown state left ≡ Ok question → AskedExists state question
unfolding shown
shown_good state left question h =
    let kind = bind_ok (read_of (word Keyword left)) _ question h in
    shown_by_good state left.number kind.0.0 kind.0.1 question kind.2

-- ---- changes

-- a change names what stands, and fits
pub record IsGoodChange (state : State) (change : Change) : Type 0 where
  pub stands : ChangedExists state change
  pub fits : fits state.config (event_of change) ≡ true

dropped_good : (state : State) (left : Left) (change : Change)
    → dropped state left ≡ Ok change → IsGoodChange state change
unfolding dropped
dropped_good state left change h =
    let kind = bind_ok (read_of (keyword (codes "filter") left)) _ change h in
    let name = bind_ok (read_of (word Name kind.0.1)) _ change kind.2 in
    let is = bind_ok (added_named state kind.0.1.number name.0.0) _ change name.2 in
    let over = bind_ok (read_of (end name.0.1)) _ change is.2 in
    subst (IsGoodChange state) (ok_same (DropFilter name.0.0) change over.2)
    (record { stands = tt; fits = refl })

cleared_good : (state : State) (left : Left) (change : Change)
    → cleared state left ≡ Ok change → IsGoodChange state change
unfolding cleared
cleared_good state left change h =
    let kind = bind_ok (read_of (keyword (codes "table") left)) _ change h in
    let read = bind_ok (table_and_sel state kind.0.1) _ change kind.2 in
    let picks = table_and_sel_picks state kind.0.1 read.0 read.1 in
    subst (IsGoodChange state) (ok_same (Clear read.0.0 read.0.1) change read.2) (record {
      stands = picks.within;
      fits = picks.fits;
    })

added_good : (state : State) (left : Left) (change : Change)
    → added state left ≡ Ok change → IsGoodChange state change
unfolding added
added_good state left change h =
    let kind = bind_ok (read_of (keyword (codes "filter") left)) _ change h in
    let name = bind_ok (read_of (word Name kind.0.1)) _ change kind.2 in
    let new = bind_ok (new_name state kind.0.1.number name.0.0) _ change name.2 in
    let read = bind_ok (filter_on state name.0.0 name.0.1) _ change new.2 in
    subst (IsGoodChange state) (ok_same (AddFilter read.0) change read.2) (record {
      stands = tt;
      fits = filter_on_fits state name.0.0 name.0.1 read.0
          (name_is state kind.0.1.number name.0.0 new.1) read.1;
    })

-- ---- commands

-- a command names what stands, and what it changes fits
pub record IsGood (state : State) (command : Command) : Type 0 where
  pub stands : NamesExist state command
  pub fits : ChangeFits state command

asking_good : (state : State) (read : Reading Question) (command : Command)
    → ((question : Question) → read ≡ Ok question → AskedExists state question)
    → (read >>= λ question. Ok (Ask question)) ≡ Ok command → IsGood state command
asking_good state read command good h =
    let asks = bind_ok read (λ question. Ok (Ask question)) command h in
    subst (IsGood state) (ok_same (Ask asks.0) command asks.2) (record {
      stands = good asks.0 asks.1;
      fits = tt;
    })

changing_good : (state : State) (read : Reading Change) (command : Command)
    → ((change : Change) → read ≡ Ok change → IsGoodChange state change)
    → (read >>= λ change. Ok (Changes change)) ≡ Ok command → IsGood state command
changing_good state read command good h =
    let asks = bind_ok read (λ change. Ok (Changes change)) command h in
    let found = good asks.0 asks.1 in
    subst (IsGood state) (ok_same (Changes asks.0) command asks.2) (record {
      stands = found.stands;
      fits = found.fits;
    })

command_by_good : (state : State) (number : ℕ) (kind : List ℕ) (left : Left) (command : Command)
    → command_by state number kind left ≡ Ok command → IsGood state command
command_by_good state number kind left command h =
    either (bytes_eq kind (codes "show")) (shown state left >>= λ question. Ok (Ask question)) _
    command h (λ is. asking_good state (shown state left) command (shown_good state left)) (λ h.
    either (bytes_eq kind (codes "clear")) (cleared state left >>= λ change. Ok (Changes change)) _
    command h (λ is. changing_good state (cleared state left) command (cleared_good state left))
    (λ h.
    either (bytes_eq kind (codes "add")) (added state left >>= λ change. Ok (Changes change)) _
    command h (λ is. changing_good state (added state left) command (added_good state left)) (λ h.
    either (bytes_eq kind (codes "del")) (dropped state left >>= λ change. Ok (Changes change)) _
    command h (λ is. changing_good state (dropped state left) command (dropped_good state left))
    (none_read _ command))))

command_in_good : (state : State) (left : Left) (command : Command)
    → command_in state left ≡ Ok command → IsGood state command
unfolding command_in
command_in_good state left command h =
    either (is_at_end left) (Err _) _ command h (λ none. none_read _ command) (λ some.
    let kind = bind_ok (read_of (word Keyword left)) _ command some in
    command_by_good state left.number kind.0.0 kind.0.1 command kind.2)

-- what a line says names what stands, and what it changes fits
command_good : (state : State) (line : List ℕ) (command : Command)
    → reading_of state line ≡ Ok command → IsGood state command
command_good state line command h =
    either (ltb LONGEST_COMMAND_LINE (length (without_returns line))) (Err _)
    (command_in state (left_of (without_returns line))) command h (λ long. none_read _ command)
    (command_in_good state (left_of (without_returns line)) command)

pub told_good : (state : State) (line : List ℕ) (told : Reading Command)
    → Says (reading_of state line) told → IfOk told (IsGood state)
told_good state line (Ok command) tells = command_good state line command tells
told_good state line (Err refused) tells = tt
