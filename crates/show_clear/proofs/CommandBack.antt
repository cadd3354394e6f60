-- A command that is written out is read as that command.
use Rattle.std.proofs.Common.{◌≡◌, ℕ, zero, suc, ◌+◌, ◌<◌, ◌≤◌, Bool, true, false, eqb, leb, codes}
use Rattle.std.proofs.Common.{ltb, ◌&&◌, ◌||◌, not, List, [], ◌∷◌, ◌++◌, length, Option, None, Some}
use Rattle.std.proofs.Common.{Ok, refl, subst, ◌∙◌, arith}
use Rattle.std.specs.Prelude.{slice_get, slice_index_or}
use Rattle.std.specs.Option.{option_map_or}
use Rattle.std.proofs.lemmas.Bool.{leb-true, ltb-true, ne_eqb}
use Rattle.std.proofs.lemmas.Slice.Eq.{bytes_eq-Decides}
use Rattle.std.specs.List.{flat_map, list_all, list_any}
use Rattle.std.specs.Str.{bytes_eq}
use Rattle.agg_types.specs.Check.{config_faults, each, len_fits, table_faults}
use Rattle.agg_types.specs.Fits.{at_table, conds_fit, filter_fits, select_fits, stores}
use Rattle.agg_types.specs.Name.{is_name}
use Rattle.agg_types.specs.declared.column.Col.{Col}
use Rattle.agg_types.specs.declared.config.Cond.{Cond}
use Rattle.agg_types.specs.declared.config.Filter.{Filter}
use Rattle.agg_types.specs.declared.config.Shape.{Shape}
use Rattle.agg_types.specs.declared.event.Select.{Select}
use Rattle.agg_types.specs.declared.event.Select.TheVariants.{All, One, Conds}
use Rattle.agg_types.specs.declared.limits.TheConstants.{LONGEST_COMMAND_LINE}
use Rattle.agg_types.specs.declared.limits.TheConstants.{MOST_CONDS, MOST_FILTERS}
use Rattle.fleet_model.specs.Answers.{filter_of, no_filter}
use Rattle.fleet_model.specs.Filters.{is_added}
use Rattle.fleet_model.specs.Ranking.{no_rank, rank_of}
use Rattle.fleet_model.specs.State.{State}
use Rattle.key_text.specs.Printed.{key_text}
use Rattle.key_text.specs.Read.{key_of}
use Rattle.line_words.specs.Operators.{operator_word}
use Rattle.line_words.specs.Reader.{Left}
use Rattle.agg_types.specs.Col.{col_name}
use Rattle.std.specs.Fmt.{decimal}
use Rattle.line_words.proofs.Checked.{both_none, faultless, filter_stands, rank_stands}
use Rattle.line_words.proofs.Checked.{table_fits, table_stands}
use Rattle.line_words.proofs.NamesBack.{data_back, operator_back}
use Rattle.line_words.proofs.WordsBack.{both, is_word, name_is_word, number_back}
use Rattle.answer_text.specs.Tables.{no_shape, shape_of}
use Rattle.show_clear.specs.Parse.{added as adds, asked, cleared as clears, command_by, command_in}
use Rattle.show_clear.specs.Parse.{command_of, cond_of, conds_of, dropped as drops, filter_at}
use Rattle.show_clear.specs.Parse.{filter_on, key_shown, last_key, last_named}
use Rattle.show_clear.specs.Parse.{named, one_key, rank_at, sel_of, shown as shows}
use Rattle.show_clear.specs.Parse.{some_conds, stored_column, table_and_sel, table_at, table_shown}
use Rattle.show_clear.specs.Refused.{fault_alone}
use Rattle.show_clear.specs.Written.{can_add, can_ask, can_pick, can_select, command_line}
use Rattle.line_words.specs.Conditions.{condition_words, have_bounds}
use Rattle.show_clear.specs.Written.{command_words, selector_words}
use Rattle.show_clear.specs.Written.{table_words}
use Rattle.show_clear.specs.declared.command.Change.TheVariants.{Clear, AddFilter, DropFilter}
use Rattle.show_clear.specs.declared.command.Command.{Command}
use Rattle.show_clear.specs.declared.command.Command.TheVariants.{Ask, Change as Changes}
use Rattle.show_clear.specs.declared.command.Question.TheVariants.{Tables, Table, FilterKeys}
use Rattle.show_clear.specs.declared.command.Question.TheVariants.{Ranking, NextChange, OneKey}
use Rattle.line_words.proofs.ConditionsBack.{bound_fits, conditions_are_words}
use Rattle.show_clear.proofs.CommandWords.{conditions_cost, cost}
use Rattle.show_clear.proofs.CommandWords.{key_back, key_is_word, key_short, line_asks, name_short}

-- ---- conditions

-- words that are left, the first of which has this number
abbrev pub ahead : ℕ → List (List ℕ) → Left
ahead number texts = record { number = number; words = texts }

begun : (first : List ℕ) (more : List (List ℕ)) → eqb (length (first ∷ more)) 0 ≡ false
begun first more = ne_eqb _ 0 (λ z. omega (arith, z))

conditions_back : (cols : List (Col × ℕ)) (most number : ℕ) (conds : List Cond)
    → length conds ≤ most → list_all (λ cond. stores cols cond.col) conds ≡ true
    → have_bounds conds ≡ true
    → conds_of cols most (ahead number (flat_map condition_words conds)) ≡ Ok conds
unfolding conds_of cond_of stored_column
conditions_back cols zero number [] few stored all = refl
conditions_back cols zero number (cond ∷ conds) few stored all = absurd (omega (arith, few))
conditions_back cols (suc most) number [] few stored all = refl
conditions_back cols (suc most) number (cond ∷ conds) few stored all =
    let h = bound_fits cond conds all in
    let s = both (stores cols cond.col) (list_all (λ cond. stores cols cond.col) conds) stored in
    rw (
      begun (codes "data." ++ col_name cond.col) (operator_word cond.op
          ∷ decimal cond.bound ∷ flat_map condition_words conds),
      data_back number cond.col,
      s.0,
      operator_back cond.op,
      number_back cond.bound h.0,
      conditions_back cols most (number + 1 + 1 + 1) conds (omega (arith, few)) s.1 h.1,
    ) refl

-- what conditions of a table have
record CondsFit (cols : List (Col × ℕ)) (conds : List Cond) : Type 0 where
  pub some : 1 ≤ length conds
  pub few : length conds ≤ MOST_CONDS
  pub stored : list_all (λ cond. stores cols cond.col) conds ≡ true

conds_of_table : (cols : List (Col × ℕ)) (conds : List Cond) → conds_fit cols conds ≡ true
    → CondsFit cols conds
conds_of_table cols conds fit =
    let h = both (leb 1 (length conds) && leb (length conds) MOST_CONDS)
    (list_all (λ cond. stores cols cond.col) conds) fit in
    let n = both (leb 1 (length conds)) (leb (length conds) MOST_CONDS) h.0 in
    record {
      some = leb-true 1 (length conds) n.0;
      few = leb-true (length conds) MOST_CONDS n.1;
      stored = h.1;
    }

-- ---- selectors

-- a selector's words
record Selects (shape : Shape) (sel : Select) : Type 0 where
  pub back : (number : ℕ) → sel_of shape (ahead number (selector_words shape.kind sel)) ≡ Ok sel
  pub are_words : list_all is_word (selector_words shape.kind sel) ≡ true
  pub short : cost (selector_words shape.kind sel) ≤ 1000

conds_select : (shape : Shape) (number : ℕ) (conds : List Cond) → CondsFit shape.cols conds
    → have_bounds conds ≡ true
    → sel_of shape (ahead number (flat_map condition_words conds)) ≡ Ok (Conds conds)
unfolding sel_of
conds_select shape number [] fit all = absurd (let some = fit.some in omega (arith, some))
conds_select shape number (cond ∷ conds) fit all =
    rw (
      begun (codes "data." ++ col_name cond.col) (operator_word cond.op
          ∷ decimal cond.bound ∷ flat_map condition_words conds),
      conditions_back shape.cols MOST_CONDS number (cond ∷ conds) fit.few fit.stored all,
    ) refl

key_select : (shape : Shape) (number : ℕ) (key : List ℕ)
    → key_of shape.kind (key_text shape.kind key) ≡ Some key
    → sel_of shape (ahead number (codes "key" ∷ key_text shape.kind key ∷ [])) ≡ Ok (One key)
unfolding sel_of one_key last_key
key_select shape number key back = rw back refl

none_select : (shape : Shape) (number : ℕ) → sel_of shape (ahead number []) ≡ Ok All
unfolding sel_of
none_select shape number = refl

selects : (shape : Shape) (sel : Select) → len_fits shape.kind ≡ true
    → select_fits shape sel ≡ true → can_select sel ≡ true → Selects shape sel
selects shape All len fits can =
    record { back = none_select shape; are_words = refl; short = omega arith }
selects shape (One key) len fits can = record {
  back = λ number. key_select shape number key (key_back shape.kind key fits can);
  are_words = rw (key_is_word shape.kind key fits can) refl;
  short = omega (arith, key_short shape.kind key len fits);
}
selects shape (Conds conds) len fits can =
    let fit = conds_of_table shape.cols conds fits in
    let few = fit.few in
    record {
      back = λ number. conds_select shape number conds fit can;
      are_words = conditions_are_words conds can;
      short = omega (arith, conditions_cost conds, few);
    }

-- ---- what stands at a position

get_is : {A : Type 0} (xs : List A) (i : ℕ) (other x : A) → slice_get xs i ≡ Some x
    → slice_index_or xs i other ≡ x
get_is [] i other x is = absurd cc
get_is (first ∷ xs) zero other x is = cc
get_is (first ∷ xs) (suc i) other x is = get_is xs i other x is

is_there : {A : Type 0} (xs : List A) (i : ℕ) (other : A) → i < length xs
    → slice_get xs i ≡ Some (slice_index_or xs i other)
is_there [] i other within = absurd (omega (arith, within))
is_there (x ∷ xs) zero other within = refl
is_there (x ∷ xs) (suc i) other within = is_there xs i other (omega (arith, within))

-- a table that passes a test
record Passing (tables : List Shape) (table : ℕ) (test : Shape → Bool) : Type 0 where
  pub shape : Shape
  pub at : slice_get tables table ≡ Some shape
  pub passes : test shape ≡ true

passing : (tables : List Shape) (table : ℕ) (test : Shape → Bool)
    → at_table tables table test ≡ true → Passing tables table test
passing tables table test passes = by (slice_get tables table) refl passes
  where
    by : (found : Option Shape) → slice_get tables table ≡ found
        → option_map_or test found false ≡ true → Passing tables table test
    by None is bad = absurd cc
    by (Some shape) is fine = record { shape = shape; at = is; passes = fine }

-- ---- names

-- a table is named
record TableNamed (state : State) (table : ℕ) (test : Shape → Bool) : Type 0 where
  pub name : is_name (shape_of state table).name ≡ true
  pub back : table_at state (shape_of state table).name ≡ Some table
  pub passes : test (shape_of state table) ≡ true
  pub length : len_fits (shape_of state table).kind ≡ true

table_is_named : (state : State) (table : ℕ) (test : Shape → Bool)
    → config_faults state.config ≡ [] → at_table state.config.tables table test ≡ true
    → TableNamed state table test
table_is_named state table test none passes =
    let p = passing state.config.tables table test passes in
    let its : shape_of state table ≡ p.shape =
    get_is state.config.tables table no_shape p.shape p.at in
    let h = (faultless state.config none).tables in
    let stands = table_stands state.config.tables table p.shape h p.at in
    record {
      name = rw its stands.name;
      back = rw (its, stands.at) refl;
      passes = rw its p.passes;
      length = rw its (length_at [] state.config.tables table p.shape h p.at);
    }
  where
    length_at : (before tables : List Shape) (i : ℕ) (shape : Shape)
        → each table_faults before tables ≡ [] → slice_get tables i ≡ Some shape
        → len_fits shape.kind ≡ true
    length_at before [] i shape none is = absurd cc
    length_at before (first ∷ tables) zero shape none is =
        let same : first ≡ shape = cc in
        rw (← same) (table_fits before first
        (both_none (table_faults before first) _ none).0).length
    length_at before (first ∷ tables) (suc i) shape none is =
        length_at (before ++ first ∷ []) tables i shape
        (both_none (table_faults before first) _ none).1 is

-- the name of a standing filter is that filter's
record FilterNamed (state : State) (at : ℕ) : Type 0 where
  pub name : is_name (filter_of state at).name ≡ true
  pub back : filter_at state (filter_of state at).name ≡ Some at

filter_is_named : (state : State) (at : ℕ) → config_faults state.config ≡ []
    → ltb at (length state.config.filters) ≡ true → FilterNamed state at
filter_is_named state at none there =
    let stands = filter_stands state.config.tables state.config.filters at (filter_of state at)
    (faultless state.config none).filters (is_there state.config.filters at no_filter
    (ltb-true at (length state.config.filters) there)) in
    record { name = stands.name; back = rw stands.at refl }

-- so is that of a ranked list
record RankNamed (state : State) (at : ℕ) : Type 0 where
  pub name : is_name (rank_of state at).name ≡ true
  pub back : rank_at state (rank_of state at).name ≡ Some at

rank_is_named : (state : State) (at : ℕ) → config_faults state.config ≡ []
    → ltb at (length state.config.ranks) ≡ true → RankNamed state at
rank_is_named state at none there =
    let stands = rank_stands state.config.tables state.config.ranks at (rank_of state at)
    (faultless state.config none).ranks (is_there state.config.ranks at no_rank
    (ltb-true at (length state.config.ranks) there)) in
    record { name = stands.name; back = rw stands.at refl }

-- ---- each kind of command

-- a command's words
record Asks (state : State) (command : Command) : Type 0 where
  pub back : asked state (command_words state command) ≡ Ok command
  pub are_words : list_all is_word (command_words state command) ≡ true
  pub short : cost (command_words state command) ≤ LONGEST_COMMAND_LINE

-- the first word tells which command it is
first_asks : (state : State) (first : List ℕ) (more : List (List ℕ))
    → asked state (first ∷ more) ≡ fault_alone (command_by state 1 first (ahead 2 more))
unfolding command_in
first_asks state first more = rw (begun first more) refl

-- a table's name and a selector
record Picks (state : State) (table : ℕ) (sel : Select) : Type 0 where
  pub back : (number : ℕ) → table_and_sel state
      (ahead number (table_words (shape_of state table) sel)) ≡ Ok (table, sel)
  pub are_words : list_all is_word (table_words (shape_of state table) sel) ≡ true
  pub short : cost (table_words (shape_of state table) sel) ≤ 2000

picks : (state : State) (table : ℕ) (sel : Select) → config_faults state.config ≡ []
    → can_pick state table sel ≡ true → Picks state table sel
unfolding table_and_sel named
picks state table sel none can =
    let h = both (at_table state.config.tables table (λ shape. select_fits shape sel))
    (can_select sel) can in
    let named = table_is_named state table (λ shape. select_fits shape sel) none h.0 in
    let its = selects (shape_of state table) sel named.length named.passes h.1 in
    let words_short = its.short in
    record {
      back = λ number. rw (named.back, its.back (number + 1)) refl;
      are_words = rw (name_is_word (shape_of state table).name named.name, its.are_words) refl;
      short = omega (arith, name_short (shape_of state table).name named.name, words_short);
    }

shown : (state : State) (table : ℕ) (sel : Select) → Picks state table sel
    → Asks state (Ask (Table table sel))
unfolding shows table_shown
shown state table sel p = record {
  back = first_asks state (codes "show")
      (codes "table" ∷ table_words (shape_of state table) sel) ∙ rw (
        begun (shape_of state table).name (selector_words (shape_of state table).kind sel),
        p.back 3,
      ) refl;
  are_words = rw p.are_words refl;
  short = let short = p.short in omega (arith, short);
}

cleared : (state : State) (table : ℕ) (sel : Select) → Picks state table sel
    → Asks state (Changes (Clear table sel))
unfolding clears
cleared state table sel p = record {
  back = first_asks state (codes "clear")
      (codes "table" ∷ table_words (shape_of state table) sel) ∙ rw (p.back 3) refl;
  are_words = rw p.are_words refl;
  short = let short = p.short in omega (arith, short);
}

keys_asked : (state : State) (at : ℕ) → FilterNamed state at → Asks state (Ask (FilterKeys at))
unfolding command_in shows last_named named
keys_asked state at h = record {
  back = rw h.back refl;
  are_words = rw (name_is_word (filter_of state at).name h.name) refl;
  short = omega (arith, name_short (filter_of state at).name h.name);
}

next_asked : (state : State) (at : ℕ) → FilterNamed state at → Asks state (Ask (NextChange at))
unfolding command_in shows last_named named
next_asked state at h = record {
  back = rw h.back refl;
  are_words = rw (name_is_word (filter_of state at).name h.name) refl;
  short = omega (arith, name_short (filter_of state at).name h.name);
}

rank_asked : (state : State) (at : ℕ) → RankNamed state at → Asks state (Ask (Ranking at))
unfolding command_in shows last_named named
rank_asked state at h = record {
  back = rw h.back refl;
  are_words = rw (name_is_word (rank_of state at).name h.name) refl;
  short = omega (arith, name_short (rank_of state at).name h.name);
}

-- a table's name and a key
key_asked : (state : State) (table : ℕ) (key : List ℕ) → config_faults state.config ≡ []
    → can_pick state table (One key) ≡ true → Asks state (Ask (OneKey table key))
unfolding command_in shows key_shown named last_key
key_asked state table key none can =
    let h = both (at_table state.config.tables table (λ shape. select_fits shape (One key)))
    (can_select (One key)) can in
    let named = table_is_named state table (λ shape. select_fits shape (One key)) none h.0 in
    let shape = shape_of state table in
    record {
      back = rw (named.back, key_back shape.kind key named.passes h.1) refl;
      are_words = rw (
        name_is_word shape.name named.name,
        key_is_word shape.kind key named.passes h.1,
      ) refl;
      short = omega (
        arith,
        name_short shape.name named.name,
        key_short shape.kind key named.length named.passes,
      );
    }

-- the conditions of a filter, of which there are some
added_conds : (cols : List (Col × ℕ)) (number : ℕ) (conds : List Cond) → CondsFit cols conds
    → have_bounds conds ≡ true
    → some_conds cols (ahead number (flat_map condition_words conds)) ≡ Ok conds
unfolding some_conds
added_conds cols number [] fit all = absurd (let some = fit.some in omega (arith, some))
added_conds cols number (cond ∷ conds) fit all =
    rw (
      begun (codes "data." ++ col_name cond.col) (operator_word cond.op
          ∷ decimal cond.bound ∷ flat_map condition_words conds),
      conditions_back cols MOST_CONDS number (cond ∷ conds) fit.few fit.stored all,
    ) refl

not_so : (b : Bool) → not b ≡ true → b ≡ false
not_so true bad = absurd cc
not_so false fine = refl

filter_added : (state : State) (filter : Filter) → config_faults state.config ≡ []
    → can_ask state (Changes (AddFilter filter)) ≡ true → Asks state (Changes (AddFilter filter))
unfolding adds filter_on named
filter_added state filter none can =
    let on : Shape → Bool = λ shape. conds_fit shape.cols filter.conds in
    let two = both (filter_fits state.config.tables filter && have_bounds filter.conds)
    (can_add state filter.name) can in
    let one = both (filter_fits state.config.tables filter) (have_bounds filter.conds) two.0 in
    let fits = both (is_name filter.name) (at_table state.config.tables filter.table on) one.0 in
    let room = both (ltb (length state.config.filters) MOST_FILTERS)
    (not (list_any (λ other. bytes_eq other.name filter.name) state.config.filters)) two.1 in
    let named = table_is_named state filter.table on none fits.1 in
    let shape = shape_of state filter.table in
    let fit = conds_of_table shape.cols filter.conds named.passes in
    let few = fit.few in
    let other_names = list_any (λ other. bytes_eq other.name filter.name) state.config.filters in
    record {
      back = first_asks state (codes "add") (codes "filter" ∷ filter.name ∷ shape.name
          ∷ flat_map condition_words filter.conds) ∙ rw (
            fits.0,
            not_so other_names room.1,
            room.0,
            named.back,
            added_conds shape.cols 5 filter.conds fit one.1,
          ) refl;
      are_words = rw (
        name_is_word filter.name fits.0,
        name_is_word shape.name named.name,
        conditions_are_words filter.conds one.1,
      ) refl;
      short = omega (
        arith,
        name_short filter.name fits.0,
        name_short shape.name named.name,
        conditions_cost filter.conds,
        few,
      );
    }

-- a filter that was added under a name
record AddedFilter (filters : List Filter) (name : List ℕ) : Type 0 where
  pub at : ℕ
  pub filter : Filter
  pub there : slice_get filters at ≡ Some filter
  pub named : bytes_eq filter.name name ≡ true

some_added : (filters : List Filter) (name : List ℕ)
    → list_any (λ f. bytes_eq f.name name) filters ≡ true → AddedFilter filters name
some_added [] name any = absurd cc
some_added (filter ∷ filters) name any =
    by (bytes_eq filter.name name) refl any (some_added filters name)
  where
    by : (b : Bool) → bytes_eq filter.name name ≡ b
        → (b || list_any (λ f. bytes_eq f.name name) filters) ≡ true
        → (list_any (λ f. bytes_eq f.name name) filters ≡ true → AddedFilter filters name)
        → AddedFilter (filter ∷ filters) name
    by true e any rest = record { at = 0; filter = filter; there = refl; named = e }
    by false e any rest = let found = rest any in record {
      at = suc found.at;
      filter = found.filter;
      there = found.there;
      named = found.named;
    }

added_there : (configured : ℕ) (filters : List Filter) (name : List ℕ)
    → is_added configured filters name ≡ true → AddedFilter filters name
added_there zero filters name any = some_added filters name any
added_there (suc n) [] name any = absurd cc
added_there (suc n) (filter ∷ filters) name any =
    let found = added_there n filters name any in record {
      at = suc found.at;
      filter = found.filter;
      there = found.there;
      named = found.named;
    }

filter_gone : (state : State) (name : List ℕ) → config_faults state.config ≡ []
    → can_ask state (Changes (DropFilter name)) ≡ true → Asks state (Changes (DropFilter name))
unfolding command_in drops
filter_gone state name none can =
    let found = added_there state.configured state.config.filters name can in
    let stands = filter_stands state.config.tables state.config.filters found.at found.filter
    (faultless state.config none).filters found.there in
    let is : is_name name ≡ true = subst (λ n. is_name n ≡ true)
    ((bytes_eq-Decides found.filter.name name).0 found.named) stands.name in
    record {
      back = rw can refl;
      are_words = rw (name_is_word name is) refl;
      short = omega (arith, name_short name is);
    }

asks : (state : State) (command : Command) → config_faults state.config ≡ []
    → can_ask state command ≡ true → Asks state command
unfolding command_in shows table_shown
asks state (Ask Tables) none can = record { back = refl; are_words = refl; short = omega arith }
asks state (Ask (Table table sel)) none can = shown state table sel (picks state table sel none can)
asks state (Ask (FilterKeys at)) none can = keys_asked state at (filter_is_named state at none can)
asks state (Ask (Ranking at)) none can = rank_asked state at (rank_is_named state at none can)
asks state (Ask (NextChange at)) none can = next_asked state at (filter_is_named state at none can)
asks state (Ask (OneKey table key)) none can = key_asked state table key none can
asks state (Changes (Clear table sel)) none can =
    cleared state table sel (picks state table sel none can)
asks state (Changes (AddFilter filter)) none can = filter_added state filter none can
asks state (Changes (DropFilter name)) none can = filter_gone state name none can

pub command_back : (state : State) (command : Command) → config_faults state.config ≡ []
    → can_ask state command ≡ true
    → command_of state (command_line state command) ≡ Ok command
command_back state command none can =
    let h = asks state command none can in
    line_asks state (command_words state command) h.are_words h.short ∙ h.back
