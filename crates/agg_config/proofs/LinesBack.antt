-- What a line declares is read back from the line that is written of it.
use Rattle.std.proofs.Common.{◌&&◌}
use Rattle.std.proofs.Common.{◌≡◌, ℕ, zero, suc, ◌+◌, ◌^◌, ◌<◌, ◌≤◌, true, false, eqb, leb}
use Rattle.std.proofs.Common.{List, [], ◌∷◌, ◌++◌, length, map, Option, None, Some, Result}
use Rattle.std.proofs.Common.{Ok}
use Rattle.std.proofs.Common.{codes, refl, arith}
use Rattle.std.proofs.lemmas.Bool.{leb-true, ltb-true, ne_eqb}
use Rattle.std.specs.Fmt.{decimal}
use Rattle.std.specs.List.{flat_map, join_with_byte, list_all}
use Rattle.agg_types.specs.Check.{ascends, hold_fits, is_within, keep_fits, len_fits}
use Rattle.agg_types.specs.Check.{period_fits}
use Rattle.agg_types.specs.Col.{col_id, col_name}
use Rattle.agg_types.specs.Name.{is_name}
use Rattle.agg_types.specs.declared.column.Col.{Col}
use Rattle.agg_types.specs.declared.config.Cond.{Cond}
use Rattle.agg_types.specs.declared.config.Op.{Op}
use Rattle.agg_types.specs.declared.config.KeyKind.{KeyKind}
use Rattle.agg_types.specs.declared.config.KeyKind.TheVariants.{Integer, Ip, Ipv6, Str, Binary}
use Rattle.agg_types.specs.declared.config.Shape.{Shape}
use Rattle.agg_types.specs.declared.limits.TheConstants.{HOLD_END, LARGEST_SIZE, LONGEST_KEY}
use Rattle.agg_types.specs.declared.limits.TheConstants.{LONGEST_RANK, MOST_CONDS, MOST_ROWS, PERIOD_END}
use Rattle.agg_types.specs.declared.limits.TheConstants.{SHORTEST_HOLD}
use Rattle.line_words.specs.Operators.{operator_word}
use Rattle.line_words.specs.Words.{are_comment}
use Rattle.line_words.specs.declared.misread.Misread.{Misread}
use Rattle.agg_config.specs.Declarations.{declared, filter_line, hold, ignore_line, keep, key_kind}
use Rattle.agg_config.specs.Declarations.{line_declaration, log_line, me_line, number_behind}
use Rattle.agg_config.specs.Declarations.{peer_line}
use Rattle.agg_config.specs.Declarations.{push_line, rank_line, rows_line, shape, table_line}
use Rattle.agg_config.specs.Filters.{condition, conditions, known_bound}
use Rattle.agg_config.specs.ReadResults.{read_each}
use Rattle.line_words.specs.Conditions.{condition_words, have_bounds}
use Rattle.agg_config.specs.Written.{declaration_line, is_valid}
use Rattle.agg_config.specs.Written.{is_valid_table, keep_words, kind_words, store_words}
use Rattle.agg_config.specs.Written.{words_of}
use Rattle.agg_config.specs.declared.declarations.Declaration.{Declaration}
use Rattle.agg_config.specs.declared.declarations.Declaration.TheVariants.{Me, Peer, Table, Filter}
use Rattle.agg_config.specs.declared.declarations.Declaration.TheVariants.{Rank, Push, Rows}
use Rattle.agg_config.specs.declared.declarations.Declaration.TheVariants.{Log, Ignore}
use Rattle.agg_config.proofs.ColumnsBack.{in_order_same, periods_back, store_are_words}
use Rattle.agg_config.proofs.ColumnsBack.{stored_back}
use Rattle.line_words.proofs.ConditionsBack.{bound_fits, conditions_are_words}
use Rattle.line_words.proofs.NamesBack.{column_back, column_is_word, data_back}
use Rattle.line_words.proofs.NamesBack.{operator_back}
use Rattle.line_words.proofs.WordsBack.{both, is_word, name_is_word, number_back, number_is_word}
use Rattle.line_words.proofs.WordsBack.{words_back}

-- a line of words that declare something
declared_of : (texts : List (List ℕ)) (declaration : Declaration)
    → list_all is_word texts ≡ true → are_comment texts ≡ false
    → line_declaration (record { number = 1; words = texts }) ≡ Ok declaration
    → declared (join_with_byte 32 texts) ≡ Ok (Some declaration)
unfolding declared
declared_of texts declaration all says read = rw (words_back texts all, says, read) refl

within_most : (n most : ℕ) → is_within n most ≡ true → n ≤ most
within_most n most h = leb-true n most (both (leb 1 n) (leb n most) h).1

within_least : (n most : ℕ) → is_within n most ≡ true → 1 ≤ n
within_least n most h = leb-true 1 n (both (leb 1 n) (leb n most) h).0

-- ---- names

me_read : (name : List ℕ)
    → line_declaration (record { number = 1; words = words_of (Me name) }) ≡ Ok (Me name)
unfolding line_declaration me_line
me_read name = refl

peer_read : (name : List ℕ)
    → line_declaration (record { number = 1; words = words_of (Peer name) }) ≡ Ok (Peer name)
unfolding line_declaration peer_line
peer_read name = refl

log_read : (filter : List ℕ) → line_declaration (record {
  number = 1;
  words = words_of (Log (record { filter = filter }));
}) ≡ Ok (Log (record { filter = filter }))
unfolding line_declaration log_line
log_read filter = refl

ignore_read : (table : List ℕ) → line_declaration (record {
  number = 1;
  words = words_of (Ignore (record { table = table }));
}) ≡ Ok (Ignore (record { table = table }))
unfolding line_declaration ignore_line
ignore_read table = refl

-- ---- ranked lists

rank_read : (name table : List ℕ) (col : Col) (n : ℕ) → n < 2 ^ 64
    → line_declaration (record { number = 1; words = words_of (Rank name table col n) })
    ≡ Ok (Rank name table col n)
unfolding line_declaration rank_line
rank_read name table col n fits = rw (column_back col, number_back n fits) refl

rank_words : (name table : List ℕ) (col : Col) (n : ℕ) → is_name name ≡ true
    → is_name table ≡ true → n < 2 ^ 64
    → list_all is_word (words_of (Rank name table col n)) ≡ true
rank_words name table col n is_one is_its fits =
    rw (
      name_is_word name is_one,
      name_is_word table is_its,
      column_is_word col,
      number_is_word n fits,
    ) refl

-- ---- pushes

hold_below : (hold : ℕ) → hold_fits (Some hold) ≡ true → hold < 2 ^ 64
hold_below hold fits =
    let last = ltb-true hold HOLD_END (both (leb SHORTEST_HOLD hold) _ fits).1 in
    omega (arith, last)

push_read : (name : List ℕ) (ms : Option ℕ) → hold_fits ms ≡ true
    → line_declaration (record {
      number = 1;
      words = words_of (Push (record { name = name; hold = ms }));
    }) ≡ Ok (Push (record { name = name; hold = ms }))
unfolding line_declaration push_line hold number_behind
push_read name None fits = refl
push_read name (Some ms) fits = rw (number_back ms (hold_below ms fits)) refl

push_words : (name : List ℕ) (ms : Option ℕ) → is_name name ≡ true → hold_fits ms ≡ true
    → list_all is_word (words_of (Push (record { name = name; hold = ms }))) ≡ true
push_words name None is fits = rw (name_is_word name is) refl
push_words name (Some ms) is fits =
    rw (name_is_word name is, number_is_word ms (hold_below ms fits)) refl

-- ---- the bound on all rows

rows_read : (n : ℕ) → n < 2 ^ 64
    → line_declaration (record { number = 1; words = words_of (Rows n) }) ≡ Ok (Rows n)
unfolding line_declaration rows_line
rows_read n fits = rw (number_back n fits) refl

rows_below : (n : ℕ) → is_within n MOST_ROWS ≡ true → n < 2 ^ 64
rows_below n fits = omega (arith, within_most n MOST_ROWS fits)

-- ---- filters

-- a condition as it is read
abbrev as_read : Cond → Col × Op × Result ℕ Misread
as_read cond = (cond.col, cond.op, Ok cond.bound)

some_words : (first : List ℕ) (more : List (List ℕ)) → eqb (length (first ∷ more)) 0 ≡ false
some_words first more = ne_eqb _ 0 (λ z. omega (arith, z))

conditions_back : (most number : ℕ) (conds : List Cond) → length conds ≤ most
    → have_bounds conds ≡ true
    → conditions most (record { number = number; words = flat_map condition_words conds })
    ≡ Ok (map as_read conds)
unfolding conditions condition
conditions_back zero number [] few all = refl
conditions_back zero number (cond ∷ conds) few all = absurd (omega (arith, few))
conditions_back (suc most) number [] few all = refl
conditions_back (suc most) number (cond ∷ conds) few all =
    let h = bound_fits cond conds all in
    rw (
      some_words (codes "data." ++ col_name cond.col) (operator_word cond.op
          ∷ decimal cond.bound ∷ flat_map condition_words conds),
      data_back number cond.col,
      operator_back cond.op,
      number_back cond.bound h.0,
      conditions_back most (number + 1 + 1 + 1) conds (omega (arith, few)) h.1,
    ) refl

bounds_back : (conds : List Cond) → read_each known_bound (map as_read conds) ≡ Ok conds
bounds_back [] = refl
bounds_back (cond ∷ conds) = rw (bounds_back conds) refl

some_conditions : (conds : List Cond) → 1 ≤ length conds
    → eqb (length (map as_read conds)) 0 ≡ false
some_conditions [] some = absurd (omega (arith, some))
some_conditions (cond ∷ conds) some = ne_eqb _ 0 (λ z. omega (arith, z))

filter_read : (name table : List ℕ) (conds : List Cond) → 1 ≤ length conds → length conds ≤ 4
    → have_bounds conds ≡ true
    → line_declaration (record { number = 1; words = words_of (Filter name table conds) })
    ≡ Ok (Filter name table conds)
unfolding line_declaration filter_line
filter_read name table conds some few all =
    rw (conditions_back 4 4 conds few all, some_conditions conds some, bounds_back conds) refl

filter_words : (name table : List ℕ) (conds : List Cond) → is_name name ≡ true
    → is_name table ≡ true → have_bounds conds ≡ true
    → list_all is_word (words_of (Filter name table conds)) ≡ true
filter_words name table conds is_one is_its all =
    rw (name_is_word name is_one, name_is_word table is_its, conditions_are_words conds all) refl

-- ---- tables

length_fits : (n : ℕ) → is_within n LONGEST_KEY ≡ true → n < 2 ^ 64
length_fits n h = omega (arith, within_most n LONGEST_KEY h)

keep_below : (ms : ℕ) → keep_fits (Some ms) ≡ true → ms < 2 ^ 64
keep_below ms fits =
    let last = ltb-true ms PERIOD_END (both (leb 1 ms) _ fits).1 in
    omega (arith, last)

-- the number of the word behind a kind of keys that stands here
abbrev behind_kind : ℕ → KeyKind → ℕ
behind_kind number Integer = number + 1
behind_kind number Ip = number + 1
behind_kind number Ipv6 = number + 1
behind_kind number (Str n) = number + 1 + 1 + 1
behind_kind number (Binary n) = number + 1 + 1 + 1

kind_back : (number : ℕ) (kind : KeyKind) (rest : List (List ℕ)) → len_fits kind ≡ true
    → key_kind (record { number = number; words = kind_words kind ++ rest })
    ≡ Ok (Ok kind, record { number = behind_kind number kind; words = rest })
unfolding key_kind number_behind
kind_back number Integer rest fits = refl
kind_back number Ip rest fits = refl
kind_back number Ipv6 rest fits = refl
kind_back number (Str n) rest fits = rw (number_back n (length_fits n fits)) refl
kind_back number (Binary n) rest fits = rw (number_back n (length_fits n fits)) refl

kind_are_words : (kind : KeyKind) (rest : List (List ℕ)) → len_fits kind ≡ true
    → list_all is_word rest ≡ true → list_all is_word (kind_words kind ++ rest) ≡ true
kind_are_words Integer rest fits all = all
kind_are_words Ip rest fits all = all
kind_are_words Ipv6 rest fits all = all
kind_are_words (Str n) rest fits all = rw (number_is_word n (length_fits n fits)) all
kind_are_words (Binary n) rest fits all = rw (number_is_word n (length_fits n fits)) all

-- the number of the word behind a longest life that stands here
abbrev behind_keep : ℕ → Option ℕ → ℕ
behind_keep number None = number
behind_keep number (Some ms) = number + 1 + 1

keep_back : (number : ℕ) (ms : Option ℕ) (cols : List (Col × ℕ)) → keep_fits ms ≡ true
    → keep (record { number = number; words = keep_words ms ++ store_words cols })
    ≡ Ok (Ok ms, record { number = behind_keep number ms; words = store_words cols })
unfolding keep number_behind
keep_back number None [] fits = refl
keep_back number None (col ∷ cols) fits = refl
keep_back number (Some ms) cols fits = rw (number_back ms (keep_below ms fits)) refl

keep_are_words : (ms : Option ℕ) (rest : List (List ℕ)) → keep_fits ms ≡ true
    → list_all is_word rest ≡ true → list_all is_word (keep_words ms ++ rest) ≡ true
keep_are_words None rest fits all = all
keep_are_words (Some ms) rest fits all = rw (number_is_word ms (keep_below ms fits)) all

-- what a valid table has
record ValidTable (table : Shape) : Type 0 where
  pub name : is_name table.name ≡ true
  pub length : len_fits table.kind ≡ true
  pub size : table.size < 2 ^ 64
  pub keep : keep_fits table.keep ≡ true
  pub periods : list_all period_fits table.cols ≡ true
  pub ascend : ascends (map (λ col. col_id col.0) table.cols) ≡ true

valid_table : (table : Shape) → is_valid_table table ≡ true → ValidTable table
valid_table table valid =
    let five = both _ _ valid in
    let four = both _ _ five.0 in
    let three = both _ _ four.0 in
    let two = both _ _ three.0 in
    let one = both _ _ two.0 in
    record {
      name = one.0;
      length = one.1;
      size = omega (arith, within_most table.size LARGEST_SIZE two.1);
      keep = three.1;
      periods = four.1;
      ascend = five.1;
    }

table_read : (table : Shape) → ValidTable table
    → line_declaration (record { number = 1; words = words_of (Table table) }) ≡ Ok (Table table)
unfolding line_declaration table_line shape
table_read table h =
    let size = behind_kind 4 table.kind + 1 in
    let rest = keep_words table.keep ++ store_words table.cols in
    rw (
      kind_back 4 table.kind (codes "size" ∷ decimal table.size ∷ rest) h.length,
      number_back table.size h.size,
      keep_back (size + 1) table.keep table.cols h.keep,
      stored_back (behind_keep (size + 1) table.keep) table.cols h.periods,
      periods_back table.cols,
      in_order_same table.cols h.ascend,
    ) refl

table_words : (table : Shape) → ValidTable table
    → list_all is_word (words_of (Table table)) ≡ true
table_words table h =
    let cols = store_are_words table.cols h.periods in
    let keep = keep_are_words table.keep (store_words table.cols) h.keep cols in
    let size : list_all is_word (codes "size" ∷ decimal table.size ∷ (keep_words table.keep
    ++ store_words table.cols)) ≡ true = rw (number_is_word table.size h.size) keep in
    rw (name_is_word table.name h.name) (kind_are_words table.kind _ h.length size)

-- ---- each kind

pub line_words : (declaration : Declaration) → is_valid declaration ≡ true
    → list_all is_word (words_of declaration) ≡ true
line_words (Me name) valid = rw (name_is_word name valid) refl
line_words (Peer name) valid = rw (name_is_word name valid) refl
line_words (Table table) valid =
    let h = valid_table table valid in
    table_words table h
line_words (Filter name table conds) valid =
    let three = both _ _ valid in
    let two = both _ _ three.0 in
    let one = both _ _ two.0 in
    filter_words name table conds one.0 one.1 three.1
line_words (Rank name table col n) valid =
    let two = both (is_name name && is_name table) (is_within n LONGEST_RANK) valid in
    let one = both (is_name name) (is_name table) two.0 in
    rank_words name table col n one.0 one.1 (omega (arith, within_most n LONGEST_RANK two.1))
line_words (Push push) valid =
    let two = both (is_name push.name) (hold_fits push.hold) valid in
    push_words push.name push.hold two.0 two.1
line_words (Rows n) valid = rw (number_is_word n (rows_below n valid)) refl
line_words (Log logged) valid = rw (name_is_word logged.filter valid) refl
line_words (Ignore ignored) valid = rw (name_is_word ignored.table valid) refl

line_read : (declaration : Declaration) → is_valid declaration ≡ true
    → line_declaration (record { number = 1; words = words_of declaration }) ≡ Ok declaration
line_read (Me name) valid = me_read name
line_read (Peer name) valid = peer_read name
line_read (Table table) valid =
    let h = valid_table table valid in
    table_read table h
line_read (Filter name table conds) valid =
    let three = both _ _ valid in
    let two = both _ _ three.0 in
    filter_read name table conds (within_least (length conds) MOST_CONDS two.1)
    (within_most (length conds) MOST_CONDS two.1) three.1
line_read (Rank name table col n) valid =
    let two = both (is_name name && is_name table) (is_within n LONGEST_RANK) valid in
    rank_read name table col n (omega (arith, within_most n LONGEST_RANK two.1))
line_read (Push push) valid =
    let two = both (is_name push.name) (hold_fits push.hold) valid in
    push_read push.name push.hold two.1
line_read (Rows n) valid = rows_read n (rows_below n valid)
line_read (Log logged) valid = log_read logged.filter
line_read (Ignore ignored) valid = ignore_read ignored.table

says_something : (declaration : Declaration) → are_comment (words_of declaration) ≡ false
says_something (Me name) = refl
says_something (Peer name) = refl
says_something (Table table) = refl
says_something (Filter name table conds) = refl
says_something (Rank name table col n) = refl
says_something (Push push) = refl
says_something (Rows n) = refl
says_something (Log logged) = refl
says_something (Ignore ignored) = refl

pub line_back : (declaration : Declaration) → is_valid declaration ≡ true
    → declared (declaration_line declaration) ≡ Ok (Some declaration)
line_back declaration valid =
    declared_of (words_of declaration) declaration (line_words declaration valid)
    (says_something declaration) (line_read declaration valid)
