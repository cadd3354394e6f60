-- What a turn leaves of a pushed table, against its set.
use Rattle.std.proofs.Common.{◌≡◌, ◌⊎◌, ℕ, zero, suc, ◌+◌, ◌<◌, Bool, true, false, cond, ◌&&◌, ◌||◌}
use Rattle.std.proofs.Common.{List, [], ◌∷◌, ◌++◌, map, Option, None}
use Rattle.std.proofs.Common.{Some, refl, sym, ap, subst, ◌∙◌}
use Rattle.std.proofs.Common.{IfSome, inl, inr, arith}
use Rattle.std.specs.Prelude.{filter, if◌then◌else◌, option_to_list, slice_get}
use Rattle.std.specs.Prelude.{slice_index_or}
use Rattle.std.specs.Option.{option_map, option_map_or}
use Rattle.std.specs.Cmp.Lexicographic.{slice_cmp}
use Rattle.std.specs.Ordering.{nat_cmp}
use Rattle.std.specs.declared.cmp.Ordering.{Ordering}
use Rattle.std.specs.declared.cmp.Ordering.TheVariants.{Less, Equal, Greater}
use Rattle.std.proofs.lemmas.Bool.{cases_Bool}
use Rattle.std.proofs.lemmas.Bool.Decides.{nat_tests}
use Rattle.std.proofs.lemmas.Map.Lookups.{exact_bytes}
use Rattle.pushed_keys.specs.declared.change.Turn.{Turn}
use Rattle.pushed_keys.specs.declared.pushed.Pushed.{Pushed}
use Rattle.pushed_keys.specs.declared.told.Mark.{Mark}
use Rattle.pushed_keys.specs.declared.told.ToldTable.{ToldTable}
use Rattle.pushed_keys.specs.Rules.{is_due, is_told, is_written, put_after}
use Rattle.pushed_keys.specs.Stands.{Stand, in_set, by_order, only_told, placed, stands}
use Rattle.pushed_keys.specs.Turns.{marks_after, no_table}
use Rattle.telling.specs.Among.{AllMarks, IsAmong, IsMarked}
use Rattle.telling.specs.Telling.{TableTurn, keys_told, table_at, table_turn, table_turns}
use Rattle.telling.specs.Telling.{told_after, told_keys, turn_at}
use Rattle.telling.specs.Told.{Told}

-- the keys that are told of these keys behind a turn
abbrev pub told_of : Pushed → Turn → List Stand → List (List ℕ)
told_of table turn standing = keys_told table turn.now (marks_after table turn standing)

-- ---- one key

-- a mark of a key that is told is its key's
mark_told : (table : Pushed) (turn : Turn) (mark : Mark) (rest : List Mark)
    → is_told table turn.now mark.put ≡ true
    → keys_told table turn.now (mark ∷ rest) ≡ mark.key ∷ keys_told table turn.now rest
mark_told table turn mark rest told =
    ap (λ (b : Bool). map (λ (m : Mark). m.key) (cond b
    (mark ∷ filter (λ (m : Mark). is_told table turn.now m.put) rest)
    (filter (λ (m : Mark). is_told table turn.now m.put) rest))) told

told_now : (table : Pushed) (now : ℕ) → 0 < table.life → is_told table now now ≡ true
told_now table now lives = grind (arith, nat_tests)

told_undue : (table : Pushed) (now put : ℕ) → is_due table now put ≡ false
    → is_told table now put ≡ true
told_undue table now put undue = grind (arith, nat_tests)

-- a key of the set is told
in_told : (table : Pushed) (turn : Turn) (key : List ℕ) (put : Option ℕ) (standing : List Stand)
    → 0 < table.life
    → told_of table turn (in_set key put ∷ standing) ≡ key ∷ told_of table turn standing
unfolding put_after
in_told table turn key None standing lives =
    mark_told table turn (record { key = key; put = turn.now; is_in = true })
    (marks_after table turn standing) (told_now table turn.now lives)
in_told table turn key (Some put) standing lives =
    elim (cases_Bool (is_written table turn (Some put))) [
      | inl is ↦ rw is (mark_told table turn
          (record { key = key; put = turn.now; is_in = true })
          (marks_after table turn standing) (told_now table turn.now lives))
      | inr isnt ↦ rw isnt (mark_told table turn
          (record { key = key; put = put; is_in = true }) (marks_after table turn standing)
          (told_undue table turn.now put (undue turn.anew (is_due table turn.now put) isnt)))
    ]
  where
    undue : (a b : Bool) → (a || b) ≡ false → b ≡ false
    undue true b is = absurd (cc is)
    undue false b is = is

-- the mark of a key that isn't in the set, behind a turn
unfoldable pub left_mark : Bool → Bool → Mark → List Mark
left_mark holds told mark =
    option_to_list (option_map (λ put. record { key = mark.key; put = put; is_in = false })
    (if holds && told then Some mark.put else None))

-- without a hold a key that isn't in the set isn't told
out_told : (table : Pushed) (turn : Turn) (mark : Mark) (standing : List Stand)
    → table.holds ≡ false
    → told_of table turn (only_told mark ∷ standing) ≡ told_of table turn standing
unfolding put_after left_mark
out_told table turn mark standing loose =
    ap (λ (b : Bool). keys_told table turn.now
    (left_mark b (is_told table turn.now mark.put) mark ++ marks_after table turn standing)) loose

-- ---- without a hold

rest_told : (table : Pushed) (turn : Turn) (marks : List Mark) → table.holds ≡ false
    → told_of table turn (map only_told marks) ≡ []
rest_told table turn [] loose = refl
rest_told table turn (mark ∷ marks) loose =
    out_told table turn mark (map only_told marks) loose ∙ rest_told table turn marks loose

placed_told : (table : Pushed) (turn : Turn) (key : List ℕ) (keys : List (List ℕ))
    (behind : List Mark → List Stand) (marks : List Mark) → table.holds ≡ false → 0 < table.life
    → ((ms : List Mark) → told_of table turn (behind ms) ≡ keys)
    → told_of table turn (placed key behind marks) ≡ key ∷ keys
placed_told table turn key keys behind [] loose lives told =
    in_told table turn key None (behind []) lives ∙ ap (λ ks. key ∷ ks) (told [])
placed_told table turn key keys behind (mark ∷ marks) loose lives told =
    by (slice_cmp nat_cmp key mark.key)
    (placed_told table turn key keys behind marks loose lives told)
  where
    by : (o : Ordering) → told_of table turn (placed key behind marks) ≡ key ∷ keys
        → told_of table turn (by_order o (in_set key None ∷ behind (mark ∷ marks))
        (in_set key (Some mark.put) ∷ behind marks) (only_told mark ∷ placed key behind marks))
        ≡ key ∷ keys
    by Less later =
        in_told table turn key None (behind (mark ∷ marks)) lives
        ∙ ap (λ ks. key ∷ ks) (told (mark ∷ marks))
    by Equal later =
        in_told table turn key (Some mark.put) (behind marks) lives
        ∙ ap (λ ks. key ∷ ks) (told marks)
    by Greater later = out_told table turn mark (placed key behind marks) loose ∙ later

-- without a hold the set is told, and nothing else
pub set_told : (table : Pushed) (turn : Turn) (set : List (List ℕ)) (marks : List Mark)
    → table.holds ≡ false → 0 < table.life → told_of table turn (stands set marks) ≡ set
unfolding stands
set_told table turn [] marks loose lives = rest_told table turn marks loose
set_told table turn (key ∷ keys) marks loose lives =
    placed_told table turn key keys (stands keys) marks loose lives
    (λ ms. set_told table turn keys ms loose lives)

-- ---- with a hold

-- what is told of a key that isn't in the set
out_cases : (table : Pushed) (turn : Turn) (mark : Mark) (standing : List Stand) (key : List ℕ)
    → IsAmong key (told_of table turn (only_told mark ∷ standing))
    → ((mark.key ≡ key) × (is_told table turn.now mark.put ≡ true))
    ⊎ IsAmong key (told_of table turn standing)
unfolding put_after left_mark
out_cases table turn mark standing key there =
    by table.holds (is_told table turn.now mark.put) refl there
  where
    by : (holds told : Bool) → is_told table turn.now mark.put ≡ told
        → IsAmong key (keys_told table turn.now
        (left_mark holds told mark ++ marks_after table turn standing))
        → ((mark.key ≡ key) × (is_told table turn.now mark.put ≡ true))
        ⊎ IsAmong key (told_of table turn standing)
    by false told is there = inr there
    by true false is there = inr there
    by true true is there =
        elim (subst (IsAmong key)
        (mark_told table turn (record { key = mark.key; put = mark.put; is_in = false })
        (marks_after table turn standing) is) there) [
          | inl same ↦ inl (same, is)
          | inr more ↦ inr more
        ]

-- what is told stays so beside such a key
out_has : (table : Pushed) (turn : Turn) (mark : Mark) (standing : List Stand) (key : List ℕ)
    → IsAmong key (told_of table turn standing)
    → IsAmong key (told_of table turn (only_told mark ∷ standing))
unfolding put_after left_mark
out_has table turn mark standing key there =
    by table.holds (is_told table turn.now mark.put) refl
  where
    by : (holds told : Bool) → is_told table turn.now mark.put ≡ told
        → IsAmong key (keys_told table turn.now
        (left_mark holds told mark ++ marks_after table turn standing))
    by false told is = there
    by true false is = there
    by true true is =
        subst (IsAmong key) (sym (mark_told table turn
        (record { key = mark.key; put = mark.put; is_in = false })
        (marks_after table turn standing) is)) (inr there)

first_has : (table : Pushed) (turn : Turn) (key other : List ℕ) (put : Option ℕ)
    (standing : List Stand) → 0 < table.life
    → ((key ≡ other) ⊎ IsAmong other (told_of table turn standing))
    → IsAmong other (told_of table turn (in_set key put ∷ standing))
first_has table turn key other put standing lives there =
    subst (IsAmong other) (sym (in_told table turn key put standing lives)) there

placed_has : (table : Pushed) (turn : Turn) (key other : List ℕ) (behind : List Mark → List Stand)
    (marks : List Mark) → 0 < table.life
    → ((ms : List Mark) → (key ≡ other) ⊎ IsAmong other (told_of table turn (behind ms)))
    → IsAmong other (told_of table turn (placed key behind marks))
placed_has table turn key other behind [] lives there =
    first_has table turn key other None (behind []) lives (there [])
placed_has table turn key other behind (mark ∷ marks) lives there =
    by (slice_cmp nat_cmp key mark.key)
    (placed_has table turn key other behind marks lives there)
  where
    by : (o : Ordering) → IsAmong other (told_of table turn (placed key behind marks))
        → IsAmong other (told_of table turn (by_order o (in_set key None ∷ behind (mark ∷ marks))
        (in_set key (Some mark.put) ∷ behind marks) (only_told mark ∷ placed key behind marks)))
    by Less later =
        first_has table turn key other None (behind (mark ∷ marks)) lives (there (mark ∷ marks))
    by Equal later =
        first_has table turn key other (Some mark.put) (behind marks) lives (there marks)
    by Greater later = out_has table turn mark (placed key behind marks) other later

-- each key of the set is told
pub set_held : (table : Pushed) (turn : Turn) (set : List (List ℕ)) (marks : List Mark)
    (key : List ℕ) → 0 < table.life → IsAmong key set
    → IsAmong key (told_of table turn (stands set marks))
unfolding stands
set_held table turn [] marks key lives there = absurd there
set_held table turn (first ∷ keys) marks key lives (inl is) =
    placed_has table turn first key (stands keys) marks lives (λ ms. inl is)
set_held table turn (first ∷ keys) marks key lives (inr there) =
    placed_has table turn first key (stands keys) marks lives
    (λ ms. inr (set_held table turn keys ms key lives there))

rest_from : (table : Pushed) (turn : Turn) (marks : List Mark) (key : List ℕ)
    → IsAmong key (told_of table turn (map only_told marks)) → IsMarked table turn.now key marks
rest_from table turn [] key there = there
rest_from table turn (mark ∷ marks) key there =
    elim (out_cases table turn mark (map only_told marks) key there) [
      | inl is ↦ inl is
      | inr more ↦ inr (rest_from table turn marks key more)
    ]

placed_from : (table : Pushed) (turn : Turn) (first : List ℕ) (keys : List (List ℕ))
    (behind : List Mark → List Stand) (key : List ℕ) (marks : List Mark) → 0 < table.life
    → ((ms : List Mark) → IsAmong key (told_of table turn (behind ms))
    → IsAmong key keys ⊎ IsMarked table turn.now key ms)
    → IsAmong key (told_of table turn (placed first behind marks))
    → IsAmong key (first ∷ keys) ⊎ IsMarked table turn.now key marks
placed_from table turn first keys behind key [] lives from there =
    elim (subst (IsAmong key) (in_told table turn first None (behind []) lives) there) [
      | inl is ↦ inl (inl is)
      | inr more ↦ elim (from [] more) [ inl one ↦ inl (inr one) | inr none ↦ absurd none ]
    ]
placed_from table turn first keys behind key (mark ∷ marks) lives from there =
    by (slice_cmp nat_cmp first mark.key)
    (λ more. placed_from table turn first keys behind key marks lives from more) there
  where
    by : (o : Ordering) → (IsAmong key (told_of table turn (placed first behind marks))
        → IsAmong key (first ∷ keys) ⊎ IsMarked table turn.now key marks)
        → IsAmong key (told_of table turn
        (by_order o (in_set first None ∷ behind (mark ∷ marks))
        (in_set first (Some mark.put) ∷ behind marks) (only_told mark ∷ placed first behind marks)))
        → IsAmong key (first ∷ keys) ⊎ IsMarked table turn.now key (mark ∷ marks)
    by Less later here =
        elim (subst (IsAmong key) (in_told table turn first None (behind (mark ∷ marks)) lives)
        here) [
          | inl is ↦ inl (inl is)
          | inr more ↦ elim (from (mark ∷ marks) more) [
            | inl one ↦ inl (inr one)
            | inr old ↦ inr old
          ]
        ]
    by Equal later here =
        elim (subst (IsAmong key) (in_told table turn first (Some mark.put) (behind marks) lives)
        here) [
          | inl is ↦ inl (inl is)
          | inr more ↦ elim (from marks more) [
            | inl one ↦ inl (inr one)
            | inr old ↦ inr (inr old)
          ]
        ]
    by Greater later here =
        elim (out_cases table turn mark (placed first behind marks) key here) [
          | inl is ↦ inr (inl is)
          | inr more ↦ elim (later more) [ inl one ↦ inl one | inr old ↦ inr (inr old) ]
        ]

-- each further key was put before, and its life hasn't gone by
pub set_from : (table : Pushed) (turn : Turn) (set : List (List ℕ)) (marks : List Mark)
    (key : List ℕ) → 0 < table.life → IsAmong key (told_of table turn (stands set marks))
    → IsAmong key set ⊎ IsMarked table turn.now key marks
unfolding stands
set_from table turn [] marks key lives there = inr (rest_from table turn marks key there)
set_from table turn (first ∷ keys) marks key lives there =
    placed_from table turn first keys (stands keys) key marks lives
    (λ ms more. set_from table turn keys ms key lives more) there

-- ---- when keys were put

-- the marks of these keys behind a turn
abbrev pub marks_of : Pushed → Turn → List Stand → List Mark
marks_of table turn standing = marks_after table turn standing

in_marks : (Put : List ℕ → ℕ → Type 0) (table : Pushed) (turn : Turn) (key : List ℕ)
    (put : Option ℕ) (standing : List Stand) → Put key turn.now → IfSome put (Put key)
    → AllMarks Put (marks_of table turn standing)
    → AllMarks Put (marks_of table turn (in_set key put ∷ standing))
unfolding put_after
in_marks Put table turn key None standing now old rest = (now, rest)
in_marks Put table turn key (Some put) standing now old rest =
    elim (cases_Bool (is_written table turn (Some put))) [
      | inl is ↦ rw is (now, rest)
      | inr isnt ↦ rw isnt (old, rest)
    ]

out_marks : (Put : List ℕ → ℕ → Type 0) (table : Pushed) (turn : Turn) (mark : Mark)
    (standing : List Stand) → Put mark.key mark.put
    → AllMarks Put (marks_of table turn standing)
    → AllMarks Put (marks_of table turn (only_told mark ∷ standing))
unfolding put_after left_mark
out_marks Put table turn mark standing old rest =
    by table.holds (is_told table turn.now mark.put)
  where
    by : (holds told : Bool) → AllMarks Put
        (left_mark holds told mark ++ marks_of table turn standing)
    by false told = rest
    by true false = rest
    by true true = (old, rest)

rest_marks : (Put : List ℕ → ℕ → Type 0) (table : Pushed) (turn : Turn) (marks : List Mark)
    → AllMarks Put marks → AllMarks Put (marks_of table turn (map only_told marks))
rest_marks Put table turn [] old = tt
rest_marks Put table turn (mark ∷ marks) old =
    out_marks Put table turn mark (map only_told marks) old.0
    (rest_marks Put table turn marks old.1)

placed_marks : (Put : List ℕ → ℕ → Type 0) (table : Pushed) (turn : Turn) (key : List ℕ)
    (behind : List Mark → List Stand) (marks : List Mark) → Put key turn.now
    → ((ms : List Mark) → AllMarks Put ms → AllMarks Put (marks_of table turn (behind ms)))
    → AllMarks Put marks → AllMarks Put (marks_of table turn (placed key behind marks))
placed_marks Put table turn key behind [] now later old =
    in_marks Put table turn key None (behind []) now tt (later [] tt)
placed_marks Put table turn key behind (mark ∷ marks) now later old =
    by (slice_cmp nat_cmp key mark.key) refl
    (placed_marks Put table turn key behind marks now later old.1)
  where
    by : (o : Ordering) → slice_cmp nat_cmp key mark.key ≡ o
        → AllMarks Put (marks_of table turn (placed key behind marks))
        → AllMarks Put (marks_of table turn
        (by_order o (in_set key None ∷ behind (mark ∷ marks))
        (in_set key (Some mark.put) ∷ behind marks) (only_told mark ∷ placed key behind marks)))
    by Less is more =
        in_marks Put table turn key None (behind (mark ∷ marks)) now tt (later (mark ∷ marks) old)
    by Equal is more =
        in_marks Put table turn key (Some mark.put) (behind marks) now
        (subst (λ (k : List ℕ). Put k mark.put) (sym (exact_bytes key mark.key is)) old.0)
        (later marks old.1)
    by Greater is more = out_marks Put table turn mark (placed key behind marks) old.0 more

-- a mark behind a turn is of a key of its set, at its moment, or was there before
pub set_marks : (Put : List ℕ → ℕ → Type 0) (table : Pushed) (turn : Turn) (set : List (List ℕ))
    (marks : List Mark) → ((key : List ℕ) → IsAmong key set → Put key turn.now)
    → AllMarks Put marks → AllMarks Put (marks_of table turn (stands set marks))
unfolding stands
set_marks Put table turn [] marks now old = rest_marks Put table turn marks old
set_marks Put table turn (key ∷ keys) marks now old =
    placed_marks Put table turn key (stands keys) marks (now key (inl refl))
    (λ ms more. set_marks Put table turn keys ms (λ k there. now k (inr there)) more) old

-- ---- by place

-- the marks behind a turn of the table at a place
after_there : (turn : Turn) (sets : List (List (List ℕ))) (told : List ToldTable) (before : ℕ)
    (pushed : List Pushed) (place at : ℕ) (table : Pushed) → slice_get pushed place ≡ Some table
    → at ≡ before + place
    → (slice_index_or (map (λ (t : TableTurn). t.after) (table_turns turn sets told before pushed))
    place no_table).marks
    ≡ marks_of table turn (stands (slice_index_or sets at [])
    (slice_index_or told at no_table).marks)
unfolding table_turns table_turn
after_there turn sets told before [] place at table is here = absurd (cc is)
after_there turn sets told before (first ∷ pushed) zero at table is here =
    let same : first ≡ table = cc is in
    let there : before ≡ at = omega arith in
    ap (λ (n : ℕ). marks_of first turn (stands (slice_index_or sets n [])
    (slice_index_or told n no_table).marks)) there
    ∙ ap (λ (t : Pushed). marks_of t turn (stands (slice_index_or sets at [])
    (slice_index_or told at no_table).marks)) same
after_there turn sets told before (first ∷ pushed) (suc place) at table is here =
    after_there turn sets told (before + 1) pushed place at table is (omega arith)

-- the marks of a table behind a turn
pub marks_at : (pushed : List Pushed) (sets : List (List (List ℕ))) (now : ℕ) (told : Told)
    (place : ℕ) (table : Pushed) → slice_get pushed place ≡ Some table
    → (table_at (told_after pushed sets now told) place).marks
    ≡ marks_of table (turn_at now told) (stands (slice_index_or sets place [])
    (table_at told place).marks)
unfolding told_after
marks_at pushed sets now told place table is =
    after_there (turn_at now told) sets told.tables 0 pushed place place table is (omega arith)

-- what is told of a table behind a turn
pub told_at : (pushed : List Pushed) (sets : List (List (List ℕ))) (now : ℕ) (told : Told)
    (place : ℕ) (table : Pushed) → slice_get pushed place ≡ Some table
    → told_keys pushed (told_after pushed sets now told) place now
    ≡ told_of table (turn_at now told) (stands (slice_index_or sets place [])
    (table_at told place).marks)
unfolding told_keys
told_at pushed sets now told place table is =
    ap (λ (o : Option Pushed). option_map_or (λ t. keys_told t now
    (table_at (told_after pushed sets now told) place).marks) o []) is
    ∙ ap (keys_told table now) (marks_at pushed sets now told place table is)
