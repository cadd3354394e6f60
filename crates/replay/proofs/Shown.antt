-- What is printed of what a connection was told.
use Rattle.std.proofs.Common.{◌≡◌, ℕ, suc, ◌+◌, ◌<◌, Bool, true}
use Rattle.std.proofs.Common.{false, List, [], ◌∷◌, ◌++◌, length, drop}
use Rattle.std.proofs.Common.{get_or, add-one, drop-cons, Option, None, Some, refl, sym, ap, ◌∙◌}
use Rattle.std.specs.Bool.{then_some}
use Rattle.agg_types.specs.declared.config.Config.{Config}
use Rattle.pushed_keys.specs.declared.pushed.Pushed.{Pushed}
use Rattle.telling.specs.Telling.{Told as WasTold, told_keys}
use Rattle.fleet_core.specs.Possible.{is_open_after}
use Rattle.fleet_core.specs.Telling.{book_after, told_of}
use Rattle.fleet_core.specs.declared.step.Step.{Step}
use Rattle.fleet_core.specs.declared.step.Step.TheVariants.{Told}
use Rattle.replay.specs.Tellings.{shown_text, table_text, tables_from, tables_text}

pub none_shown : (config : Config) (opening : ℕ) (past : List Step) (conn : ℕ)
    → None ≡ then_some (is_open_after config opening past conn) (told_of config opening past conn)
    → shown_text config opening past (Told conn) ≡ []
none_shown config opening past conn is = rw (closed _ is) refl
  where
    closed : (b : Bool) → None ≡ then_some b (told_of config opening past conn) → b ≡ false
    closed true e = cc
    closed false e = refl

pub some_shown : (config : Config) (opening : ℕ) (past : List Step) (conn : ℕ) (teller : WasTold)
    → Some teller
    ≡ then_some (is_open_after config opening past conn) (told_of config opening past conn)
    → shown_text config opening past (Told conn)
    ≡ tables_text conn (book_after config opening past) teller
some_shown config opening past conn teller is =
    let both = opened (is_open_after config opening past conn) is in
    rw (both.0) (ap (tables_text conn (book_after config opening past)) (sym both.1))
  where
    opened : (b : Bool) → Some teller ≡ then_some b (told_of config opening past conn)
        → (b ≡ true) × (teller ≡ told_of config opening past conn)
    opened true e = (refl, cc)
    opened false e = cc

pub tables_more : (conn : ℕ) (all : List Pushed) (told : WasTold) (now before : ℕ)
    (table : Pushed) → before < length all → table ≡ get_or all before table
    → tables_from conn all told now before (drop before all)
    ≡ table_text conn table (told_keys all told before now)
    ++ tables_from conn all told now (before + 1) (drop (before + 1) all)
unfolding tables_from
tables_more conn all told now before table lt is =
    let here : drop before all ≡ table ∷ drop (before + 1) all =
    rw add-one (drop-cons all before table lt ∙ ap (λ t. t ∷ drop (suc before) all) (sym is)) in
    ap (tables_from conn all told now before) here
