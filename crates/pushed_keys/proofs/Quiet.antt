-- Turns that change nothing.
use Rattle.std.proofs.Common.{◌≡◌, ℕ, ◌+◌, List, [], ◌∷◌, length, drop, get_or}
use Rattle.std.proofs.Common.{ap, refl, sym, ◌∙◌, arith, add-one, drop-cons}
use Rattle.std.proofs.lemmas.List.{drop_all}
use Rattle.pushed_keys.specs.Stands.{stands}
use Rattle.pushed_keys.specs.Turns.{AreQuiet, AreSaid, ChangesNothing, changes, last_after}
use Rattle.pushed_keys.specs.Turns.{no_table, told_table, told_tables, unsaid_table, unsaid_tables}
use Rattle.pushed_keys.specs.declared.change.Turn.{Turn}
use Rattle.pushed_keys.specs.declared.pushed.Pushed.{Pushed}
use Rattle.pushed_keys.specs.declared.told.ToldTable.{ToldTable}

same_table : (turn : Turn) (p : Pushed) (set : List (List ℕ)) (told : ToldTable)
    → AreQuiet p turn (stands set told.marks) told.marks → told_table turn p set told ≡ told
same_table turn p set told q =
    let last : last_after told.last (changes p turn (stands set told.marks)) ≡ told.last =
    ap (last_after told.last) q.silent in
    λ i. record { last = last i; marks = q.same i }

-- each of these tables is quiet, the first of which stands behind so many others
abbrev pub AllQuiet : Turn → List (List (List ℕ)) → List ToldTable → ℕ → List Pushed → Type 0
AllQuiet turn sets told before [] = Unit {0}
AllQuiet turn sets told before (p ∷ ps) =
    AreQuiet p turn (stands (get_or sets before []) (get_or told before no_table).marks)
    (get_or told before no_table).marks × AllQuiet turn sets told (before + 1) ps

-- nothing is written of quiet tables
all_silent : (turn : Turn) (sets : List (List (List ℕ))) (told : List ToldTable) (before : ℕ)
    (ps : List Pushed) → AllQuiet turn sets told before ps
    → AreSaid (unsaid_tables turn sets told before ps)
unfolding unsaid_tables unsaid_table
all_silent turn sets told before [] q = tt
all_silent turn sets told before (p ∷ ps) q =
    (q.0.silent, all_silent turn sets told (before + 1) ps q.1)

-- and they stay as they are
all_same : (turn : Turn) (sets : List (List (List ℕ))) (told : List ToldTable) (before : ℕ)
    (ps : List Pushed) → AllQuiet turn sets told before ps → before + length ps ≡ length told
    → told_tables turn sets told before ps ≡ drop before told
unfolding told_tables
all_same turn sets told before [] q e = sym (drop_all before told (omega arith))
all_same turn sets told before (p ∷ ps) q e =
    let set : List (List ℕ) = get_or sets before [] in
    let old : ToldTable = get_or told before no_table in
    let cons : drop before told ≡ old ∷ drop (before + 1) told =
    rw add-one (drop-cons told before no_table (omega arith)) in
    (λ i. same_table turn p set old q.0 i
    ∷ all_same turn sets told (before + 1) ps q.1 (omega arith) i) ∙ sym cons

pub all_quiet : (turn : Turn) (sets : List (List (List ℕ))) (told : List ToldTable)
    (ps : List Pushed) → AllQuiet turn sets told 0 ps → length ps ≡ length told
    → ChangesNothing turn sets told ps
all_quiet turn sets told ps q e = record {
  silent = all_silent turn sets told 0 ps q;
  same = all_same turn sets told 0 ps q (omega arith);
}
