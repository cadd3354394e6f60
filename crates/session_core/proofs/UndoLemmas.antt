-- Changes that are taken back.
use Rattle.std.proofs.Common.{◌≡◌, ℕ, zero, suc, ◌+◌, ◌≤◌, nat_lt, true, List, [], ◌∷◌, ◌++◌}
use Rattle.std.proofs.Common.{Option, Some, refl, sym, ap, ◌∙◌, length, arith}
use Rattle.std.specs.List.{insert, remove}
use Rattle.std.proofs.lemmas.Bool.{lt-ltb}
use Rattle.std.proofs.lemmas.List.Edits.{length-insert}
use Rattle.std.specs.Prelude.{slice_get, slice_set}
use Rattle.std.proofs.lemmas.List.{set-set}
use Rattle.session_core.specs.declared.track.Entry.{Entry}
use Rattle.session_core.specs.declared.undo.Change.{Change}
use Rattle.session_core.specs.declared.undo.Change.TheVariants.{Replaced, Added}
use Rattle.session_core.specs.Tracked.{Tracked}
use Rattle.session_core.specs.Undo.{undone, before}
use Rattle.session_core.proofs.FitLemmas.{some_same}

-- the last change is taken back first
pub undone_last : (changes : List Change) (change : Change) (entries : List Entry)
    → undone (changes ++ change ∷ []) entries ≡ undone changes (before change entries)
unfolding undone
undone_last [] change entries = refl
undone_last (first ∷ changes) change entries =
    ap (before first) (undone_last changes change entries)

pub set_own : (entries : List Entry) (at : ℕ) (entry : Entry) → slice_get entries at ≡ Some entry
    → slice_set entries at entry ≡ entries
set_own [] at entry is = refl
set_own (first ∷ entries) zero entry is = ap (λ (e : Entry). e ∷ entries) (sym (some_same is))
set_own (first ∷ entries) (suc at) entry is =
    ap (λ (es : List Entry). first ∷ es) (set_own entries at entry is)

pub noted_again : (changes rest : List Change) (at : ℕ) (old next : Entry) (entries : List Entry)
    → changes ≡ rest ++ Replaced at old ∷ [] → undone changes (slice_set entries at next)
    ≡ undone changes entries
noted_again changes rest at old next entries is =
    rw is (undone_last rest (Replaced at old) (slice_set entries at next)
    ∙ ap (undone rest) (set-set entries at next old)
    ∙ sym (undone_last rest (Replaced at old) entries))

pub noted_new : (changes : List Change) (at : ℕ) (entry next : Entry) (entries : List Entry)
    → slice_get entries at ≡ Some entry
    → undone (changes ++ Replaced at entry ∷ []) (slice_set entries at next)
    ≡ undone changes entries
noted_new changes at entry next entries is =
    undone_last changes (Replaced at entry) (slice_set entries at next)
    ∙ ap (undone changes) (set-set entries at next entry ∙ set_own entries at entry is)

no_room : (n : ℕ) → suc n ≤ 0 → ⊥
no_room n le = omega (arith, le)

pub removed : (entries : List Entry) (at : ℕ) (entry : Entry) → at ≤ length entries
    → remove (insert entries at entry) at ≡ entries
removed entries zero entry le = refl
removed [] (suc at) entry le = elim (no_room at le) [ ]
removed (first ∷ entries) (suc at) entry le =
    ap (λ (es : List Entry). first ∷ es) (removed entries at entry (omega (arith, le)))

pub added : (changes : List Change) (at : ℕ) (entry : Entry) (entries : List Entry)
    → at ≤ length entries → undone (changes ++ Added at ∷ []) (insert entries at entry)
    ≡ undone changes entries
added changes at entry entries le =
    let longer : length (insert entries at entry) ≡ length entries + 1 =
    length-insert entries at entry le in
    let within : nat_lt at (length (insert entries at entry)) ≡ true =
    lt-ltb at (length (insert entries at entry)) (omega (arith, longer, le)) in
    undone_last changes (Added at) (insert entries at entry)
    ∙ ap (undone changes) (rw within (removed entries at entry le))

pub undone_none : (changes : List Change) (entries : List Entry) → length changes ≡ 0
    → undone changes entries ≡ entries
unfolding undone
undone_none [] entries none = refl
undone_none (change ∷ changes) entries none = absurd (omega (arith, none))

-- after changes that are taken back, what is kept is what was
pub restored : (old track new : Tracked) (none changes : List Change) (current : Option ℕ)
    → none ≡ [] → undone changes track.entries ≡ undone none old.entries → current ≡ old.current
    → new ≡ record { entries = undone changes track.entries; current = current } → new ≡ old
unfolding undone
restored old track new none changes current is lead same taken =
    let back : undone changes track.entries ≡ old.entries = rw is at lead in
    rw (taken, back, same) refl
