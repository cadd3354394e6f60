-- How the entries are led back to what they were before a piece.
use Rattle.std.specs.Prelude.{◌≡◌, ◌≤◌, ◌++◌, ℕ, nat_lt, if◌then◌else◌, List, [], ◌∷◌, length}
use Rattle.std.specs.Prelude.{slice_set, take, drop, Option}
use Rattle.std.specs.List.{remove}
use Rattle.session_core.specs.declared.track.Entry.{Entry}
use Rattle.session_core.specs.declared.undo.Change.{Change}
use Rattle.session_core.specs.declared.undo.Change.TheVariants.{Replaced, Added}
use Rattle.agg_types.specs.declared.event.What.{What}
use Rattle.peers_msg.specs.Message.{Reading}
use Rattle.session_core.specs.declared.cause.End.{End as Ending}
use Rattle.session_core.specs.Tracked.{Tracked}
use Rattle.session_core.specs.Run.{Run, acks_of}
use Rattle.session_core.specs.Piece.{end_of, end_reply}

-- the entries before a change
abbrev pub before : Change → List Entry → List Entry
before (Replaced at entry) entries = slice_set entries at entry
before (Added at) entries = if nat_lt at (length entries) then remove entries at else entries

-- the entries before all the changes, of which the last is taken back first
unfoldable pub undone : List Change → List Entry → List Entry
undone [] entries = entries
undone (change ∷ changes) entries = before change (undone changes entries)

-- the changes lead back to the same entries as before
abbrev pub LeadBack : List Change → List Entry → List Change → List Entry → Type 0
LeadBack old_changes old changes entries = undone changes entries ≡ undone old_changes old

-- what a piece adds to the facts and to the bytes that are sent, of which so many are replies
abbrev pub IsSaid : Option Ending → ℕ → Tracked → List What → List What → List ℕ → List ℕ → Run
    → Reading → Type 0
IsSaid end split track old_facts facts old_out out run reading =
    (end ≡ end_of run reading) × (track ≡ run.track) × (facts ≡ old_facts ++ run.facts)
    × (split ≤ length out) × (take split out ≡ old_out ++ (run.replies ++ end_reply end))
    × (drop split out ≡ acks_of run.track.entries)
