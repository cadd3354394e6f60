-- What a session's tellings are.
use Rattle.std.specs.Prelude.{◌≡◌, ◌≢◌, ◌⊎◌, ℕ, ◌+◌, ◌<◌, Bool, true, false, ⊤, List, [], ◌∷◌, drop}
use Rattle.std.specs.Prelude.{slice_get, take, Option, None, Some, MatchOption, IfSome, Result}
use Rattle.agg_types.specs.declared.event.What.{What}
use Rattle.fleet_model.specs.State.{State}
use Rattle.session_core.specs.Piece.{setup_of}
use Rattle.pushed_keys.specs.Pushes.{pushed_of}
use Rattle.pushed_keys.specs.declared.pushed.Pushed.{Pushed}
use Rattle.telling.specs.Among.{IsAmong}
use Rattle.telling.specs.Telling.{text_of, told_after, told_keys, turn_messages}
use Rattle.telling.specs.Told.{Told}
use Rattle.telling.specs.Unsaid.{Unsaid, unsaid_messages}
use Rattle.hub.specs.History.{Beginning}
use Rattle.hub.specs.Posts.{Follows}
use Rattle.hub.specs.Views.{IsBookOf, Seeing}
use Rattle.worker_frame.specs.declared.writing.WriteFailed.{WriteFailed}
use Rattle.worker_frame.specs.declared.poster.Poster.{Poster}
use Rattle.worker_frame.specs.Told.{ShowsTold}
use Rattle.worker_frame.specs.Writing.{Sends}
use Rattle.peer_worker.specs.Knowing.{Pushing}
use Rattle.peer_worker.specs.Turns.{Telling, Turn, Piece, Send, Tell, Say, asked_if, facts_in}
use Rattle.peer_worker.specs.Turns.{pushed_in, set_named, sets_in, told_in, unsaid_in}

-- the list that the newest of these turns' tellings is of, and the hub's before the first
abbrev pub shown_by : Beginning → List Turn → Beginning
shown_by hub [] = hub
shown_by hub (Piece piece ∷ earlier) = shown_by hub earlier
shown_by hub (Send signal ∷ earlier) = shown_by hub earlier
shown_by hub (Say count ∷ earlier) = shown_by hub earlier
shown_by hub (Tell telling ∷ earlier) = telling.seen

-- what a seat posted, if there is one, stands in a list
abbrev pub ShowsPosted : Option ℕ → List What → Beginning → Type 0
ShowsPosted seat whats list =
    MatchOption seat (Unit {0}) (λ seat. ShowsTold seat whats list)

-- some telling among these turns is such
abbrev pub SomeTelling : (Telling → Type 0) → List Turn → Type 0
SomeTelling Is [] = ⊥
SomeTelling Is (Piece piece ∷ earlier) = SomeTelling Is earlier
SomeTelling Is (Send signal ∷ earlier) = SomeTelling Is earlier
SomeTelling Is (Say count ∷ earlier) = SomeTelling Is earlier
SomeTelling Is (Tell telling ∷ earlier) = Is telling ⊎ SomeTelling Is earlier

-- a key stood in a pushed table's set at the list of a telling less than its life before a moment
pub record StoodIn (table : Pushed) (key : List ℕ) (moment : ℕ) (telling : Telling) : Type 0 where
  pub had : IsAmong key (set_named telling.book table)
  pub young : moment < telling.book.moment + table.life

-- these keys are those of a set, and others that stood in it less than a life before
pub record HoldsSet (table : Pushed) (set keys : List (List ℕ)) (moment : ℕ) (earlier : List Turn)
    : Type 0 where
  pub all : (key : List ℕ) → IsAmong key set → IsAmong key keys
  pub others : (key : List ℕ) → IsAmong key keys
      → IsAmong key set ⊎ SomeTelling (StoodIn table key moment) earlier

-- what a table was told, by whether it holds keys that left its set
abbrev pub IsBroughtTo : Bool → Pushed → List (List ℕ) → List (List ℕ) → ℕ → List Turn → Type 0
IsBroughtTo false table set keys moment earlier = keys ≡ set
IsBroughtTo true table set keys moment earlier = HoldsSet table set keys moment earlier

-- After a telling, what was told and hasn't ended at its moment is of each pushed table exactly the
-- set at its list. With a hold, it has that set, and further keys that left it less than the hold
-- before.
abbrev pub IsExact : Beginning → Bool → List Turn → Telling → Type 0
IsExact hub seated earlier telling = (place : ℕ) (table : Pushed)
    → slice_get (pushed_in telling) place ≡ Some table → 0 < table.life
    → IsBroughtTo table.holds table (set_named telling.book table)
    (told_keys (pushed_in telling)
    (told_in (setup_of hub.config) seated (pushed_in telling) (Tell telling ∷ earlier)) place
    telling.book.moment) telling.book.moment earlier

-- A telling behind these turns is made once all was written that the one before says. It is of a
-- list that begins with that of the one before, and holds all that the session posted before. Its
-- hello was accepted. After it, what was told is the sets.
pub record IsTelling (hub : Beginning) (seated : Bool) (seat : Option ℕ) (earlier : List Turn)
    (telling : Telling) : Type 0 where
  pub said : unsaid_in (setup_of hub.config) seated earlier ≡ []
  pub follows : Follows (shown_by hub earlier) telling.seen
  pub shows : ShowsPosted seat (facts_in (setup_of hub.config) seated earlier) telling.seen
  pub stands : IsBookOf telling.book telling.seen
  pub greeted : facts_in (setup_of hub.config) seated earlier ≢ []
  pub exact : IsExact hub seated earlier telling

-- each telling among these turns is one behind those before it
abbrev pub AreTellings : Beginning → Bool → Option ℕ → List Turn → Type 0
AreTellings hub seated seat [] = ⊤
AreTellings hub seated seat (Piece piece ∷ earlier) = AreTellings hub seated seat earlier
AreTellings hub seated seat (Send signal ∷ earlier) = AreTellings hub seated seat earlier
AreTellings hub seated seat (Say count ∷ earlier) = AreTellings hub seated seat earlier
AreTellings hub seated seat (Tell telling ∷ earlier) =
    IsTelling hub seated seat earlier telling × AreTellings hub seated seat earlier

-- a lens has seen what was shown, and where there is none yet, nothing was
abbrev pub SeesShown : Beginning → List Turn → Option Seeing → Type 0
SeesShown hub turns lens =
    MatchOption lens (shown_by hub turns ≡ hub) (λ lens. Follows (shown_by hub turns) lens.seen)

-- what is kept of the pushed tables stands for what these turns told
pub record IsPushing (hub : Beginning) (seated : Bool) (turns : List Turn) (pushing : Pushing)
    : Type 0 where
  pub tables : pushing.pushed ≡ pushed_of hub.config
  pub teller : pushing.teller
      ≡ told_in (setup_of hub.config) seated (pushed_of hub.config) turns
  pub unsaid : unsaid_messages pushing.pushed pushing.unsaid
      ≡ unsaid_in (setup_of hub.config) seated turns
  pub sees : SeesShown hub turns pushing.lens

-- the same, where tables are pushed
abbrev pub TellsOn : Beginning → Bool → List Turn → Option Pushing → Type 0
TellsOn hub seated turns pushing =
    MatchOption pushing (Unit {0}) (IsPushing hub seated turns)

-- ---- what is kept of them, step by step

-- after a resync request was read, if this is so
abbrev pub asked_pushing : Bool → Pushing → Pushing
asked_pushing asks pushing = record pushing { teller = asked_if asks pushing.teller }

-- a lens is there from now on, or none was to be had
pub record Equips (hub : Beginning) (old new : Pushing) : Type 0 where
  pub tables : new.pushed ≡ old.pushed
  pub teller : new.teller ≡ old.teller
  pub unsaid : new.unsaid ≡ old.unsaid
  pub sees : (turns : List Turn) → SeesShown hub turns old.lens → SeesShown hub turns new.lens

-- what is to be said to bring that which was told of pushed tables to their sets in a book of a
-- list, and what is told then
pub record Brings (pushed : List Pushed) (old new : Told) (seen : Beginning) (unsaid : Unsaid)
    : Type 0 where
  pub book : State
  pub stands : IsBookOf book seen
  pub says : unsaid_messages pushed unsaid
      ≡ turn_messages pushed (sets_in pushed book) book.moment old
  pub told : new ≡ told_after pushed (sets_in pushed book) book.moment old

-- what a poster posted last, if there is one and it did, is of the history that a lens sees
abbrev pub MayShow : Option Poster → Beginning → Type 0
MayShow poster seen = IfSome poster (λ poster. IfSome poster.last (λ list. list.of ≡ seen.of))

-- the same of the lens of what is kept, if there is one
abbrev pub LooksBack : Pushing → Option Poster → Type 0
LooksBack pushing poster = IfSome pushing.lens (λ lens. MayShow poster lens.seen)

-- a list holds what a poster posted last, if there is one and it did
abbrev pub HoldsLast : Option Poster → Beginning → Type 0
HoldsLast poster seen = IfSome poster (λ poster. IfSome poster.last (λ list. Follows list seen))

-- a lens has seen more
abbrev pub SeesMore : Option Seeing → Option Seeing → Type 0
SeesMore None new = new ≡ None
SeesMore (Some lens) new = (later : Seeing) × (new ≡ Some later) × Follows lens.seen later.seen

-- a turn was made over a later list, which holds what was posted last, and nothing was unsaid
pub record TurnsOver (old new : Pushing) (poster : Option Poster) : Type 0 where
  pub lens : Seeing
  pub later : Seeing
  pub said : unsaid_messages old.pushed old.unsaid ≡ []
  pub had : old.lens ≡ Some lens
  pub has : new.lens ≡ Some later
  pub follows : Follows lens.seen later.seen
  pub holds : HoldsLast poster later.seen
  pub brings : Brings old.pushed old.teller new.teller later.seen new.unsaid

-- no turn was made
pub record KeepsTold (old new : Pushing) : Type 0 where
  pub teller : new.teller ≡ old.teller
  pub unsaid : new.unsaid ≡ old.unsaid
  pub sees : SeesMore old.lens new.lens

-- a turn was made, or none was
abbrev pub TurnsTo : Pushing → Pushing → Option Poster → Type 0
TurnsTo old new poster = KeepsTold old new ⊎ TurnsOver old new poster

-- of what was unsaid the next messages were written, the last one maybe in part where a write
-- failed, and the others are left
pub record WritesOn {A : Type 0} (pushed : List Pushed) (old new : Unsaid)
    (before after : Option (List ℕ)) (result : Result A WriteFailed) : Type 0 where
  pub count : ℕ
  pub left : unsaid_messages pushed new ≡ drop count (unsaid_messages pushed old)
  pub sent : Sends before after (text_of (take count (unsaid_messages pushed old))) result

-- the same, and all else stays
pub record SaysOn {A : Type 0} (old new : Pushing) (before after : Option (List ℕ))
    (result : Result A WriteFailed) : Type 0 where
  pub kept : new ≡ record old { unsaid = new.unsaid }
  pub wrote : WritesOn old.pushed old.unsaid new.unsaid before after result
