-- What lies under the lock, and what whoever publishes has.
use Rattle.std.specs.Prelude.{◌≡◌, Bool, false, List, ◌++◌, Option, MatchOption}
use Rattle.logbook.specs.Pages.{Book}
use Rattle.hub.specs.History.{Beginning}
use Rattle.hub.specs.Copied.{Brought, Copied, all_taken, whole}
use Rattle.hub.specs.Roll.{Counted, IsCountOf}

-- the whole history, the list that is shown, whether the last showing was refused, and what is
-- counted
pub record Kept : Type 0 where
  pub all : Beginning
  pub shown : Beginning
  pub stuck : Bool
  pub roll : Counted

-- what the press took, and the copy that is shown
pub record Pressed : Type 0 where
  pub taken : Beginning
  pub shown : Copied

-- a view that was told of this log
abbrev pub IsTold : Book → Option Beginning → Type 0
IsTold book view = MatchOption view ⊥ (λ told. told.of ≡ book)

-- what was appended since brings what the press took to the whole history
pub record IsDesked (book : Book) (from : Beginning) (queue : List Brought)
    (all shown : Beginning) (roll : Counted) : Type 0 where
  pub named : all.of ≡ book
  pub from_named : from.of ≡ book
  pub shown_named : shown.of ≡ book
  pub brings : all_taken (whole from) queue ≡ whole all
  pub counted : IsCountOf roll all

-- what readers lack brings the copy that is shown to all that the press took
pub record IsPressed (book : Book) (shown : Copied) (view : Option Beginning)
    (pending queue : List Brought) (taken : Beginning) : Type 0 where
  pub named : taken.of ≡ book
  pub shown_named : shown.at.of ≡ book
  pub told : IsTold book view
  pub brings : all_taken shown (pending ++ queue) ≡ whole taken

-- a press that lies under the lock: it took what the desk says, what is shown is its copy, and that
-- has all of it unless the last showing was refused
pub record IsRested (from shown : Beginning) (stuck : Bool) (press : Pressed) : Type 0 where
  pub taken : press.taken ≡ from
  pub shows : press.shown.at ≡ shown
  pub whole_is : stuck ≡ false → press.shown ≡ whole press.taken
