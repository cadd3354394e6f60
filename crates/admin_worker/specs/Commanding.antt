-- An admin at work.
use Rattle.std.specs.Prelude.{◌≡◌, ◌⊎◌, ℕ, ◌==◌, Bool, true, false, not, List, [], ◌++◌, drop, find}
use Rattle.std.specs.Prelude.{take, Option, Some, None, Result, Ok, Err}
use Rattle.std.specs.Io.KnownBytes.{Appends}
use Rattle.std.specs.Option.{option_to_list}
use Rattle.agg_types.specs.declared.event.What.{What}
use Rattle.agg_types.specs.declared.limits.TheConstants.{LONGEST_COMMAND_LINE}
use Rattle.agg_types.specs.declared.no_memory.NoMemory.{NoMemory}
use Rattle.hub.specs.declared.faults.PostFault.{PostFault}
use Rattle.hub.specs.History.{Beginning}
use Rattle.hub.specs.Posts.{Follows}
use Rattle.admin_worker.specs.declared.answering.Answered.{Answered}
use Rattle.admin_worker.specs.declared.manner.Manner.{Manner}
use Rattle.admin_worker.specs.declared.worker.AdminWorker.{AdminWorker}
use Rattle.worker_frame.specs.declared.door.Door.{Door}
use Rattle.admin_worker.specs.declared.faults.LineFault.{LineFault}
use Rattle.admin_worker.specs.declared.faults.LineFault.TheVariants.{Write, Post, Look}
use Rattle.worker_frame.specs.declared.served.Cause.{Cause}
use Rattle.admin_worker.specs.Commands.{AnsweredToQuit, AreReplies, EndsCommands, IsReply, Part}
use Rattle.admin_worker.specs.Commands.{RepliesIf, Reply, changes_in, lines_in, manner_of, seen_by}
use Rattle.admin_worker.specs.Commands.{texts_in}
use Rattle.admin_worker.specs.Framing.{HasNoEnd}
use Rattle.worker_frame.specs.Told.{ShowsTold, HasTold, stored_of}
use Rattle.admin_worker.specs.Faults.{cause_of_line}
use Rattle.worker_frame.specs.Traffic.{Advances, Traffic, so_far}
use Rattle.worker_frame.specs.Writing.{WroteFront}

-- the first byte that is no CR, if there is one
abbrev pub text_byte : List ℕ → Option ℕ
text_byte bytes = find (λ byte. not (byte == 13)) bytes

-- what is kept of a line: as many bytes as a command may have, and the first behind them that is
-- no CR, which shows that it is too long
abbrev pub kept_of : List ℕ → List ℕ
kept_of line =
    take LONGEST_COMMAND_LINE line ++ option_to_list (text_byte (drop LONGEST_COMMAND_LINE line))

-- this was told at a seat, and what its lens has seen shows it, and begins with an earlier list
pub record HasLearned (hub since : Beginning) (seat : ℕ) (worker : AdminWorker) (whats : List What)
    : Type 0 where
  pub at : worker.poster.pass.seat ≡ seat
  pub sees : Follows since worker.lens.seen
  pub told : HasTold hub worker.poster whats 0
  pub shows : ShowsTold seat whats worker.lens.seen

-- its pass and its lens are of this hub
pub record IsAtHub (hub : Beginning) (worker : AdminWorker) : Type 0 where
  pub of : worker.poster.pass.seen.of ≡ hub.of
  pub lens : Follows hub worker.lens.seen

-- each step keeps it at its hub and at its seat
pub record KeepsPoster (hub : Beginning) (old new : AdminWorker) : Type 0 where
  pub of : new.poster.pass.seen.of ≡ hub.of
  pub lens : Follows hub new.lens.seen
  pub seat : new.poster.pass.seat ≡ old.poster.pass.seat

-- a line's reply
abbrev pub reply_of : List ℕ → Option What → List ℕ → Beginning → Reply
reply_of line change text seen =
    record { line = line; change = change; text = text; seen = seen }

-- a line is answered over what its lens has seen
pub record HasLooked (manner : Manner) (hub since : Beginning) (seat : ℕ) (worker : AdminWorker)
    (whats : List What)
    (line : List ℕ) (answered : Answered) : Type 0 where
  pub learned : HasLearned hub worker.lens.seen seat worker whats
  pub is : IsReply manner since seat whats
      (reply_of line answered.change answered.text.items worker.lens.seen)

-- the same, else no copy could be entered, or an allocation failed, and no more was told
abbrev pub LooksTo : Manner → Beginning → Beginning → ℕ → AdminWorker → List What → List ℕ
    → Result (Option Answered) NoMemory → Type 0
LooksTo manner hub since seat worker whats line (Ok (Some answered)) =
    HasLooked manner hub since seat worker whats line answered
LooksTo manner hub since seat worker whats line (Ok None) = HasTold hub worker.poster whats 0
LooksTo manner hub since seat worker whats line (Err want) = HasTold hub worker.poster whats 0

-- what a line asks for is told behind what was told before it, and learned; or refused
abbrev pub ChangesTo : Beginning → Beginning → ℕ → AdminWorker → List What → List What
    → Result (Unit {0}) PostFault → Type 0
ChangesTo hub since seat worker whats batch (Ok done) =
    HasLearned hub since seat worker (whats ++ batch)
ChangesTo hub since seat worker whats batch (Err fault) =
    HasTold hub worker.poster whats (stored_of fault 1)

-- a part has a reply, silent or not, and what it asks for was told and learned
pub record HasObeyed (silent : Bool) (manner : Manner) (hub since : Beginning) (seat : ℕ)
    (worker : AdminWorker) (whats : List What)
    (line : List ℕ) (reply : Reply) : Type 0 where
  pub answers : reply.line ≡ line
  pub is : RepliesIf silent manner since seat whats reply
  pub learned : HasLearned hub reply.seen seat worker (whats ++ option_to_list reply.change)

-- its answer was written, or a beginning of it; or nothing of a part was told nor written
abbrev pub ObeysTo : Bool → Manner → Beginning → Beginning → ℕ → AdminWorker → List What → List ℕ
    → Option (List ℕ)
    → Option (List ℕ) → Result (Unit {0}) LineFault → Type 0
ObeysTo silent manner hub since seat worker whats line before after (Ok done) =
    (reply : Reply) × HasObeyed silent manner hub since seat worker whats line reply
    × Appends before after reply.text
ObeysTo silent manner hub since seat worker whats line before after (Err Write) =
    (reply : Reply) × HasObeyed silent manner hub since seat worker whats line reply
    × WroteFront before after reply.text
ObeysTo silent manner hub since seat worker whats line before after (Err (Post fault)) =
    HasTold hub worker.poster whats (stored_of fault 1) × Appends before after []
ObeysTo silent manner hub since seat worker whats line before after (Err Look) =
    HasTold hub worker.poster whats 0 × Appends before after []

-- an admin at work, with what its source gave and its writer took since it began; so many bytes of
-- a piece are left
pub record Works (door : Door) (hub : Beginning) (seat : ℕ) (worker : AdminWorker) (rest : List ℕ)
    (start now : Traffic) : Type 0 where
  pub parts : List Part
  pub line : List ℕ
  pub are : AreReplies door hub seat parts
  pub learned : HasLearned hub (seen_by hub parts) seat worker (changes_in parts)
  pub keeps : worker.line.bytes.items ≡ kept_of line
  pub manner : worker.manner ≡ manner_of door parts
  pub unended : HasNoEnd line
  pub carried : Advances start now (lines_in parts ++ (line ++ rest)) (texts_in parts)

-- it has ended for this cause
pub record Stops (door : Door) (hub : Beginning) (seat : ℕ) (worker : AdminWorker)
    (start now : Traffic) (cause : Cause) : Type 0 where
  pub bytes : List ℕ
  pub written : List ℕ
  pub carried : Advances start now bytes written
  pub ends : EndsCommands door hub seat (HasTold hub worker.poster) bytes written cause

-- a line asked to quit
pub record HasQuit (door : Door) (hub : Beginning) (seat : ℕ) (worker : AdminWorker)
    (start now : Traffic)
    : Type 0 where
  pub bytes : List ℕ
  pub written : List ℕ
  pub carried : Advances start now bytes written
  pub ends : AnsweredToQuit door hub seat (HasTold hub worker.poster) bytes written

-- it has done all that it read asks for, up to a line that asks to quit if there is one
abbrev pub IsDone : Door → Beginning → ℕ → AdminWorker → Traffic → Traffic → Type 0
IsDone door hub seat worker start now =
    Works door hub seat worker [] start now ⊎ HasQuit door hub seat worker start now

-- it works on, or is done
abbrev pub WorksIf : Door → Bool → Beginning → ℕ → AdminWorker → List ℕ → Traffic → Traffic → Type 0
WorksIf door true hub seat worker rest start now = Works door hub seat worker rest start now
WorksIf door false hub seat worker rest start now = IsDone door hub seat worker start now

-- it works on, is done, or has ended for a cause
abbrev pub WorksOn : Door → Beginning → ℕ → AdminWorker → List ℕ → Traffic → Traffic
    → Result Bool Cause → Type 0
WorksOn door hub seat worker rest start now (Ok goes) =
    WorksIf door goes hub seat worker rest start now
WorksOn door hub seat worker rest start now (Err cause) =
    Stops door hub seat worker start now cause

-- the same after a step, which can't fail for every cause
abbrev pub GoesOn : Door → Beginning → ℕ → AdminWorker → List ℕ → Traffic → Traffic
    → Result Bool LineFault
    → Type 0
GoesOn door hub seat worker rest start now (Ok goes) =
    WorksIf door goes hub seat worker rest start now
GoesOn door hub seat worker rest start now (Err fault) =
    Stops door hub seat worker start now (cause_of_line fault)

-- it is done, or has ended for a cause
abbrev pub RunsOut : Door → Beginning → ℕ → AdminWorker → Traffic → Traffic
    → Result (Unit {0}) Cause → Type 0
RunsOut door hub seat worker start now (Ok done) = IsDone door hub seat worker start now
RunsOut door hub seat worker start now (Err cause) = Stops door hub seat worker start now cause

-- a step that takes bytes which were read, and leaves some of them, at whatever door, and whatever
-- was read and written before
abbrev pub Takes : Beginning → AdminWorker → AdminWorker → List ℕ → List ℕ
    → Option (List ℕ) → Option (List ℕ) → Result Bool LineFault → Type 0
Takes hub old new bytes rest before after result =
    (door : Door) (seat : ℕ) (start : Traffic) (given : Option (List ℕ))
    → Works door hub seat old bytes start (so_far given before)
    → GoesOn door hub seat new rest start (so_far given after) result
