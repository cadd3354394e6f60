-- What an admin reads, tells and answers, part by part: a line may have several commands.
use Rattle.std.specs.Prelude.{◌≡◌, ◌≢◌, ℕ, ◌⊎◌, ⊤, Bool, true, false, ◌&&◌, List, [], ◌∷◌}
use Rattle.std.specs.Prelude.{◌++◌, Option, None, Some, Ok, Err}
use Rattle.std.specs.Option.{option_to_list}
use Rattle.agg_types.specs.declared.event.What.{What}
use Rattle.fleet_model.specs.State.{State}
use Rattle.show_clear.specs.Answer.{IsAnswer}
use Rattle.show_clear.specs.Change.{asked_event}
use Rattle.show_clear.specs.Parse.{reading_of}
use Rattle.show_clear.specs.People.{IsPeoplesAnswer}
use Rattle.show_clear.specs.declared.command.Command.{Command}
use Rattle.show_clear.specs.declared.fault.CommandFault.TheVariants.{NoMemory}
use Rattle.show_clear.specs.declared.refused.Refused.{Refused}
use Rattle.hub.specs.History.{Beginning}
use Rattle.hub.specs.Posts.{Follows}
use Rattle.hub.specs.Views.{IsBookOf}
use Rattle.worker_frame.specs.declared.door.Door.{Door}
use Rattle.worker_frame.specs.declared.door.Door.TheVariants.{Programs, People}
use Rattle.worker_frame.specs.declared.served.Cause.{Cause}
use Rattle.worker_frame.specs.declared.served.Cause.TheVariants.{Read, Write, Session, Post, Look}
use Rattle.worker_frame.specs.declared.served.Faulted.{Faulted}
use Rattle.worker_frame.specs.declared.served.Served.{Served}
use Rattle.admin_worker.specs.declared.asked.Asked.{Asked}
use Rattle.admin_worker.specs.Framing.{HasNoEnd, is_end}
use Rattle.admin_worker.specs.Manners.{closing, first_manner, manner_behind, readers}
use Rattle.admin_worker.specs.declared.manner.Manner.{Manner}
use Rattle.admin_worker.specs.Status.{IsStatus, asked_in, is_blank, quits, refusal_at}
use Rattle.worker_frame.specs.Told.{IsServed, stored_of, ShowsTold}
use Rattle.worker_frame.specs.Traffic.{Advances, Traffic}

-- a command's answer: people are told as well how far off a filter's next change is
abbrev pub IsAnswerAt : Door → State → Command → List ℕ → Type 0
IsAnswerAt Programs book command answer = IsAnswer book command answer
IsAnswerAt People book command answer = IsPeoplesAnswer book command answer

-- a command's answer was put behind what was there
abbrev pub AnswersAt : Door → State → Command → List ℕ → List ℕ → Type 0
AnswersAt door book command old new =
    (answer : List ℕ) × (new ≡ old ++ answer) × IsAnswerAt door book command answer

-- the answer to a line's command, and what stands behind it
pub record AnswersWith (manner : Manner) (book : State) (line : List ℕ) (command : Command)
    (text : List ℕ) : Type 0 where
  pub answer : List ℕ
  pub is : IsAnswerAt (readers manner) book command answer
  pub ends : text ≡ answer ++ closing manner line

-- a line says a command, whose change is asked for and whose answer is the text
pub record IsObeyed (manner : Manner) (book : State) (line : List ℕ) (change : Option What)
    (text : List ℕ)
    : Type 0 where
  pub command : Command
  pub says : reading_of book line ≡ Ok command
  pub asks : change ≡ asked_event command
  pub answers : AnswersWith manner book line command text

-- a line is refused and asks for no change: the text tells its first fault, or that an allocation
-- failed as it was read, and what stands behind that
pub record IsRefusedLine (manner : Manner) (book : State) (line : List ℕ)
    (change : Option What) (text : List ℕ)
    : Type 0 where
  pub refused : Refused
  pub says : refused.fault ≢ NoMemory → reading_of book line ≡ Err refused
  pub none : change ≡ None
  pub tells : text ≡ refusal_at (readers manner) book line refused ++ closing manner line

-- a line that asks for no command on the book asks for no change: the text is the answer to what it
-- asks for, and what stands behind it
pub record IsTold (manner : Manner) (book : State) (line : List ℕ) (asked : Asked)
    (change : Option What) (text : List ℕ) : Type 0 where
  pub answer : List ℕ
  pub is : IsStatus (readers manner) book line asked answer
  pub none : change ≡ None
  pub ends : text ≡ answer ++ closing manner line

-- what a line is answered that asks for this; for nothing, it is a command on the book
abbrev pub RepliesTo : Manner → Option Asked → State → List ℕ → Option What → List ℕ → Type 0
RepliesTo manner None book line change text =
    IsObeyed manner book line change text ⊎ IsRefusedLine manner book line change text
RepliesTo manner (Some asked) book line change text = IsTold manner book line asked change text

-- what a line is answered over a book, and what it changes
abbrev pub Replies : Manner → State → List ℕ → Option What → List ℕ → Type 0
Replies manner book line change text =
    RepliesTo manner (asked_in book.config line) book line change text

-- a part of a line without its end, what it changed if it asked for a change, the text that answers
-- it, and the list whose book answered
pub record Reply : Type 0 where
  pub line : List ℕ
  pub change : Option What
  pub text : List ℕ
  pub seen : Beginning

-- a command that doesn't ask to quit is answered over the book of a list that begins with an
-- earlier one, and shows all that its seat told before
pub record IsReply (manner : Manner) (since : Beginning) (seat : ℕ) (told : List What)
    (reply : Reply) : Type 0 where
  pub stays : quits reply.line ≡ false
  pub follows : Follows since reply.seen
  pub shows : ShowsTold seat told reply.seen
  pub book : State
  pub stands : IsBookOf book reply.seen
  pub says : Replies manner book reply.line reply.change reply.text

-- nothing is changed nor answered
pub record IsSilent (since : Beginning) (reply : Reply) : Type 0 where
  pub none : reply.change ≡ None
  pub silent : reply.text ≡ []
  pub same : reply.seen ≡ since

-- what a part is answered: nothing, or as a command is
abbrev pub RepliesIf : Bool → Manner → Beginning → ℕ → List What → Reply → Type 0
RepliesIf true manner since seat told reply = IsSilent since reply
RepliesIf false manner since seat told reply = IsReply manner since seat told reply

-- a part that ended: its reply, and the byte that ends it
pub record Part : Type 0 where
  pub reply : Reply
  pub end : ℕ

-- a blank part behind `;` is no command
abbrev pub is_silent : Bool → List ℕ → Bool
is_silent behind line = behind && is_blank line

-- what stands between two ends, behind `;` or not, has its reply
pub record IsPart (manner : Manner) (since : Beginning) (seat : ℕ) (told : List What)
    (part : Part) : Type 0 where
  pub whole : HasNoEnd part.reply.line
  pub ends : is_end part.end ≡ true
  pub says : RepliesIf (is_silent manner.behind part.reply.line) manner since seat told part.reply

-- the parts that were answered, of which the newest is first, each with its end
abbrev pub lines_in : List Part → List ℕ
lines_in [] = []
lines_in (part ∷ earlier) = lines_in earlier ++ (part.reply.line ++ part.end ∷ [])

-- what they changed
abbrev pub changes_in : List Part → List What
changes_in [] = []
changes_in (part ∷ earlier) = changes_in earlier ++ option_to_list part.reply.change

-- what they were answered
abbrev pub texts_in : List Part → List ℕ
texts_in [] = []
texts_in (part ∷ earlier) = texts_in earlier ++ part.reply.text

-- the list that the newest reply is of, and the hub's before the first
abbrev pub seen_by : Beginning → List Part → Beginning
seen_by hub [] = hub
seen_by hub (part ∷ earlier) = part.reply.seen

-- how the next part is answered: by the `prompt`s before it, and behind `;` or not
abbrev pub manner_of : Door → List Part → Manner
manner_of door [] = first_manner door
manner_of door (part ∷ earlier) = manner_behind (manner_of door earlier) part.reply.line part.end

-- each part was answered behind what those before it changed and asked for; their lists begin with
-- one another
abbrev pub AreReplies : Door → Beginning → ℕ → List Part → Type 0
AreReplies door hub seat [] = ⊤
AreReplies door hub seat (part ∷ earlier) =
    IsPart (manner_of door earlier) (seen_by hub earlier) seat (changes_in earlier) part
    × AreReplies door hub seat earlier

-- all parts that ended were answered, and what they changed was told; one that hasn't ended is
-- dropped
pub record AllAnswered (door : Door) (hub : Beginning) (seat : ℕ) (Told : List What → ℕ → Type 0)
    (bytes written : List ℕ) : Type 0 where
  pub parts : List Part
  pub line : List ℕ
  pub are : AreReplies door hub seat parts
  pub read : bytes ≡ lines_in parts ++ line
  pub unended : HasNoEnd line
  pub told : Told (changes_in parts) 0
  pub answered : written ≡ texts_in parts

-- all parts before the first that asks to quit were answered, and what they changed was told; that
-- one and what follows it are dropped
pub record AnsweredToQuit (door : Door) (hub : Beginning) (seat : ℕ) (Told : List What → ℕ → Type 0)
    (bytes written : List ℕ) : Type 0 where
  pub parts : List Part
  pub line : List ℕ
  pub later : List ℕ
  pub are : AreReplies door hub seat parts
  pub end : ℕ
  pub read : bytes ≡ lines_in parts ++ (line ++ end ∷ later)
  pub whole : HasNoEnd line
  pub ends : is_end end ≡ true
  pub leaves : quits line ≡ true
  pub told : Told (changes_in parts) 0
  pub answered : written ≡ texts_in parts

-- the first parts were answered, and what they changed was told; but of the last one's answer only
-- a beginning was written
pub record LastCutShort (door : Door) (hub : Beginning) (seat : ℕ) (Told : List What → ℕ → Type 0)
    (bytes written : List ℕ) : Type 0 where
  pub parts : List Part
  pub last : Part
  pub later : List ℕ
  pub front : List ℕ
  pub rest : List ℕ
  pub are : AreReplies door hub seat (last ∷ parts)
  pub read : bytes ≡ lines_in (last ∷ parts) ++ later
  pub told : Told (changes_in (last ∷ parts)) 0
  pub text : last.reply.text ≡ front ++ rest
  pub answered : written ≡ texts_in parts ++ front

-- the first parts were answered, and what they changed was told; of the later ones nothing was told
-- nor answered, and so many events are stored all the same
pub record LaterRefused (door : Door) (hub : Beginning) (seat : ℕ) (Told : List What → ℕ → Type 0)
    (bytes written : List ℕ) (stored : ℕ) : Type 0 where
  pub parts : List Part
  pub later : List ℕ
  pub are : AreReplies door hub seat parts
  pub read : bytes ≡ lines_in parts ++ later
  pub told : Told (changes_in parts) stored
  pub answered : written ≡ texts_in parts

-- how an admin ends that read and wrote these bytes
abbrev pub EndsCommands : Door → Beginning → ℕ → (List What → ℕ → Type 0) → List ℕ → List ℕ → Cause
    → Type 0
EndsCommands door hub seat Told bytes written Read = AllAnswered door hub seat Told bytes written
EndsCommands door hub seat Told bytes written Write = LastCutShort door hub seat Told bytes written
EndsCommands door hub seat Told bytes written (Session cause) = ⊥
EndsCommands door hub seat Told bytes written (Post fault) =
    LaterRefused door hub seat Told bytes written (stored_of fault 1)
EndsCommands door hub seat Told bytes written Look = LaterRefused door hub seat Told bytes written 0

-- how an admin was served at Ok: all parts that its source gave were answered, or all before the
-- first that asks to quit
pub record IsCommandedWhole (door : Door) (hub : Beginning) (seat : ℕ)
    (start now : Traffic) (served : Served) : Type 0 where
  pub bytes : List ℕ
  pub written : List ℕ
  pub carried : Advances start now bytes written
  pub ends : AllAnswered door hub seat (λ whats waiting. IsServed hub seat whats waiting served)
      bytes
      written
      ⊎ AnsweredToQuit door hub seat (λ whats waiting. IsServed hub seat whats waiting served) bytes
      written

-- how an admin was served that ended for a cause
pub record IsCommandedUntil (door : Door) (hub : Beginning) (seat : ℕ)
    (start now : Traffic) (faulted : Faulted) : Type 0 where
  pub bytes : List ℕ
  pub written : List ℕ
  pub carried : Advances start now bytes written
  pub ends : EndsCommands door hub seat (λ whats waiting. IsServed hub seat whats waiting
      faulted.served)
      bytes written faulted.cause
