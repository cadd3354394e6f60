-- An admin at work: how it goes on, and how it stops.
use Rattle.std.proofs.Common.{◌≡◌, Bool, true, false, ℕ, inl, inr, List, [], ◌∷◌, ◌++◌, Option}
use Rattle.std.proofs.Common.{None, Some, Err, IfSome, codes, refl, sym, ap, ◌∙◌, subst, append-nil}
use Rattle.std.proofs.Common.{append_assoc, Ok, Result}
use Rattle.std.specs.Io.KnownBytes.{Appends}
use Rattle.std.specs.Option.{option_to_list}
use Rattle.agg_types.specs.Fits.{fits}
use Rattle.agg_types.specs.declared.config.Config.{Config}
use Rattle.agg_types.specs.declared.event.What.{What}
use Rattle.fleet_model.specs.State.{IsStateOf, State}
use Rattle.show_clear.specs.Change.{ChangeFits, asked_event}
use Rattle.show_clear.specs.declared.command.Command.{Command}
use Rattle.show_clear.specs.declared.command.Change.TheVariants.{Clear, AddFilter, DropFilter}
use Rattle.show_clear.specs.declared.command.Command.TheVariants.{Ask, Change as Changes}
use Rattle.hub.proofs.Showing.{later_on}
use Rattle.hub.proofs.Rolling.{fits_at}
use Rattle.hub.specs.History.{Beginning}
use Rattle.hub.specs.Posts.{Follows}
use Rattle.hub.specs.Roll.{MayPost}
use Rattle.hub.specs.Views.{IsBookOf}
use Rattle.hub.specs.declared.faults.PostFault.{PostFault}
use Rattle.worker_frame.proofs.Later.{follows_self, shows_last, shows_on}
use Rattle.admin_worker.proofs.Kept.{kept_asks, kept_closing, kept_says, kept_tells}
use Rattle.admin_worker.proofs.Framed.{none_in_both}
use Rattle.worker_frame.proofs.Sent.{wrote_more, wrote_none}
use Rattle.admin_worker.specs.Commands.{AllAnswered, AnsweredToQuit, EndsCommands, IsCommandedUntil}
use Rattle.admin_worker.specs.Commands.{RepliesTo, IsCommandedWhole, IsPart, IsReply, LastCutShort}
use Rattle.admin_worker.specs.Commands.{LaterRefused, Part, Replies, RepliesIf, Reply, changes_in}
use Rattle.admin_worker.specs.Commands.{is_silent, lines_in, manner_of, seen_by, texts_in}
use Rattle.admin_worker.specs.Manners.{closing, first_manner, manner_behind, readers}
use Rattle.admin_worker.specs.declared.manner.Manner.{Manner}
use Rattle.admin_worker.specs.Framing.{HasNoEnd, is_end}
use Rattle.worker_frame.specs.Told.{ShowsTold, HasTold, IsServed, stored_of}
use Rattle.admin_worker.specs.Commanding.{HasLearned, HasLooked, HasObeyed, HasQuit, IsDone}
use Rattle.admin_worker.specs.Commanding.{ObeysTo, Stops, Works, WorksIf, kept_of, reply_of}
use Rattle.admin_worker.specs.Faults.{cause_of_line}
use Rattle.admin_worker.specs.Status.{IsStatus, asked_in, no_peer, quits, refusal_at}
use Rattle.worker_frame.specs.Traffic.{Traffic, so_far}
use Rattle.worker_frame.specs.Writing.{WroteFront}
use Rattle.admin_worker.specs.declared.answering.Answered.{Answered}
use Rattle.admin_worker.specs.declared.worker.AdminWorker.{AdminWorker}
use Rattle.worker_frame.specs.declared.poster.Poster.{Poster}
use Rattle.admin_worker.specs.declared.faults.LineFault.{LineFault}
use Rattle.admin_worker.specs.declared.faults.LineFault.TheVariants as faults
use Rattle.worker_frame.specs.declared.served.Cause.{Cause}
use Rattle.worker_frame.specs.declared.served.Cause.TheVariants.{Read, Write, Session, Post, Look}
use Rattle.worker_frame.specs.declared.served.Faulted.{Faulted}
use Rattle.worker_frame.specs.declared.served.Served.{Served}
use Rattle.worker_frame.specs.declared.door.Door.{Door}
use Rattle.admin_worker.specs.declared.asked.Asked.{Asked}
use Rattle.admin_worker.specs.declared.asked.Asked.TheVariants as asks

-- ---- what may be posted

pub asked_may_post : (book : State) (command : Command) → ChangeFits book command
    → IfSome (asked_event command) (MayPost book.config)
asked_may_post book (Ask question) fit = tt
asked_may_post book (Changes (Clear table sel)) fit = record {
  fits = fit;
  sits = refl;
  leaves = refl;
}
asked_may_post book (Changes (AddFilter filter)) fit = record {
  fits = fit;
  sits = refl;
  leaves = refl;
}
asked_may_post book (Changes (DropFilter name)) fit = record {
  fits = fit;
  sits = refl;
  leaves = refl;
}

may_post_at : (hub seen : Beginning) (book : State) (what : What) → Follows hub seen
    → IsBookOf book seen → MayPost book.config what → MayPost hub.config what
unfolding IsStateOf
may_post_at hub seen book what follows stands may =
    let config : seen.config ≡ hub.config = ap (λ (b : Beginning). b.config) follows.same in
    let same : fits book.config what ≡ fits hub.config what =
    ap (λ (s : State). fits s.config what) stands
    ∙ (fits_at seen what ∙ ap (λ (c : Config). fits c what) config) in record {
      fits = sym same ∙ may.fits;
      sits = may.sits;
      leaves = may.leaves;
    }

-- what fits a book that the hub showed may be posted to the hub
pub change_may_post : (hub seen : Beginning) (book : State) (change : Option What)
    → Follows hub seen → IsBookOf book seen
    → IfSome change (MayPost book.config) → IfSome change (MayPost hub.config)
change_may_post hub seen book None follows stands may = tt
change_may_post hub seen book (Some what) follows stands may =
    may_post_at hub seen book what follows stands may

-- ---- an admin's poster and lens

-- nothing was told
pub learned_none : (hub : Beginning) (seat : ℕ) (worker : AdminWorker)
    → worker.poster.pass.seat ≡ seat → Follows hub worker.lens.seen
    → HasTold hub worker.poster [] 0 → HasLearned hub hub seat worker []
learned_none hub seat worker at sees told = record {
  at = at;
  sees = sees;
  told = told;
  shows =
      λ some. absurd (some refl);
}

-- its lens has seen more
pub learned_later : (hub since : Beginning) (seat : ℕ) (old new : AdminWorker) (whats : List What)
    → new.poster ≡ old.poster
    → Follows old.lens.seen new.lens.seen → HasLearned hub since seat old whats
    → HasLearned hub since seat new whats
learned_later hub since seat old new whats poster later learned = record {
  at = ap (λ (d : Poster). d.pass.seat) poster ∙ learned.at;
  sees = later_on since old.lens.seen new.lens.seen learned.sees later;
  told = subst (λ (d : Poster). HasTold hub d whats 0) (sym poster) learned.told;
  shows = shows_on seat whats old.lens.seen new.lens.seen learned.shows later;
}

pub learned_same : (hub since : Beginning) (seat : ℕ) (old new : AdminWorker) (whats : List What)
    → new.poster ≡ old.poster
    → new.lens.seen ≡ old.lens.seen → HasLearned hub since seat old whats
    → HasLearned hub since seat new whats
learned_same hub since seat old new whats poster lens learned =
    learned_later hub since seat old new whats poster
    (subst (λ (b : Beginning). Follows old.lens.seen b) (sym lens) (follows_self old.lens.seen))
    learned

-- what its lens has seen begins with itself
learned_here : (hub since : Beginning) (seat : ℕ) (worker : AdminWorker) (whats : List What)
    → HasLearned hub since seat worker whats → HasLearned hub worker.lens.seen seat worker whats
learned_here hub since seat worker whats learned = record {
  at = learned.at;
  sees = follows_self worker.lens.seen;
  told = learned.told;
  shows = learned.shows;
}

-- what was told is learned
pub learned_more : (hub since : Beginning) (seat : ℕ) (old new : AdminWorker) (whats : List What)
    → new.poster.pass.seat ≡ seat
    → Follows since old.lens.seen → Follows old.lens.seen new.lens.seen
    → HasTold hub new.poster whats 0
    → IfSome new.poster.last (λ list. Follows list new.lens.seen)
    → HasLearned hub since seat new whats
learned_more hub since seat old new whats at sees kept told learned = record {
  at = at;
  sees = later_on since old.lens.seen new.lens.seen sees kept;
  told = told;
  shows = subst (λ (s : ℕ). ShowsTold s whats new.lens.seen) at
      (shows_last new.poster.pass.seat whats new.poster.last new.lens.seen told.last learned);
}

-- what is told of a line stands in what is kept of it
status_kept : (door : Door) (asked : Asked) (book : State) (line answer : List ℕ)
    → IsStatus door book (kept_of line) asked answer → IsStatus door book line asked answer
status_kept door (asks.Status status) book line answer is = is
status_kept door asks.Config book line answer is = is
status_kept door asks.Filters book line answer is = is
status_kept door asks.Ranks book line answer is = is
status_kept door asks.Prompt book line answer is = is
status_kept door asks.NoPeer book line answer is = is ∙ kept_tells door book line no_peer

-- what stands behind a text
closes : (manner : Manner) (line text answer : List ℕ)
    → text ≡ answer ++ closing manner (kept_of line) → text ≡ answer ++ closing manner line
closes manner line text answer ends = ends ∙ ap (λ xs. answer ++ xs) (kept_closing manner line)

-- what a line is answered that asks for this
replied_to : (manner : Manner) (asked : Option Asked) (book : State) (line : List ℕ)
    (change : Option What) (text : List ℕ) → RepliesTo manner asked book (kept_of line) change text
    → RepliesTo manner asked book line change text
replied_to manner (Some asked) book line change text says = record {
  answer = says.answer;
  is = status_kept (readers manner) asked book line says.answer says.is;
  none = says.none;
  ends = closes manner line text says.answer says.ends;
}
replied_to manner None book line change text says =
    elim says [
      | inl is ↦ inl (record {
        command = is.command;
        says = sym (kept_says book line)
            ∙ is.says;
        asks = is.asks;
        answers = record {
          answer = is.answers.answer;
          is = is.answers.is;
          ends = closes manner line text is.answers.answer is.answers.ends;
        };
      })
      | inr refusal ↦ inr (record {
        refused = refusal.refused;
        says = λ other. sym (kept_says book line)
            ∙ refusal.says other;
        none = refusal.none;
        tells = closes manner line text
            (refusal_at (readers manner) book (kept_of line) refusal.refused) refusal.tells
            ∙ ap (λ told. told ++ closing manner line)
            (kept_tells (readers manner) book line refusal.refused);
      })
    ]

replied_kept : (manner : Manner) (book : State) (line : List ℕ) (change : Option What)
    (text : List ℕ) → Replies manner book (kept_of line) change text
    → Replies manner book line change text
replied_kept manner book line change text says =
    replied_to manner (asked_in book.config line) book line change text
    (subst (λ (asked : Option Asked). RepliesTo manner asked book (kept_of line) change text)
    (kept_asks book.config line) says)

-- a line that was answered over a look
pub looked : {manner : Manner} (hub since : Beginning) (seat : ℕ) (old new : AdminWorker)
    (whats : List What)
    (line : List ℕ) (book : State) (answered : Answered) (seen : Beginning)
    → new.poster ≡ old.poster → new.lens.seen ≡ seen → Follows old.lens.seen seen
    → IsBookOf book seen
    → Replies manner book (kept_of line) answered.change answered.text.items → quits line ≡ false
    → HasLearned hub since seat old whats
    → HasLooked manner hub since seat new whats line answered
looked {manner} hub since seat old new whats line book answered seen poster same later stands says
    stays learned =
    let now : HasLearned hub since seat new whats =
    learned_later hub since seat old new whats poster
    (subst (λ (b : Beginning). Follows old.lens.seen b) (sym same) later) learned in record {
      learned = learned_here hub since seat new whats now;
      is = record {
        stays = stays;
        follows = now.sees;
        shows = now.shows;
        book = book;
        stands = subst (λ (b : Beginning). IsBookOf book b) (sym same) stands;
        says = replied_kept manner book line answered.change answered.text.items says;
      };
    }

-- ---- bytes and lines

-- a part that ended, with its reply
abbrev part_of : Reply → ℕ → Part
part_of reply end = record { reply = reply; end = end }

-- a part that ends is no longer at the end of what was read
line_ends : (earlier : List Part) (reply : Reply) (line bytes rest : List ℕ) (end : ℕ)
    → reply.line ≡ line ++ bytes
    → lines_in earlier ++ (line ++ (bytes ++ end ∷ rest))
    ≡ lines_in (part_of reply end ∷ earlier) ++ rest
line_ends earlier reply line bytes rest end is =
    ap (λ xs. lines_in earlier ++ xs) (sym (append_assoc line bytes (end ∷ rest))
    ∙ (ap (λ l. l ++ end ∷ rest) (sym is) ∙ sym (append_assoc reply.line (end ∷ []) rest)))
    ∙ sym (append_assoc (lines_in earlier) (reply.line ++ end ∷ []) rest)

-- nothing of what was read is left
none_left : (earlier : List Part) (line : List ℕ) → lines_in earlier ++ (line ++ [])
    ≡ lines_in earlier ++ line
none_left earlier line = ap (λ xs. lines_in earlier ++ xs) (append-nil line)

line_goes_on : (earlier : List Part) (line rest : List ℕ) → lines_in earlier ++ (line ++ rest)
    ≡ lines_in earlier ++ ((line ++ rest) ++ [])
line_goes_on earlier line rest = ap (λ xs. lines_in earlier ++ xs) (sym (append-nil (line ++ rest)))

-- ---- an admin at work

-- nothing of the later lines was told nor answered
pub stops_refused : {door : Door} (hub : Beginning) (seat : ℕ) (old new : AdminWorker)
    (rest : List ℕ)
    (start : Traffic) (given before after : Option (List ℕ)) (fault : PostFault)
    → (w : Works door hub seat old rest start (so_far given before))
    → HasTold hub new.poster (changes_in w.parts) (stored_of fault 1)
    → Appends before after [] → Stops door hub seat new start (so_far given after) (Post fault)
stops_refused hub seat old new rest start given before after fault w told none = record {
  bytes = lines_in w.parts ++ (w.line ++ rest);
  written = texts_in w.parts;
  carried = record {
    gave = w.carried.gave;
    took = subst (λ bytes. Appends start.taken after bytes) (append-nil (texts_in w.parts))
        (wrote_more start.taken before after (texts_in w.parts) [] w.carried.took none);
  };
  ends = record {
    parts = w.parts;
    later = w.line ++ rest;
    are = w.are;
    read = refl;
    told =
        told;
    answered = refl;
  };
}

pub stops_unseen : {door : Door} (hub : Beginning) (seat : ℕ) (old new : AdminWorker)
    (rest : List ℕ)
    (start : Traffic) (given before after : Option (List ℕ))
    → (w : Works door hub seat old rest start (so_far given before))
    → HasTold hub new.poster (changes_in w.parts) 0
    → Appends before after [] → Stops door hub seat new start (so_far given after) Look
stops_unseen hub seat old new rest start given before after w told none = record {
  bytes = lines_in w.parts ++ (w.line ++ rest);
  written = texts_in w.parts;
  carried = record {
    gave = w.carried.gave;
    took = subst (λ bytes. Appends start.taken after bytes) (append-nil (texts_in w.parts))
        (wrote_more start.taken before after (texts_in w.parts) [] w.carried.took none);
  };
  ends = record {
    parts = w.parts;
    later = w.line ++ rest;
    are = w.are;
    read = refl;
    told =
        told;
    answered = refl;
  };
}

-- a read failed
pub stops_failed : {door : Door} (hub : Beginning) (seat : ℕ) (worker : AdminWorker)
    (start now : Traffic)
    → Works door hub seat worker [] start now
    → Stops door hub seat worker start now Read
stops_failed hub seat worker start now w = record {
  bytes = lines_in w.parts ++ w.line;
  written = texts_in w.parts;
  carried = record {
    gave = subst (λ bytes. Appends start.given now.given bytes) (none_left w.parts w.line)
        w.carried.gave;
    took = w.carried.took;
  };
  ends = record {
    parts = w.parts;
    line = w.line;
    are = w.are;
    read = refl;
    unended = w.unended;
    told = w.learned.told;
    answered = refl;
  };
}

-- a piece was read
pub works_piece : {door : Door} (hub : Beginning) (seat : ℕ) (worker : AdminWorker) (piece : List ℕ)
    (start : Traffic) (given after taken : Option (List ℕ)) → Appends given after piece
    → Works door hub seat worker [] start (so_far given taken)
    → Works door hub seat worker piece start (so_far after taken)
works_piece hub seat worker piece start given after taken gives w = record {
  parts = w.parts;
  line = w.line;
  are = w.are;
  learned = w.learned;
  keeps = w.keeps;
  manner = w.manner;
  unended = w.unended;
  carried = record {
    gave = subst (λ bytes. Appends start.given after bytes)
        (ap (λ xs. xs ++ piece) (none_left w.parts w.line)
        ∙ append_assoc (lines_in w.parts) w.line piece)
        (wrote_more start.given given after (lines_in w.parts ++ (w.line ++ [])) piece
        w.carried.gave gives);
    took = w.carried.took;
  };
}

-- the same poster, lens, line and manner
pub works_alike : {door : Door} (hub : Beginning) (seat : ℕ) (old new : AdminWorker) (rest : List ℕ)
    (start now : Traffic) → new.poster ≡ old.poster
    → new.lens.seen ≡ old.lens.seen → new.line.bytes.items ≡ old.line.bytes.items
    → new.manner ≡ old.manner → Works door hub seat old rest start now
    → Works door hub seat new rest start now
works_alike hub seat old new rest start now poster lens line manner w = record {
  parts = w.parts;
  line = w.line;
  are = w.are;
  learned = learned_same hub (seen_by hub w.parts) seat old new (changes_in w.parts) poster lens
      w.learned;
  keeps = line ∙ w.keeps;
  manner = manner ∙ w.manner;
  unended = w.unended;
  carried = w.carried;
}

-- an admin that has read nothing
pub works_none : {door : Door} (hub : Beginning) (seat : ℕ) (worker : AdminWorker) (start : Traffic)
    → worker.line.bytes.items ≡ [] → worker.manner ≡ first_manner door
    → HasLearned hub hub seat worker [] → Works door hub seat worker [] start start
works_none hub seat worker start line manner learned = record {
  parts = [];
  line = [];
  are = tt;
  learned = learned;
  keeps = line;
  manner = manner;
  unended = refl;
  carried = record {
    gave = wrote_none start.given;
    took = wrote_none start.taken;
  };
}

-- bytes couldn't be kept
pub stops_unkept : {door : Door} (hub : Beginning) (seat : ℕ) (old new : AdminWorker)
    (rest : List ℕ)
    (start now : Traffic) (fault : PostFault)
    → new.poster ≡ old.poster → stored_of fault 1 ≡ 0
    → Works door hub seat old rest start now
    → Stops door hub seat new start now (Post fault)
stops_unkept hub seat old new rest start now fault poster none w =
    let told : HasTold hub new.poster (changes_in w.parts) 0 =
    subst (λ (d : Poster). HasTold hub d (changes_in w.parts) 0) (sym poster) w.learned.told in
    stops_refused hub seat old new rest start now.given now.taken now.taken fault w
    (subst (λ (n : ℕ). HasTold hub new.poster (changes_in w.parts) n) (sym none) told)
    (wrote_none now.taken)

-- bytes of a line that hasn't ended were kept
pub works_kept : {door : Door} (hub : Beginning) (seat : ℕ) (old new : AdminWorker) (rest : List ℕ)
    (start now : Traffic) → new.poster ≡ old.poster
    → new.lens.seen ≡ old.lens.seen → new.manner ≡ old.manner → HasNoEnd rest
    → ((line : List ℕ) → old.line.bytes.items ≡ kept_of line
    → new.line.bytes.items ≡ kept_of (line ++ rest))
    → Works door hub seat old rest start now
    → Works door hub seat new [] start now
works_kept hub seat old new rest start now poster lens manner whole keeps w = record {
  parts = w.parts;
  line = w.line ++ rest;
  are = w.are;
  learned = learned_same hub (seen_by hub w.parts) seat old new (changes_in w.parts) poster lens
      w.learned;
  keeps = keeps w.line w.keeps;
  manner = manner ∙ w.manner;
  unended = none_in_both w.line rest w.unended whole;
  carried = record {
    gave = subst (λ bytes. Appends start.given now.given bytes) (line_goes_on w.parts w.line rest)
        w.carried.gave;
    took = w.carried.took;
  };
}

-- a part that was obeyed behind others
is_part : (door : Door) (hub : Beginning) (seat : ℕ) (worker : AdminWorker) (parts : List Part)
    (line bytes : List ℕ) (end : ℕ) (reply : Reply) → HasNoEnd line → HasNoEnd bytes
    → is_end end ≡ true
    → HasObeyed (is_silent (manner_of door parts).behind (line ++ bytes)) (manner_of door parts)
    hub (seen_by hub parts) seat worker (changes_in parts) (line ++ bytes) reply
    → IsPart (manner_of door parts) (seen_by hub parts) seat (changes_in parts) (part_of reply end)
is_part door hub seat worker parts line bytes end reply unended whole ends obeyed = record {
  whole = subst (λ (l : List ℕ). HasNoEnd l) (sym obeyed.answers)
      (none_in_both line bytes unended whole);
  ends = ends;
  says = subst (λ (l : List ℕ). RepliesIf (is_silent (manner_of door parts).behind l)
      (manner_of door parts) (seen_by hub parts) seat (changes_in parts) reply)
      (sym obeyed.answers) obeyed.is;
}

-- a part that ended was obeyed, and the next one begins
pub works_obeyed : {door : Door} (hub : Beginning) (seat : ℕ) (old mid new : AdminWorker)
    (bytes rest : List ℕ) (end : ℕ)
    (start : Traffic) (given before after : Option (List ℕ))
    (reply : Reply) → new.poster ≡ mid.poster → new.lens.seen ≡ mid.lens.seen
    → new.line.bytes.items ≡ [] → HasNoEnd bytes → is_end end ≡ true
    → (w : Works door hub seat old (bytes ++ end ∷ rest) start (so_far given before))
    → new.manner ≡ manner_behind (manner_of door w.parts) (w.line ++ bytes) end
    → HasObeyed (is_silent (manner_of door w.parts).behind (w.line ++ bytes))
    (manner_of door w.parts) hub (seen_by hub w.parts)
    seat mid (changes_in w.parts) (w.line ++ bytes) reply
    → Appends before after reply.text
    → Works door hub seat new rest start (so_far given after)
works_obeyed {door} hub seat old mid new bytes rest end start given before after reply poster lens
    cleared whole ends w manner obeyed wrote = record {
      parts = part_of reply end ∷ w.parts;
      line = [];
      are = (
        is_part door hub seat mid w.parts w.line bytes end reply w.unended whole ends obeyed,
        w.are,
      );
      learned = learned_same hub reply.seen seat mid new
          (changes_in (part_of reply end ∷ w.parts)) poster lens obeyed.learned;
      keeps = cleared;
      manner = manner
          ∙ ap (λ (l : List ℕ). manner_behind (manner_of door w.parts) l end) (sym obeyed.answers);
      unended = refl;
      carried = record {
        gave = subst (λ xs. Appends start.given given xs)
            (line_ends w.parts reply w.line bytes rest end
            obeyed.answers) w.carried.gave;
        took = wrote_more start.taken before after (texts_in w.parts) reply.text
            w.carried.took wrote;
      };
    }

-- a part that ended asks to quit
pub has_quit : {door : Door} (hub : Beginning) (seat : ℕ) (old new : AdminWorker)
    (bytes rest : List ℕ) (end : ℕ)
    (start : Traffic) (given taken : Option (List ℕ)) → new.poster ≡ old.poster
    → HasNoEnd bytes → is_end end ≡ true
    → (w : Works door hub seat old (bytes ++ end ∷ rest) start (so_far given taken))
    → quits (w.line ++ bytes) ≡ true → HasQuit door hub seat new start (so_far given taken)
has_quit hub seat old new bytes rest end start given taken poster whole ends w leaves = record {
  bytes = lines_in w.parts ++ (w.line ++ (bytes ++ end ∷ rest));
  written = texts_in w.parts;
  carried = w.carried;
  ends = record {
    parts = w.parts;
    line = w.line ++ bytes;
    later = rest;
    are = w.are;
    end = end;
    read = ap (λ xs. lines_in w.parts ++ xs) (sym (append_assoc w.line bytes (end ∷ rest)));
    whole = none_in_both w.line bytes w.unended whole;
    ends = ends;
    leaves = leaves;
    told = subst (λ (d : Poster). HasTold hub d (changes_in w.parts) 0) (sym poster)
        w.learned.told;
    answered = refl;
  };
}

-- an admin that works on may end as well
pub works_if : {door : Door} (goes : Bool) (hub : Beginning) (seat : ℕ) (worker : AdminWorker)
    (start now : Traffic)
    → Works door hub seat worker [] start now → WorksIf door goes hub seat worker [] start now
works_if true hub seat worker start now w = w
works_if false hub seat worker start now w = inl w

-- of the answer only a beginning was written
pub stops_cut : {door : Door} (hub : Beginning) (seat : ℕ) (old new : AdminWorker)
    (bytes rest : List ℕ) (end : ℕ)
    (start : Traffic) (given before after : Option (List ℕ))
    (reply : Reply) → HasNoEnd bytes → is_end end ≡ true
    → (w : Works door hub seat old (bytes ++ end ∷ rest) start (so_far given before))
    → HasObeyed (is_silent (manner_of door w.parts).behind (w.line ++ bytes))
    (manner_of door w.parts) hub (seen_by hub w.parts)
    seat new (changes_in w.parts) (w.line ++ bytes) reply
    → WroteFront before after reply.text
    → Stops door hub seat new start (so_far given after) Write
stops_cut {door} hub seat old new bytes rest end start given before after reply whole ends w obeyed wrote =
    record {
      bytes = lines_in w.parts ++ (w.line ++ (bytes ++ end ∷ rest));
      written = texts_in w.parts ++ wrote.front;
      carried = record {
        gave = w.carried.gave;
        took = wrote_more start.taken before after (texts_in w.parts) wrote.front
            w.carried.took wrote.wrote;
      };
      ends = record {
        parts = w.parts;
        last = part_of reply end;
        later = rest;
        front = wrote.front;
        rest = wrote.rest;
        are = (
          is_part door hub seat new w.parts w.line bytes end reply w.unended whole ends obeyed,
          w.are,
        );
        read = line_ends w.parts reply w.line bytes rest end obeyed.answers;
        told = obeyed.learned.told;
        text = wrote.split;
        answered = refl;
      };
    }

-- a part that ended, at a fault
stops_at : {door : Door} (hub : Beginning) (seat : ℕ) (old new : AdminWorker)
    (bytes rest : List ℕ) (end : ℕ)
    (start : Traffic) (given before after : Option (List ℕ))
    (fault : LineFault) → HasNoEnd bytes → is_end end ≡ true
    → (w : Works door hub seat old (bytes ++ end ∷ rest) start (so_far given before))
    → ObeysTo (is_silent (manner_of door w.parts).behind (w.line ++ bytes))
    (manner_of door w.parts) hub (seen_by hub w.parts) seat
    new (changes_in w.parts) (w.line ++ bytes) before after (Err fault)
    → Stops door hub seat new start (so_far given after) (cause_of_line fault)
stops_at hub seat old new bytes rest end start given before after faults.Write whole ends w
    obeys =
    stops_cut hub seat old new bytes rest end start given before after obeys.0 whole ends w obeys.1
    obeys.2
stops_at hub seat old new bytes rest end start given before after (faults.Post fault) whole
    ends w obeys =
    stops_refused hub seat old new (bytes ++ end ∷ rest) start given before after fault w
    obeys.0 obeys.1
stops_at hub seat old new bytes rest end start given before after faults.Look whole ends w
    obeys =
    stops_unseen hub seat old new (bytes ++ end ∷ rest) start given before after w
    obeys.0 obeys.1

-- the same, where the admin knows how the part is answered
pub stops_obeying : {door : Door} (hub : Beginning) (seat : ℕ) (old new : AdminWorker)
    (bytes rest : List ℕ) (end : ℕ)
    (start : Traffic) (given before after : Option (List ℕ))
    (fault : LineFault) (manner : Manner) → HasNoEnd bytes → is_end end ≡ true
    → (w : Works door hub seat old (bytes ++ end ∷ rest) start (so_far given before))
    → manner ≡ manner_of door w.parts
    → ObeysTo (is_silent manner.behind (w.line ++ bytes)) manner hub (seen_by hub w.parts) seat
    new (changes_in w.parts) (w.line ++ bytes) before after (Err fault)
    → Stops door hub seat new start (so_far given after) (cause_of_line fault)
stops_obeying {door} hub seat old new bytes rest end start given before after fault manner whole
    ends w is obeys =
    stops_at hub seat old new bytes rest end start given before after fault whole ends w
    (subst (λ (m : Manner). ObeysTo (is_silent m.behind (w.line ++ bytes)) m hub
    (seen_by hub w.parts) seat new (changes_in w.parts) (w.line ++ bytes) before after (Err fault))
    is obeys)

-- ---- a line

-- a line at which an allocation failed, and of which nothing was told nor written
pub obeys_unlooked : (hub : Beginning) (poster : Poster) (whats : List What)
    (wrote : Option (List ℕ)) (fault : PostFault) → stored_of fault 1 ≡ 0
    → HasTold hub poster whats 0
    → HasTold hub poster whats (stored_of fault 1) × Appends wrote wrote []
obeys_unlooked hub poster whats wrote fault none told = (
  subst (λ (n : ℕ). HasTold hub poster whats n) (sym none) told,
  wrote_none wrote,
)

-- a line whose change was told
pub has_obeyed : {manner : Manner} (hub since : Beginning) (seat : ℕ) (worker : AdminWorker)
    (whats : List What)
    (line : List ℕ) (change : Option What) (text : List ℕ) (seen : Beginning)
    → IsReply manner since seat whats (reply_of line change text seen)
    → HasLearned hub seen seat worker (whats ++ option_to_list change)
    → HasObeyed false manner hub since seat worker whats line (reply_of line change text seen)
has_obeyed hub since seat worker whats line change text seen is learned =
    record { answers = refl; is = is; learned = learned }

-- nothing is asked for
pub changes_none : (hub since : Beginning) (seat : ℕ) (worker : AdminWorker) (whats : List What)
    → HasLearned hub since seat worker whats
    → HasLearned hub since seat worker (whats ++ [])
changes_none hub since seat worker whats learned =
    subst (λ (ws : List What). HasLearned hub since seat worker ws) (sym (append-nil whats)) learned

-- a part that asks for nothing, and whose answer is nothing
obeys_none : (manner : Manner) (hub since : Beginning) (seat : ℕ) (worker : AdminWorker)
    (whats : List What) (line : List ℕ) (wrote : Option (List ℕ))
    → HasLearned hub since seat worker whats
    → ObeysTo true manner hub since seat worker whats line wrote wrote (Ok (tt {0}))
obeys_none manner hub since seat worker whats line wrote learned = (
  reply_of line None [] since,
  record {
    answers = refl;
    is = record { none = refl; silent = refl; same = refl };
    learned = changes_none hub since seat worker whats learned;
  },
  wrote_none wrote,
)

pub obeys_silent : {manner : Manner} (silent : Bool) (hub since : Beginning) (seat : ℕ)
    (worker : AdminWorker) (whats : List What) (line : List ℕ) (wrote : Option (List ℕ))
    → silent ≡ true → HasLearned hub since seat worker whats
    → ObeysTo silent manner hub since seat worker whats line wrote wrote (Ok (tt {0}))
obeys_silent {manner} true hub since seat worker whats line wrote is learned =
    obeys_none manner hub since seat worker whats line wrote learned
obeys_silent false hub since seat worker whats line wrote is learned = absurd cc

pub obeys_loud : (manner : Manner) (silent : Bool) (hub since : Beginning) (seat : ℕ)
    (worker : AdminWorker) (whats : List What) (line : List ℕ) (before after : Option (List ℕ))
    (result : Result (Unit {0}) LineFault) → silent ≡ false
    → ObeysTo false manner hub since seat worker whats line before after result
    → ObeysTo silent manner hub since seat worker whats line before after result
obeys_loud manner false hub since seat worker whats line before after result is obeys = obeys
obeys_loud manner true hub since seat worker whats line before after result is obeys = absurd cc

-- ---- what the receipts show at the end

all_served : {door : Door} (hub : Beginning) (seat : ℕ) (Told Shown : List What → ℕ → Type 0)
    (bytes written : List ℕ)
    → ((whats : List What) (waiting : ℕ) → Told whats waiting → Shown whats waiting)
    → AllAnswered door hub seat Told bytes written → AllAnswered door hub seat Shown bytes written
all_served hub seat Told Shown bytes written f a = record {
  parts = a.parts;
  line = a.line;
  are = a.are;
  read = a.read;
  unended = a.unended;
  told = f (changes_in a.parts) 0 a.told;
  answered = a.answered;
}

cut_served : {door : Door} (hub : Beginning) (seat : ℕ) (Told Shown : List What → ℕ → Type 0)
    (bytes written : List ℕ)
    → ((whats : List What) (waiting : ℕ) → Told whats waiting → Shown whats waiting)
    → LastCutShort door hub seat Told bytes written → LastCutShort door hub seat Shown bytes written
cut_served hub seat Told Shown bytes written f a = record {
  parts = a.parts;
  last = a.last;
  later = a.later;
  front = a.front;
  rest = a.rest;
  are = a.are;
  read = a.read;
  told = f (changes_in (a.last ∷ a.parts)) 0 a.told;
  text = a.text;
  answered = a.answered;
}

refused_served : {door : Door} (hub : Beginning) (seat : ℕ) (Told Shown : List What → ℕ → Type 0)
    (bytes written : List ℕ) (stored : ℕ)
    → ((whats : List What) (waiting : ℕ) → Told whats waiting → Shown whats waiting)
    → LaterRefused door hub seat Told bytes written stored
    → LaterRefused door hub seat Shown bytes written stored
refused_served hub seat Told Shown bytes written stored f a = record {
  parts = a.parts;
  later = a.later;
  are = a.are;
  read = a.read;
  told = f (changes_in a.parts) stored a.told;
  answered = a.answered;
}

ends_served : (door : Door) (hub : Beginning) (seat : ℕ) (Told Shown : List What → ℕ → Type 0)
    (bytes written : List ℕ) (cause : Cause)
    → ((whats : List What) (waiting : ℕ) → Told whats waiting → Shown whats waiting)
    → EndsCommands door hub seat Told bytes written cause → EndsCommands door hub seat Shown
    bytes written cause
ends_served door hub seat Told Shown bytes written Read f ends =
    all_served hub seat Told Shown bytes written f ends
ends_served door hub seat Told Shown bytes written Write f ends =
    cut_served hub seat Told Shown bytes written f ends
ends_served door hub seat Told Shown bytes written (Session cause) f ends = absurd ends
ends_served door hub seat Told Shown bytes written (Post fault) f ends =
    refused_served hub seat Told Shown bytes written (stored_of fault 1) f ends
ends_served door hub seat Told Shown bytes written Look f ends =
    refused_served hub seat Told Shown bytes written 0 f ends

quit_served : {door : Door} (hub : Beginning) (seat : ℕ) (Told Shown : List What → ℕ → Type 0)
    (bytes written : List ℕ)
    → ((whats : List What) (waiting : ℕ) → Told whats waiting → Shown whats waiting)
    → AnsweredToQuit door hub seat Told bytes written
    → AnsweredToQuit door hub seat Shown bytes written
quit_served hub seat Told Shown bytes written f a = record {
  parts = a.parts;
  line = a.line;
  later = a.later;
  are = a.are;
  end = a.end;
  read = a.read;
  whole = a.whole;
  ends = a.ends;
  leaves = a.leaves;
  told = f (changes_in a.parts) 0 a.told;
  answered = a.answered;
}

pub commanded_whole : {door : Door} (hub : Beginning) (seat : ℕ) (worker : AdminWorker)
    (start now : Traffic) (served : Served)
    → ((whats : List What) (waiting : ℕ) → HasTold hub worker.poster whats waiting
    → IsServed hub seat whats waiting served)
    → IsDone door hub seat worker start now
    → IsCommandedWhole door hub seat start now served
commanded_whole hub seat worker start now served f (inl w) =
    let stops = stops_failed hub seat worker start now w in record {
      bytes = stops.bytes;
      written = stops.written;
      carried = stops.carried;
      ends = inl (all_served hub seat (HasTold hub worker.poster)
          (λ whats waiting. IsServed hub seat whats waiting served) stops.bytes
          stops.written f stops.ends);
    }
commanded_whole hub seat worker start now served f (inr quit) = record {
  bytes = quit.bytes;
  written = quit.written;
  carried = quit.carried;
  ends = inr (quit_served hub seat (HasTold hub worker.poster)
      (λ whats waiting. IsServed hub seat whats waiting served) quit.bytes quit.written f
      quit.ends);
}

pub commanded_until : {door : Door} (hub : Beginning) (seat : ℕ) (worker : AdminWorker)
    (start now : Traffic) (faulted : Faulted)
    → ((whats : List What) (waiting : ℕ) → HasTold hub worker.poster whats waiting
    → IsServed hub seat whats waiting faulted.served)
    → Stops door hub seat worker start now faulted.cause → IsCommandedUntil door hub seat
    start now faulted
commanded_until {door} hub seat worker start now faulted f stops = record {
  bytes = stops.bytes;
  written = stops.written;
  carried = stops.carried;
  ends = ends_served door hub seat (HasTold hub worker.poster)
      (λ whats waiting. IsServed hub seat whats waiting faulted.served) stops.bytes stops.written
      faulted.cause f stops.ends;
}
