-- What a session tells, turn by turn.
use Rattle.std.proofs.Common.{◌≡◌, ℕ, Bool, List, [], ◌∷◌, ◌++◌, length, drop, Option, None, Some}
use Rattle.std.proofs.Common.{◌+◌, ◌<◌, true, false, IfSome, inl, inr, refl, sym, ap, subst, ◌∙◌}
use Rattle.std.proofs.Common.{arith, get_or, map, take}
use Rattle.std.proofs.lemmas.Bool.Decides.{nat_tests}
use Rattle.std.proofs.lemmas.List.{map-append, map_more}
use Rattle.std.proofs.lemmas.Option.{get_or_from_slice_get, slice_get-map}
use Rattle.std.specs.Prelude.{slice_get, slice_index_or}
use Rattle.std.proofs.Math.Seq.{drop-append_seam}
use Rattle.std.specs.Option.{option_map}
use Rattle.agg_types.specs.declared.config.Config.{Config}
use Rattle.agg_types.specs.declared.event.What.{What}
use Rattle.fleet_model.specs.State.{State}
use Rattle.session_core.specs.Batched.{Batched}
use Rattle.session_core.specs.Piece.{Setup, setup_of}
use Rattle.session_core.specs.Talk.{Grows, talk}
use Rattle.session_core.specs.TalkAnswers.{OpensWith}
use Rattle.session_core.specs.Asking.{asks_all}
use Rattle.pushed_keys.specs.Pushes.{pushed_of}
use Rattle.pushed_keys.specs.Rules.{is_told}
use Rattle.pushed_keys.specs.Stands.{stands}
use Rattle.pushed_keys.specs.declared.change.Turn.{Turn as Moment}
use Rattle.pushed_keys.specs.declared.pushed.Pushed.{Pushed}
use Rattle.pushed_keys.specs.declared.told.Mark.{Mark}
use Rattle.telling.specs.Among.{AllMarks, IsAmong, IsMarked}
use Rattle.telling.specs.Telling.{table_at, told_after, turn_at, turn_messages}
use Rattle.telling.specs.Told.{Told}
use Rattle.telling.specs.Unsaid.{unsaid_messages}
use Rattle.telling.proofs.Brought.{marks_at, set_from, set_held, set_marks, set_told, told_at}
use Rattle.telling.proofs.Brought.{told_of}
use Rattle.hub.specs.History.{Beginning}
use Rattle.hub.specs.Posts.{Follows}
use Rattle.hub.specs.Views.{Seeing}
use Rattle.hub.proofs.Showing.{later_on}
use Rattle.worker_frame.specs.declared.poster.Poster.{Poster}
use Rattle.worker_frame.proofs.Later.{follows_self, shows_last}
use Rattle.peer_worker.specs.Knowing.{Pushing}
use Rattle.peer_worker.specs.Tellings.{AreTellings, Equips, HoldsLast, IsBroughtTo, IsExact}
use Rattle.peer_worker.specs.Tellings.{IsPushing, IsTelling, KeepsTold, LooksBack, SeesMore}
use Rattle.peer_worker.specs.Tellings.{SeesShown, ShowsPosted, SomeTelling, StoodIn, TellsOn}
use Rattle.peer_worker.specs.Tellings.{TurnsOver, asked_pushing, shown_by}
use Rattle.peer_worker.specs.declared.waiting.Signal.{Signal}
use Rattle.peer_worker.specs.Turns.{PosterTells, Piece, Say, Send, Tell, Telling, Turn, asked_if}
use Rattle.peer_worker.specs.Turns.{facts_in, pushed_in, seat_at, set_named, sets_in, taken_in}
use Rattle.peer_worker.specs.Turns.{told_in, unsaid_in}

-- the tellings of a poster of the same seat
pub shown_at : (hub : Beginning) (seated : Bool) (old new : Option Poster) (turns : List Turn)
    → seat_at new ≡ seat_at old → AreTellings hub seated (seat_at old) turns
    → AreTellings hub seated (seat_at new) turns
shown_at hub seated old new turns seat shown =
    subst (λ (s : Option ℕ). AreTellings hub seated s turns) (sym seat) shown

-- what was shown is of the hub's history
pub shown_follows : (hub : Beginning) (seated : Bool) (seat : Option ℕ) (turns : List Turn)
    → AreTellings hub seated seat turns → Follows hub (shown_by hub turns)
shown_follows hub seated seat [] shown = follows_self hub
shown_follows hub seated seat (Piece piece ∷ earlier) shown =
    shown_follows hub seated seat earlier shown
shown_follows hub seated seat (Send signal ∷ earlier) shown =
    shown_follows hub seated seat earlier shown
shown_follows hub seated seat (Say count ∷ earlier) shown =
    shown_follows hub seated seat earlier shown
shown_follows hub seated seat (Tell telling ∷ earlier) shown =
    later_on hub (shown_by hub earlier) telling.seen
    (shown_follows hub seated seat earlier shown.1) shown.0.follows

-- ---- what is kept of what was told

signal_kept : (hub : Beginning) (seated : Bool) (turns : List Turn) (signal : Signal)
    (pushing : Option Pushing) → TellsOn hub seated turns pushing
    → TellsOn hub seated (Send signal ∷ turns) pushing
signal_kept hub seated turns signal None tells = tt
signal_kept hub seated turns signal (Some pushing) tells = record {
  tables = tells.tables;
  teller = tells.teller;
  unsaid = tells.unsaid;
  sees = tells.sees;
}

-- a signal tells nothing
pub tells_signal : (hub : Beginning) (seated : Bool) (turns : List Turn) (signal : Signal)
    (old new : Option Pushing) → new ≡ old → TellsOn hub seated turns old
    → TellsOn hub seated (Send signal ∷ turns) new
tells_signal hub seated turns signal old new same tells =
    signal_kept hub seated turns signal new (subst (TellsOn hub seated turns) (sym same) tells)

piece_kept : (hub : Beginning) (seated : Bool) (turns : List Turn) (piece : List ℕ) (asks : Bool)
    (pushing : Option Pushing)
    → asks ≡ asks_all (drop (length (talk (setup_of hub.config) seated (taken_in turns)).replies)
    (talk (setup_of hub.config) seated (taken_in turns ++ piece)).replies)
    → TellsOn hub seated turns pushing
    → TellsOn hub seated (Piece piece ∷ turns) (option_map (asked_pushing asks) pushing)
piece_kept hub seated turns piece asks None is tells = tt
piece_kept hub seated turns piece asks (Some pushing) is tells = record {
  tables = tells.tables;
  teller = ap (asked_if asks) tells.teller
      ∙ ap (λ (b : Bool). asked_if b
      (told_in (setup_of hub.config) seated (pushed_of hub.config) turns)) is;
  unsaid = tells.unsaid;
  sees = tells.sees;
}

-- a piece tells nothing, but its resync requests ask for all anew
pub tells_piece : (hub : Beginning) (seated : Bool) (turns : List Turn) (piece : List ℕ)
    (batch : Batched) (old new : Option Pushing)
    → Grows (setup_of hub.config) (talk (setup_of hub.config) seated (taken_in turns))
    (talk (setup_of hub.config) seated (taken_in turns ++ piece)) batch
    → new ≡ option_map (asked_pushing (asks_all batch.replies)) old
    → TellsOn hub seated turns old → TellsOn hub seated (Piece piece ∷ turns) new
tells_piece hub seated turns piece batch old new grows asks tells =
    let before : List ℕ = (talk (setup_of hub.config) seated (taken_in turns)).replies in
    subst (TellsOn hub seated (Piece piece ∷ turns)) (sym asks)
    (piece_kept hub seated turns piece (asks_all batch.replies) old
    (ap asks_all (sym (ap (drop (length before)) grows.replies
    ∙ drop-append_seam before batch.replies))) tells)

-- what a worker keeps once it was told whether a batch asks for all
pub asked_on : (asks : Bool) (replies : List ℕ) (old middle new : Option Pushing)
    → new ≡ option_map (asked_pushing asks) middle → middle ≡ old → asks ≡ asks_all replies
    → new ≡ option_map (asked_pushing (asks_all replies)) old
asked_on asks replies old middle new after same is =
    after ∙ (ap (option_map (asked_pushing asks)) same
    ∙ ap (λ (b : Bool). option_map (asked_pushing b) old) is)

-- ---- a turn

-- a lens of what was shown has seen a list of the hub
lens_of : (hub : Beginning) (seated : Bool) (seat : Option ℕ) (turns : List Turn) (lens : Seeing)
    → AreTellings hub seated seat turns → Follows (shown_by hub turns) lens.seen
    → Follows hub lens.seen
lens_of hub seated seat turns lens shown sees =
    later_on hub (shown_by hub turns) lens.seen (shown_follows hub seated seat turns shown) sees

of_same : (hub list seen : Beginning) → Follows hub list → Follows hub seen → list.of ≡ seen.of
of_same hub list seen listed sees =
    ap (λ (b : Beginning). b.of) listed.same ∙ sym (ap (λ (b : Beginning). b.of) sees.same)

last_of : (hub seen : Beginning) (last : Option Beginning) → IfSome last (Follows hub)
    → Follows hub seen → IfSome last (λ list. list.of ≡ seen.of)
last_of hub seen None shown sees = tt
last_of hub seen (Some list) shown sees = of_same hub list seen shown sees

poster_last : (hub seen : Beginning) (poster : Option Poster) (whats : List What)
    → PosterTells hub poster whats 0 → Follows hub seen
    → IfSome poster (λ poster. IfSome poster.last (λ list. list.of ≡ seen.of))
poster_last hub seen None whats told sees = tt
poster_last hub seen (Some poster) whats told sees = last_of hub seen poster.last told.shown sees

-- a turn may look back on what its poster posted last
pub looks_back : (hub : Beginning) (seated : Bool) (turns : List Turn) (poster : Option Poster)
    (pushing : Pushing) → AreTellings hub seated (seat_at poster) turns
    → PosterTells hub poster (facts_in (setup_of hub.config) seated turns) 0
    → IsPushing hub seated turns pushing → LooksBack pushing poster
looks_back hub seated turns poster pushing shown told tells = by pushing.lens tells.sees
  where
    by : (lens : Option Seeing) → SeesShown hub turns lens → IfSome lens
        (λ lens. IfSome poster (λ poster. IfSome poster.last (λ list. list.of ≡ lens.seen.of)))
    by None sees = tt
    by (Some lens) sees =
        poster_last hub lens.seen poster (facts_in (setup_of hub.config) seated turns) told
        (lens_of hub seated (seat_at poster) turns lens shown sees)

-- what is unsaid stays
unsaid_same : (hub : Beginning) (seated : Bool) (turns : List Turn) (old new : Pushing)
    → new.pushed ≡ old.pushed → new.unsaid ≡ old.unsaid → IsPushing hub seated turns old
    → unsaid_messages new.pushed new.unsaid ≡ unsaid_in (setup_of hub.config) seated turns
unsaid_same hub seated turns old new tables same tells =
    ap (λ (pushed : List Pushed). unsaid_messages pushed new.unsaid) tables
    ∙ (ap (unsaid_messages old.pushed) same ∙ tells.unsaid)

-- what is kept, once it has a lens if one is to be had
pub equipped : (hub : Beginning) (seated : Bool) (turns : List Turn) (old new : Pushing)
    → Equips hub old new → IsPushing hub seated turns old → IsPushing hub seated turns new
equipped hub seated turns old new equips tells = record {
  tables = equips.tables ∙ tells.tables;
  teller = equips.teller ∙ tells.teller;
  unsaid = unsaid_same hub seated turns old new equips.tables equips.unsaid tells;
  sees = equips.sees turns tells.sees;
}

-- a turn may look back once it has a lens
pub looks_equipped : (hub : Beginning) (seated : Bool) (turns : List Turn) (poster : Option Poster)
    (all : Option Pushing) (old new : Pushing) → all ≡ Some old → Equips hub old new
    → AreTellings hub seated (seat_at poster) turns
    → PosterTells hub poster (facts_in (setup_of hub.config) seated turns) 0
    → TellsOn hub seated turns all → LooksBack new poster
looks_equipped hub seated turns poster all old new is equips shown told tells =
    looks_back hub seated turns poster new shown told
    (equipped hub seated turns old new equips (subst (TellsOn hub seated turns) is tells))

sees_more : (hub : Beginning) (turns : List Turn) (old new : Option Seeing) → SeesMore old new
    → SeesShown hub turns old → SeesShown hub turns new
sees_more hub turns None new more sees = subst (SeesShown hub turns) (sym more) sees
sees_more hub turns (Some lens) new more sees =
    subst (SeesShown hub turns) (sym more.1)
    (later_on (shown_by hub turns) lens.seen more.0.seen sees more.2)

-- what is kept where no turn was made
pub unturned : (hub : Beginning) (seated : Bool) (turns : List Turn) (old new : Pushing)
    → new.pushed ≡ old.pushed → KeepsTold old new → IsPushing hub seated turns old
    → IsPushing hub seated turns new
unturned hub seated turns old new tables keeps tells = record {
  tables = tables ∙ tells.tables;
  teller = keeps.teller ∙ tells.teller;
  unsaid = unsaid_same hub seated turns old new tables keeps.unsaid tells;
  sees = sees_more hub turns old.lens new.lens keeps.sees tells.sees;
}

posted_shown : (hub seen : Beginning) (poster : Option Poster) (whats : List What)
    → PosterTells hub poster whats 0 → HoldsLast poster seen
    → ShowsPosted (seat_at poster) whats seen
posted_shown hub seen None whats told holds = tt
posted_shown hub seen (Some poster) whats told holds =
    shows_last poster.pass.seat whats poster.last seen told.last holds

sees_from : (hub : Beginning) (turns : List Turn) (lens : Option Seeing) (had : Seeing)
    → lens ≡ Some had → SeesShown hub turns lens → Follows (shown_by hub turns) had.seen
sees_from hub turns lens had is sees = subst (SeesShown hub turns) is sees

-- ---- what was told is the sets

-- the set of a pushed table, by its place
set_there : (pushed : List Pushed) (book : State) (place : ℕ) (table : Pushed)
    → slice_get pushed place ≡ Some table
    → slice_index_or (sets_in pushed book) place [] ≡ set_named book table
set_there pushed book place table is =
    get_or_from_slice_get (sets_in pushed book) place (set_named book table) []
    (slice_get-map (set_named book) pushed place
    ∙ ap (λ (o : Option Pushed). option_map (set_named book) o) is)

-- one set more
pub sets_more : {X : Type 0} (keys : X → List (List ℕ)) (book : State) (pushed : List Pushed)
    (place : ℕ) (table : Pushed) (old new : List X) (set : X) → place < length pushed
    → table ≡ get_or pushed place table → new ≡ old ++ set ∷ [] → keys set ≡ set_named book table
    → map keys old ≡ map (set_named book) (take place pushed)
    → map keys new ≡ map (set_named book) (take (place + 1) pushed)
sets_more keys book pushed place table old new set within is adds has so_far =
    ap (map keys) adds
    ∙ (map-append keys old (set ∷ [])
    ∙ (ap (λ sets. sets ++ keys set ∷ []) so_far
    ∙ (ap (λ one. map (set_named book) (take place pushed) ++ one ∷ [])
    (has ∙ ap (set_named book) is)
    ∙ sym (map_more (set_named book) pushed place table within))))

-- a key of a table was put at this moment: that of a telling whose set has it
abbrev pub WasPut : Pushed → List Turn → List ℕ → ℕ → Type 0
WasPut table turns key put =
    SomeTelling (λ telling. (telling.book.moment ≡ put)
    × IsAmong key (set_named telling.book table)) turns

later_put : (table : Pushed) (turn : Turn) (turns : List Turn)
    → ((key : List ℕ) (put : ℕ) → WasPut table turns key put → WasPut table (turn ∷ turns) key put)
later_put table (Piece piece) turns key put was = was
later_put table (Send signal) turns key put was = was
later_put table (Say count) turns key put was = was
later_put table (Tell telling) turns key put was = inr was

all_later : (Old New : List ℕ → ℕ → Type 0) (marks : List Mark)
    → ((key : List ℕ) (put : ℕ) → Old key put → New key put) → AllMarks Old marks
    → AllMarks New marks
all_later Old New [] later old = tt
all_later Old New (mark ∷ marks) later old =
    (later mark.key mark.put old.0, all_later Old New marks later old.1)

-- each key that was put, and not taken away, was put by some telling
marked_in : (setup : Setup) (seated : Bool) (pushed : List Pushed) (turns : List Turn)
    (place : ℕ) (table : Pushed) → slice_get pushed place ≡ Some table
    → AllMarks (WasPut table turns) (table_at (told_in setup seated pushed turns) place).marks
marked_in setup seated pushed [] place table is = tt
marked_in setup seated pushed (Send signal ∷ turns) place table is =
    marked_in setup seated pushed turns place table is
marked_in setup seated pushed (Say count ∷ turns) place table is =
    marked_in setup seated pushed turns place table is
marked_in setup seated pushed (Piece piece ∷ turns) place table is =
    by (asks_all (drop (length (talk setup seated (taken_in turns)).replies)
    (talk setup seated (taken_in turns ++ piece)).replies))
    (marked_in setup seated pushed turns place table is)
  where
    by : (asks : Bool)
        → AllMarks (WasPut table turns) (table_at (told_in setup seated pushed turns) place).marks
        → AllMarks (WasPut table turns)
        (table_at (asked_if asks (told_in setup seated pushed turns)) place).marks
    by true old = old
    by false old = old
marked_in setup seated pushed (Tell telling ∷ turns) place table is =
    let told : Told = told_in setup seated pushed turns in
    let sets : List (List (List ℕ)) = sets_in pushed telling.book in
    let now : ℕ = telling.book.moment in
    subst (AllMarks (WasPut table (Tell telling ∷ turns)))
    (sym (marks_at pushed sets now told place table is))
    (set_marks (WasPut table (Tell telling ∷ turns)) table (turn_at now told)
    (slice_index_or sets place []) (table_at told place).marks
    (λ key there. inl (
      refl,
      subst (IsAmong key) (set_there pushed telling.book place table is)
          there,
    ))
    (all_later (WasPut table turns) (WasPut table (Tell telling ∷ turns))
    (table_at told place).marks (later_put table (Tell telling) turns)
    (marked_in setup seated pushed turns place table is)))

young_at : (table : Pushed) (now put moment : ℕ) → 0 < table.life → is_told table now put ≡ true
    → moment ≡ put → now < moment + table.life
young_at table now put moment lives told same = grind (arith, nat_tests)

-- a key that was put at a moment and is told stood in a set less than its life before
stood_in : (table : Pushed) (key : List ℕ) (now put : ℕ) (turns : List Turn) → 0 < table.life
    → is_told table now put ≡ true → WasPut table turns key put
    → SomeTelling (StoodIn table key now) turns
stood_in table key now put [] lives told was = was
stood_in table key now put (Piece piece ∷ turns) lives told was =
    stood_in table key now put turns lives told was
stood_in table key now put (Send signal ∷ turns) lives told was =
    stood_in table key now put turns lives told was
stood_in table key now put (Say count ∷ turns) lives told was =
    stood_in table key now put turns lives told was
stood_in table key now put (Tell telling ∷ turns) lives told (inl is) = inl (record {
  had = is.1;
  young =
      young_at table now put telling.book.moment lives told is.0;
})
stood_in table key now put (Tell telling ∷ turns) lives told (inr was) =
    inr (stood_in table key now put turns lives told was)

marked_from : (table : Pushed) (key : List ℕ) (now : ℕ) (turns : List Turn) (marks : List Mark)
    → 0 < table.life → AllMarks (WasPut table turns) marks → IsMarked table now key marks
    → SomeTelling (StoodIn table key now) turns
marked_from table key now turns [] lives was there = absurd there
marked_from table key now turns (mark ∷ marks) lives was (inl is) =
    stood_in table key now mark.put turns lives is.1
    (subst (λ (k : List ℕ). WasPut table turns k mark.put) is.0 was.0)
marked_from table key now turns (mark ∷ marks) lives was (inr more) =
    marked_from table key now turns marks lives was.1 more

exact_by : (holds : Bool) (table : Pushed) (turn : Moment)
    (set : List (List ℕ)) (marks : List Mark) (turns : List Turn) → table.holds ≡ holds
    → 0 < table.life → AllMarks (WasPut table turns) marks
    → IsBroughtTo holds table set (told_of table turn (stands set marks)) turn.now turns
exact_by false table turn set marks turns is lives was = set_told table turn set marks is lives
exact_by true table turn set marks turns is lives was = record {
  all = λ key there. set_held table turn set marks key lives there;
  others = λ key there. elim (set_from table turn set marks key lives there) [
    | inl one ↦ inl one
    | inr old ↦ inr (marked_from table key turn.now turns marks lives was old)
  ];
}

-- after a telling, what was told is the sets
exact_at : (hub : Beginning) (seated : Bool) (turns : List Turn) (telling : Telling)
    → IsExact hub seated turns telling
exact_at hub seated turns telling =
    λ place table is lives.
    let setup : Setup = setup_of hub.config in
    let pushed : List Pushed = pushed_in telling in
    let told : Told = told_in setup seated pushed turns in
    let sets : List (List (List ℕ)) = sets_in pushed telling.book in
    let now : ℕ = telling.book.moment in
    let marks : List Mark = (table_at told place).marks in
    subst (λ (keys : List (List ℕ)). IsBroughtTo table.holds table (set_named telling.book table)
    keys now turns) (sym (told_at pushed sets now told place table is))
    (subst (λ (set : List (List ℕ)). IsBroughtTo table.holds table set
    (told_of table (turn_at now told) (stands (slice_index_or sets place []) marks)) now turns)
    (set_there pushed telling.book place table is)
    (exact_by table.holds table (turn_at now told) (slice_index_or sets place []) marks turns refl
    lives (marked_in setup seated pushed turns place table is)))

-- the telling of a turn that was made
abbrev pub telling_of : (old new : Pushing) (poster : Option Poster) → TurnsOver old new poster
    → Telling
telling_of old new poster turn = record { seen = turn.later.seen; book = turn.brings.book }

pub is_telling : (hub : Beginning) (seated : Bool) (turns : List Turn) (poster : Option Poster)
    (old new : Pushing) → (turn : TurnsOver old new poster)
    → AreTellings hub seated (seat_at poster) turns
    → PosterTells hub poster (facts_in (setup_of hub.config) seated turns) 0
    → (facts_in (setup_of hub.config) seated turns ≡ [] → ⊥)
    → IsPushing hub seated turns old
    → IsTelling hub seated (seat_at poster) turns (telling_of old new poster turn)
is_telling hub seated turns poster old new turn shown told greeted tells = record {
  said = sym tells.unsaid ∙ turn.said;
  follows = later_on (shown_by hub turns) turn.lens.seen turn.later.seen
      (sees_from hub turns old.lens turn.lens turn.had tells.sees) turn.follows;
  shows = posted_shown hub turn.later.seen poster (facts_in (setup_of hub.config) seated turns) told
      turn.holds;
  stands = turn.brings.stands;
  greeted = greeted;
  exact = exact_at hub seated turns (telling_of old new poster turn);
}

-- what it says
turn_says : (hub : Beginning) (seated : Bool) (turns : List Turn) (poster : Option Poster)
    (old new : Pushing) → (turn : TurnsOver old new poster)
    → AreTellings hub seated (seat_at poster) turns
    → IsPushing hub seated turns old
    → unsaid_messages old.pushed new.unsaid
    ≡ unsaid_in (setup_of hub.config) seated (Tell (telling_of old new poster turn) ∷ turns)
turn_says hub seated turns poster old new turn shown tells =
    let setup : Setup = setup_of hub.config in
    let book : State = turn.brings.book in
    let sees : Follows hub turn.later.seen =
    later_on hub turn.lens.seen turn.later.seen
    (lens_of hub seated (seat_at poster) turns turn.lens
    shown (sees_from hub turns old.lens turn.lens turn.had tells.sees)) turn.follows in
    let config : turn.later.seen.config ≡ hub.config =
    ap (λ (b : Beginning). b.config) sees.same in
    turn.brings.says
    ∙ (ap (λ (pushed : List Pushed).
    turn_messages pushed (sets_in pushed book) book.moment old.teller) tells.tables
    ∙ (ap (turn_messages (pushed_of hub.config) (sets_in (pushed_of hub.config) book) book.moment)
    tells.teller
    ∙ ap (λ (c : Config). turn_messages (pushed_of c) (sets_in (pushed_of c) book) book.moment
    (told_in setup seated (pushed_of c) turns)) (sym config)))

-- what is kept where one was made
pub turned : (hub : Beginning) (seated : Bool) (turns : List Turn) (poster : Option Poster)
    (old new : Pushing) → new.pushed ≡ old.pushed
    → (turn : TurnsOver old new poster) → AreTellings hub seated (seat_at poster) turns
    → IsPushing hub seated turns old
    → IsPushing hub seated (Tell (telling_of old new poster turn) ∷ turns) new
turned hub seated turns poster old new tables turn shown tells = record {
  tables = tables ∙ tells.tables;
  teller = turn.brings.told
      ∙ ap (λ (pushed : List Pushed). told_after pushed (sets_in pushed turn.brings.book)
      turn.brings.book.moment old.teller) tells.tables
      ∙ ap (told_after (pushed_of hub.config) (sets_in (pushed_of hub.config) turn.brings.book)
      turn.brings.book.moment) tells.teller;
  unsaid = ap (λ (pushed : List Pushed). unsaid_messages pushed new.unsaid) tables
      ∙ turn_says hub seated turns poster old new turn shown tells;
  sees = subst (λ (lens : Option Seeing). SeesShown hub
      (Tell (telling_of old new poster turn) ∷ turns) lens) (sym turn.has)
      (follows_self turn.later.seen);
}

-- what is kept once more of a telling was written
pub said_on : (hub : Beginning) (seated : Bool) (turns : List Turn) (old new : Pushing)
    (count : ℕ) → new ≡ record old { unsaid = new.unsaid }
    → unsaid_messages old.pushed new.unsaid ≡ drop count (unsaid_messages old.pushed old.unsaid)
    → IsPushing hub seated turns old → IsPushing hub seated (Say count ∷ turns) new
said_on hub seated turns old new count kept left tells = record {
  tables = ap (λ (p : Pushing). p.pushed) kept ∙ tells.tables;
  teller = ap (λ (p : Pushing). p.teller) kept ∙ tells.teller;
  unsaid = ap (λ (p : Pushing). unsaid_messages p.pushed new.unsaid) kept
      ∙ (left ∙ ap (drop count) tells.unsaid);
  sees = subst (λ (lens : Option Seeing). SeesShown hub turns lens)
      (sym (ap (λ (p : Pushing). p.lens) kept)) tells.sees;
}

-- an accepted hello's first fact is there
pub some_fact : (peer : ℕ) (facts : List What) → OpensWith (Some peer) facts → facts ≡ [] → ⊥
some_fact peer facts opens none =
    let bad = subst (λ (fs : List What). OpensWith (Some peer) fs) none opens in cc bad
