-- A timer's poster.
use Rattle.std.proofs.Common.{◌≡◌, ◌<◌, ◌≤◌, ◌+◌, ◌∙◌, ℕ, List, [], ◌∷◌, ◌++◌, map, Bool, true}
use Rattle.std.proofs.Common.{Result, Ok, Err, IfOk, IfErr, refl, sym, ap, subst, arith, append-nil}
use Rattle.std.proofs.lemmas.List.{append_assoc, map-append}
use Rattle.agg_types.specs.declared.event.What.{What}
use Rattle.agg_types.specs.declared.event.What.TheVariants.{Moment}
use Rattle.hub.specs.History.{Beginning}
use Rattle.worker_frame.specs.declared.poster.Poster.{Poster}
use Rattle.worker_frame.specs.declared.served.Served.{Served}
use Rattle.worker_frame.specs.Moments.{AreBegun, AreTurns, HasTimed, IsTimed, IsTurn, RiseWithin}
use Rattle.worker_frame.specs.Moments.{TimerTurn, cut_by, last_of, moments_of, stored_by, WasTimed}
use Rattle.worker_frame.specs.declared.served.Faulted.{Faulted}
use Rattle.serve.specs.Ticking.{HasBegun, IsTicking}
use Rattle.worker_frame.specs.Told.{HasTold, IsServed}

-- ---- moments that rise

-- a later bound is one, too
pub rise_wider : (low near far : ℕ) (portions : List ℕ) → near ≤ far
    → RiseWithin low portions near → RiseWithin low portions far
rise_wider low near far [] below rise = rise
rise_wider low near far (moment ∷ later) below rise =
    (rise.0, omega (arith, rise.1, below), rise_wider moment near far later below rise.2)

-- one more behind all of them
pub rise_more : (low at next : ℕ) (portions : List ℕ) → low ≤ at → at < next
    → RiseWithin low portions (at + 1) → RiseWithin low (portions ++ next ∷ []) (next + 1)
rise_more low at next [] from behind rise = (omega (arith, from, behind), omega arith, tt)
rise_more low at next (moment ∷ later) from behind rise = (
  rise.0,
  omega (arith, rise.1, behind),
  rise_more moment at next later (omega (arith, rise.1)) behind rise.2,
)

-- ---- turns

-- one turn more
pub turns_more : (gives : ℕ → Type 0) (low : ℕ) (turns : List TimerTurn) (turn : TimerTurn)
    → AreTurns gives low turns → IsTurn gives (last_of low turns) turn
    → AreTurns gives low (turns ++ turn ∷ [])
turns_more gives low [] turn are is = (is, tt)
turns_more gives low (first ∷ later) turn are is =
    (are.0, turns_more gives first.given later turn are.1 is)

last_more : (low : ℕ) (turns : List TimerTurn) (turn : TimerTurn)
    → last_of low (turns ++ turn ∷ []) ≡ turn.given
last_more low [] turn = refl
last_more low (first ∷ later) turn = last_more first.given later turn

moments_more : (turns : List TimerTurn) (turn : TimerTurn)
    → moments_of (turns ++ turn ∷ [])
    ≡ (moments_of turns ++ turn.portions) ++ turn.given ∷ []
moments_more [] turn = refl
moments_more (first ∷ later) turn =
    ap (λ (rest : List ℕ). first.portions ++ first.given ∷ rest) (moments_more later turn)
    ∙ sym (ap (λ (rest : List ℕ). rest ++ turn.given ∷ [])
    (append_assoc first.portions (first.given ∷ moments_of later) turn.portions)
    ∙ append_assoc first.portions (first.given ∷ moments_of later ++ turn.portions)
    (turn.given ∷ []))

-- what is told by one moment more
told_more : (moments portions : List ℕ) (moment : ℕ)
    → map Moment (moments ++ portions) ++ Moment moment ∷ []
    ≡ map Moment (moments ++ (portions ++ moment ∷ []))
told_more moments portions moment =
    sym (ap (map Moment) (sym (append_assoc moments portions (moment ∷ [])))
    ∙ map-append Moment (moments ++ portions) (moment ∷ []))

-- the portions of a turn that is cut short
begun_of : (gives : ℕ → Type 0) (low given : ℕ) (portions : List ℕ) → gives given
    → RiseWithin low portions given → AreBegun true gives low portions
begun_of gives low given [] gave rise = tt
begun_of gives low given (moment ∷ later) gave rise =
    (given, record { given = gave; rise = rise })

-- ---- a poster at work

-- nothing was told
pub ticking_none : (hub : Beginning) (gives : ℕ → Type 0) (poster : Poster)
    → HasTold hub poster [] 0 → IsTicking hub gives poster 0 []
ticking_none hub gives poster told =
    record { turns = []; are = tt; last_is = refl; told = told }

-- a turn begins
pub begun_none : (hub : Beginning) (gives : ℕ → Type 0) (poster : Poster) (last high : ℕ)
    → IsTicking hub gives poster last [] → HasBegun hub gives poster last high
begun_none hub gives poster last high ticking =
    record { portions = []; rise = tt; ticking = ticking }

-- one portion more was told
pub begun_more : (hub : Beginning) (gives : ℕ → Type 0) (old new : Poster) (last at next : ℕ)
    → last ≤ at → at < next → HasBegun hub gives old last (at + 1)
    → ((whats : List What) → HasTold hub old whats 0
    → HasTold hub new (whats ++ Moment next ∷ []) 0)
    → HasBegun hub gives new last (next + 1)
begun_more hub gives old new last at next from behind begun f =
    let ticking = begun.ticking in record {
      portions = begun.portions ++ next ∷ [];
      rise = rise_more last at next begun.portions from behind begun.rise;
      ticking = record {
        turns = ticking.turns;
        are = ticking.are;
        last_is = ticking.last_is;
        told = subst (λ (whats : List What). HasTold hub new whats 0)
            (told_more (moments_of ticking.turns) begun.portions next)
            (f (map Moment (moments_of ticking.turns ++ begun.portions)) ticking.told);
      };
    }

-- its pass is of this hub
pub of_begun : (hub : Beginning) (gives : ℕ → Type 0) (poster : Poster) (last high : ℕ)
    → HasBegun hub gives poster last high → poster.pass.seen.of ≡ hub.of
of_begun hub gives poster last high begun =
    ap (λ (b : Beginning). b.of) begun.ticking.told.seen.same

-- they stay below what the clock gave
pub begun_wider : (hub : Beginning) (gives : ℕ → Type 0) (poster : Poster) (last near far : ℕ)
    → near ≤ far → HasBegun hub gives poster last near → HasBegun hub gives poster last far
begun_wider hub gives poster last near far below begun = record {
  portions = begun.portions;
  rise = rise_wider last near far begun.portions below begun.rise;
  ticking = begun.ticking;
}

-- a turn was told whole
pub ticking_more : (hub : Beginning) (gives : ℕ → Type 0) (old new : Poster) (last given : ℕ)
    → gives given → HasBegun hub gives old last given
    → ((whats : List What) → HasTold hub old whats 0
    → HasTold hub new (whats ++ Moment given ∷ []) 0)
    → IsTicking hub gives new given []
ticking_more hub gives old new last given gave begun f =
    let ticking = begun.ticking in
    let turn : TimerTurn = record { portions = begun.portions; given = given } in
    let is : IsTurn gives (last_of 0 ticking.turns) turn = record {
      given = gave;
      rise = subst (λ (low : ℕ). RiseWithin low begun.portions given) (sym ticking.last_is)
          begun.rise;
    } in
    let before = moments_of ticking.turns ++ begun.portions in record {
      turns = ticking.turns ++ turn ∷ [];
      are = turns_more gives 0 ticking.turns turn ticking.are is;
      last_is = last_more 0 ticking.turns turn;
      told = subst (λ (whats : List What). HasTold hub new whats 0)
          (sym (map-append Moment before (given ∷ []))
          ∙ ap (map Moment) (sym (moments_more ticking.turns turn)
          ∙ sym (append-nil (moments_of (ticking.turns ++ turn ∷ [])))))
          (f (map Moment before) ticking.told);
    }

-- a turn was cut short, by the gate or a refusal
pub timed_cut : (hub : Beginning) (gives : ℕ → Type 0) (old new : Poster) (last given : ℕ)
    (waiting : ℕ) → gives given → HasBegun hub gives old last given
    → ((whats : List What) → HasTold hub old whats 0 → HasTold hub new whats waiting)
    → HasTimed hub gives true new waiting
timed_cut hub gives old new last given waiting gave begun f =
    let ticking = begun.ticking in record {
      moments = map Moment (moments_of ticking.turns ++ begun.portions);
      are = record {
        turns = ticking.turns;
        begun = begun.portions;
        are = ticking.are;
        begin = subst (λ (low : ℕ). AreBegun true gives low begun.portions)
            (sym ticking.last_is)
            (begun_of gives last given begun.portions gave begun.rise);
        is = refl;
      };
      told = f (map Moment (moments_of ticking.turns ++ begun.portions)) ticking.told;
    }

-- all turns were told whole
pub timed_whole : (hub : Beginning) (gives : ℕ → Type 0) (cut : Bool) (poster : Poster) (last : ℕ)
    → IsTicking hub gives poster last [] → HasTimed hub gives cut poster 0
timed_whole hub gives cut poster last ticking = record {
  moments = map Moment (moments_of ticking.turns ++ []);
  are = record { turns = ticking.turns; begun = []; are = ticking.are; begin = tt; is = refl };
  told = ticking.told;
}

-- what a timer's receipts show once its pass was given back
pub timed_served : (hub : Beginning) (gives : ℕ → Type 0) (cut : Bool) (poster : Poster)
    (seat waiting : ℕ) (served : Served) → HasTimed hub gives cut poster waiting
    → ((whats : List What) → HasTold hub poster whats waiting
    → IsServed hub seat whats waiting served)
    → IsTimed hub gives cut seat waiting served
timed_served hub gives cut poster seat waiting served timed f = record {
  moments = timed.moments;
  are = timed.are;
  shown = f timed.moments timed.told;
}

-- how a timer ended, whatever its seat
pub was_timed : (hub : Beginning) (gives : ℕ → Type 0) (seat : ℕ) (ended : Result Served Faulted)
    → IfOk ended (IsTimed hub gives true seat 0)
    → IfErr ended (λ faulted. IsTimed hub gives (cut_by faulted.cause) seat
    (stored_by faulted.cause) faulted.served)
    → WasTimed gives ended
was_timed hub gives seat (Ok served) ok err = record { hub = hub; seat = seat; how = ok }
was_timed hub gives seat (Err faulted) ok err = record { hub = hub; seat = seat; how = err }
