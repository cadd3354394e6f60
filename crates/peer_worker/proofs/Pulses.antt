-- Signals of a session that waits.
use Rattle.std.proofs.Common.{◌≡◌, ℕ, List, [], ◌∷◌, ◌++◌, length, ◌==◌, Bool, true, false, Option}
use Rattle.std.proofs.Common.{None, Ok, not}
use Rattle.std.proofs.Common.{refl, sym, ap, subst, append-nil, arith, ◌⊎◌, inl, inr, ◌∙◌}
use Rattle.std.proofs.lemmas.Bool.Decides.{nat_tests}
use Rattle.std.specs.Io.KnownBytes.{Appends}
use Rattle.agg_types.specs.declared.event.What.{What}
use Rattle.session_core.specs.declared.batch.SessionFault.{SessionFault}
use Rattle.session_core.specs.declared.cause.SessionCause.{SessionCause}
use Rattle.session_core.specs.declared.cause.SessionCause.TheVariants as causes
use Rattle.session_core.specs.State.{SessionState, after_idle, idle_of}
use Rattle.session_core.specs.declared.session.Idle.{Idle}
use Rattle.session_core.specs.declared.session.Idle.TheVariants.{Nothing, Beat}
use Rattle.hub.specs.History.{Beginning}
use Rattle.peer_worker.proofs.Works.{signalled}
use Rattle.worker_frame.specs.declared.poster.Poster.{Poster}
use Rattle.worker_frame.specs.Told.{HasTold, IsWaiting}
use Rattle.worker_frame.specs.Traffic.{so_far}
use Rattle.peer_worker.specs.Working.{Works}
use Rattle.peer_worker.specs.declared.waiting.Signal.{Signal}
use Rattle.peer_worker.specs.Turns.{PosterTells, WroteSignal, text_of_signal}
use Rattle.peer_worker.specs.Waiting.{Signals, SignalsIf, SignalsThen, WroteIf}
use Rattle.peer_worker.specs.Working.{EndsFor, EndsTo}

pub signals_none : (a : Option (List ℕ)) → Signals a a
signals_none a = λ hub seated worker start given w. w

pub signals_one : (signal : Signal) (a b : Option (List ℕ)) → Appends a b (text_of_signal signal)
    → Signals a b
signals_one signal a b sends =
    λ hub seated worker start given w.
    signalled hub seated worker worker signal start given a b refl refl refl refl w sends

-- signals follow signals, the last one perhaps cut short
pub heard_on : (a b c : Option (List ℕ)) (goes : Bool)
    → SignalsThen a (λ written. WroteIf true written b) → SignalsIf goes b c
    → SignalsThen a (λ written. WroteIf goes written c)
heard_on a b c true behind sends = record {
  written = c;
  signals = λ hub seated worker start given w. sends hub seated worker start given
      (subst (λ wrote. Works hub seated worker start (so_far given wrote)) (sym behind.goes_on)
      (behind.signals hub seated worker start given w));
  goes_on = refl;
}
heard_on a b c false behind cut = record {
  written = behind.written;
  signals = behind.signals;
  goes_on = subst (λ wrote. WroteSignal wrote c) behind.goes_on cut;
}

-- where signals could be written, nothing more was
pub when_heard : (heard : Bool) (written after : Option (List ℕ)) → not heard ≡ false
    → WroteIf heard written after → after ≡ written
when_heard true written after is wrote = wrote
when_heard false written after is wrote = absurd cc

-- else some beginning of one was
pub when_unheard : (heard : Bool) (written after : Option (List ℕ)) → not heard ≡ true
    → WroteIf heard written after → WroteSignal written after
when_unheard true written after is wrote = absurd cc
when_unheard false written after is wrote = wrote

-- a session that isn't ended for its silence stands for what it stood for, and was heard when it
-- was heard
pub idle_kept : (old new : SessionState) (now : ℕ) (answer : Idle)
    → (answer ≡ Nothing) ⊎ (answer ≡ Beat) → answer ≡ idle_of old now
    → new ≡ after_idle old now (idle_of old now)
    → (new.seated ≡ old.seated) × (new.stage ≡ old.stage) × (new.last_input ≡ old.last_input)
    × (new.late ≡ old.late)
idle_kept old new now answer (inl none) is after =
    let same : new ≡ old = after ∙ ap (after_idle old now) (sym is ∙ none) in (
      ap (λ (s : SessionState). s.seated) same,
      ap (λ (s : SessionState). s.stage) same,
      ap (λ (s : SessionState). s.last_input) same,
      ap (λ (s : SessionState). s.late) same,
    )
idle_kept old new now answer (inr beat) is after =
    let same : new ≡ after_idle old now Beat =
    after ∙ ap (after_idle old now) (sym is ∙ beat) in (
      ap (λ (s : SessionState). s.seated) same,
      ap (λ (s : SessionState). s.stage) same,
      ap (λ (s : SessionState). s.last_input) same,
      ap (λ (s : SessionState). s.late) same,
    )

nothing_in : (whats : List What) → true ≡ (length whats == 0) → whats ≡ []
nothing_in [] is = refl
nothing_in (what ∷ whats) is = absurd (grind (arith, nat_tests))

-- nothing was to be posted
pub posts_empty : (hub : Beginning) (poster : Poster) (whats batch : List What)
    → true ≡ (length batch == 0) → HasTold hub poster whats 0
    → HasTold hub poster (whats ++ batch) 0
posts_empty hub poster whats batch none told =
    subst (λ (more : List What). HasTold hub poster (whats ++ more) 0) (sym (nothing_in batch none))
    (subst (λ (all : List What). HasTold hub poster all 0) (sym (append-nil whats)) told)

-- out of memory, nothing is posted nor written
pub ends_for_memory : (hub : Beginning) (poster : Option Poster) (whats : List What)
    (fault : SessionFault) (written : Option (List ℕ)) → fault.cause ≡ causes.NoMemory
    → EndsTo hub poster poster whats fault written written (Ok causes.NoMemory)
ends_for_memory hub poster whats fault written is =
    subst (λ (cause : SessionCause). EndsFor cause hub poster poster whats fault written written
    (Ok causes.NoMemory)) (sym is) (record { is = refl; poster = refl; kept = refl })

-- a session without a seat posts nothing
pub posts_nowhere : (hub : Beginning) (poster : Option Poster) (whats batch : List What)
    (written : Option (List ℕ)) → poster ≡ None
    → PosterTells hub poster (whats ++ batch) 0 × (written ≡ written)
posts_nowhere hub poster whats batch written none =
    (subst (λ (d : Option Poster). PosterTells hub d (whats ++ batch) 0) (sym none) tt, refl)

-- a receipt of the ticket's list is waited for as the ticket was
pub waits_for : (hub : Beginning) (poster : Poster) (whats batch : List What)
    (ticket receipt : Beginning) → receipt ≡ ticket → IsWaiting hub poster whats batch ticket
    → IsWaiting hub poster whats batch receipt
waits_for hub poster whats batch ticket receipt same waits =
    subst (IsWaiting hub poster whats batch) (sym same) waits
