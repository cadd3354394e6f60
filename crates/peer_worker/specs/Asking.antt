-- When a session asks its proxy for all rows again.
use Rattle.std.specs.Prelude.{◌≡◌, ℕ, ◌+◌, ◌-◌, nat_le, nat_lt, Bool, true, false, not, ◌&&◌, ◌==◌}
use Rattle.std.specs.Prelude.{if◌then◌else◌, List, [], ◌∷◌, Option, None, Some}
use Rattle.peer_worker.specs.declared.asking.Answer.{Answer}
use Rattle.peer_worker.specs.declared.asking.Answer.TheVariants.{Finished, Partial}
use Rattle.peer_worker.specs.declared.asking.Asking.{Asking}
use Rattle.peer_worker.specs.declared.asking.TheConstants.{MOST_ASKED}

-- an answer to a resync request was heard at a moment, or it was asked again
pub data Event : Type 0 where
  Heard : Answer → ℕ → Event
  Asked : Event

-- how often it was asked again in these events, of which the newest is first
abbrev pub asked_in : List Event → ℕ
asked_in [] = 0
asked_in (Heard answer moment ∷ earlier) = asked_in earlier
asked_in (Asked ∷ earlier) = asked_in earlier + 1

-- when the last partial was heard, if it wasn't asked behind that
abbrev pub partial_in : List Event → Option ℕ
partial_in [] = None
partial_in (Heard Finished moment ∷ earlier) = partial_in earlier
partial_in (Heard Partial moment ∷ earlier) = Some moment
partial_in (Asked ∷ earlier) = None

-- whether finished was heard
abbrev pub is_over_in : List Event → Bool
is_over_in [] = false
is_over_in (Heard Finished moment ∷ earlier) = true
is_over_in (Heard Partial moment ∷ earlier) = is_over_in earlier
is_over_in (Asked ∷ earlier) = is_over_in earlier

-- how long behind a partial it is asked that was asked again so often before, in ms
abbrev pub wait_after : ℕ → ℕ
wait_after asked =
    if asked == 0 then 2000
    else if asked == 1 then 5000
    else if asked == 2 then 15000
    else 60000

-- whether that long has gone by since a partial
abbrev pub is_waited : Option ℕ → ℕ → ℕ → Bool
is_waited None wait now = false
is_waited (Some partial) wait now = nat_le wait (now - partial)

-- Whether it is asked again at a moment that was asked again so often before: a while behind a
-- partial, not once finished was heard, and at most so often.
abbrev pub is_due : ℕ → Option ℕ → Bool → ℕ → Bool
is_due asked partial over now =
    not over && nat_lt asked MOST_ASKED && is_waited partial (wait_after asked) now

-- the same behind these events
abbrev pub asks_at : List Event → ℕ → Bool
asks_at events now = is_due (asked_in events) (partial_in events) (is_over_in events) now

-- the events behind a moment at which it was asked, if it was
abbrev pub noted : Bool → List Event → List Event
noted asks events = if asks then Asked ∷ events else events

-- what is kept stands for these events
pub record StandsFor (asking : Asking) (events : List Event) : Type 0 where
  pub asked : asking.asked ≡ asked_in events
  pub partial : asking.partial ≡ partial_in events
  pub over : asking.is_over ≡ is_over_in events
