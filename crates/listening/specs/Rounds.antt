-- The rounds of a watch, the latest first, and what they say of a collector.
use Rattle.std.specs.Prelude.{◌≡◌, ℕ, ◌+◌, min, Bool, true, false, ◌&&◌, ◌||◌, not, nat_eq, nat_le}
use Rattle.std.specs.Prelude.{nat_lt, if◌then◌else◌, List, [], ◌∷◌, Option, None, Some}
use Rattle.listening.specs.declared.patience.Signs.{Signs}
use Rattle.listening.specs.declared.patience.Round.{Round}
use Rattle.program.specs.declared.fault.Stuck.{Stuck}
use Rattle.program.specs.declared.fault.Stuck.TheVariants.{Showing, Unshown, Unposted}
use Rattle.program.specs.declared.fault.Stuck.TheVariants.{Unseen}
use Rattle.listening.specs.declared.patience.Patience.{Patience}

-- what was seen before the first round
abbrev pub nothing : Signs
nothing =
    record { looks = 0; appended = 0; shown = 0; showings = 0; is_showing = false; moment = 0 }

-- what was seen last
abbrev pub last : List Round → Signs
last [] = nothing
last (round ∷ before) = round.signs

-- the ms that a round counts: half a second where it came more than 2 s late
abbrev pub counted : Round → ℕ
counted round = if nat_le round.passed 2500 then round.passed else 500

-- whether one showing was under way at both ends of a round
abbrev pub is_one : Signs → Signs → Bool
is_one before now =
    before.is_showing && now.is_showing && nat_eq now.showings before.showings

-- whether it went on, and nothing was shown
abbrev pub goes_on : Signs → Signs → Bool
goes_on before now = is_one before now && nat_eq now.shown before.shown

-- whether something waited to be shown, and nothing was shown
abbrev pub waits : Signs → Signs → Bool
waits before now = nat_lt before.shown before.appended && nat_eq now.shown before.shown

-- whether no moment was posted
abbrev pub stands_still : Signs → Signs → Bool
stands_still before now = nat_eq now.moment before.moment

-- whether nobody looked
abbrev pub is_blind : Signs → Signs → Bool
is_blind before now = nat_eq now.looks before.looks

-- the time of the latest rounds, as far back as something holds of what was seen before each of
-- them and in it; where that is left out, not of those in which one showing was under way
abbrev pub stretch : Bool → (Signs → Signs → Bool) → List Round → ℕ
stretch leaves_out holds [] = 0
stretch leaves_out holds (now ∷ before) =
    if holds (last before) now.signs
    then (if leaves_out && is_one (last before) now.signs then 0 else counted now)
    + stretch leaves_out holds before
    else 0

-- how long one showing has been under way, in which nothing was shown
abbrev pub under_way : List Round → ℕ
under_way = stretch false goes_on

-- how long something has waited, and nothing was shown
abbrev pub unshown : List Round → ℕ
unshown = stretch false waits

-- how long no moment was posted, beside showings
abbrev pub unposted : List Round → ℕ
unposted = stretch true stands_still

-- how long nobody looked, beside showings
abbrev pub unseen : List Round → ℕ
unseen = stretch true is_blind

-- whether a showing is under way that was so in the round before, too, or where none was
abbrev pub is_under_way : Signs → Signs → Bool
is_under_way before now =
    now.is_showing && (not before.is_showing || nat_eq now.showings before.showings)

-- why a collector is stuck, if it is: while a showing is under way only where that takes 60 s, else
-- where for 10 s nobody looked, nothing was shown that waited, or no moment was posted
abbrev pub judged : Bool → List Round → Option Stuck
judged is_under_way rounds =
    if is_under_way then (if nat_le 60000 (under_way rounds) then Some Showing else None)
    else if nat_le 10000 (unseen rounds) then Some Unseen
    else if nat_le 10000 (unshown rounds) then Some Unshown
    else if nat_le 10000 (unposted rounds) then Some Unposted else None

-- the same by the rounds alone
abbrev pub verdict : List Round → Option Stuck
verdict [] = None
verdict (now ∷ before) = judged (is_under_way (last before) now.signs) (now ∷ before)

-- what is kept of these rounds; of a time no more than 60 s
pub record IsAfter (patience : Patience) (rounds : List Round) : Type 0 where
  pub last : patience.last ≡ last rounds
  pub under_way : patience.under_way ≡ min 60000 (under_way rounds)
  pub unshown : patience.unshown ≡ min 60000 (unshown rounds)
  pub unposted : patience.unposted ≡ min 60000 (unposted rounds)
  pub unseen : patience.unseen ≡ min 60000 (unseen rounds)
