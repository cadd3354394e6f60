-- What a turn does about one key.
use Rattle.std.specs.Prelude.{◌≡◌, ℕ, ◌+◌, ◌-◌, ◌*◌, Bool, true, false, ◌&&◌, ◌||◌, not}
use Rattle.std.specs.Prelude.{nat_le, nat_lt, if◌then◌else◌, Option, None, Some}
use Rattle.std.specs.Bool.{then_some}
use Rattle.pushed_keys.specs.declared.change.TheConstants.{REFRESH_AHEAD}
use Rattle.pushed_keys.specs.declared.change.Change.{Change}
use Rattle.pushed_keys.specs.declared.change.Change.TheVariants.{Put, TakeAway}
use Rattle.pushed_keys.specs.declared.change.Turn.{Turn}
use Rattle.pushed_keys.specs.declared.pushed.Pushed.{Pushed}

-- a key that was put at s is told while its life hasn't gone by
abbrev pub is_told : Pushed → ℕ → ℕ → Bool
is_told pushed now s = nat_lt (now - s) pushed.life

-- it is put again from a while before half of its life on
abbrev pub is_due : Pushed → ℕ → ℕ → Bool
is_due pushed now s = nat_le pushed.life (2 * (now - s + REFRESH_AHEAD))

-- a key of the set is put where it never was, where all is asked for anew, and where it is due
abbrev pub is_written : Pushed → Turn → Option ℕ → Bool
is_written pushed turn None = true
is_written pushed turn (Some s) = turn.anew || is_due pushed turn.now s

-- a key of the set is put anew exactly where it was put before this moment
abbrev pub IsStillFrom : Pushed → Turn → ℕ → Type 0
IsStillFrom pushed turn from = (put : ℕ) → is_written pushed turn (Some put) ≡ nat_lt put from

-- every key of the set is put anew
abbrev pub NoneIsStill : Pushed → Turn → Type 0
NoneIsStill pushed turn = (put : ℕ) → is_written pushed turn (Some put) ≡ true

-- whether a key that isn't in the set is still told
abbrev pub is_left : Pushed → Turn → Option ℕ → Bool
is_left pushed turn None = false
is_left pushed turn (Some s) = is_told pushed turn.now s

-- whether a key that isn't in the set and was put then keeps its mark
abbrev pub is_held : Pushed → Turn → ℕ → Bool
is_held pushed turn s = pushed.holds && is_told pushed turn.now s

-- What is written of a key that is in the set or not, and was last put then, if ever. One that left
-- the set is taken away while it is told, unless the table holds it.
unfoldable pub change_of : Pushed → Turn → Bool → Option ℕ → Option Change
change_of pushed turn true put = then_some (is_written pushed turn put) Put
change_of pushed turn false put =
    then_some (not pushed.holds && is_left pushed turn put) TakeAway

-- when a key was last put, behind the turn; none where it isn't told any more
unfoldable pub put_after : Pushed → Turn → Bool → Option ℕ → Option ℕ
put_after pushed turn true put = if is_written pushed turn put then Some turn.now else put
put_after pushed turn false put = if pushed.holds && is_left pushed turn put then put else None

-- when a key that was put then, and whose mark is kept, was last put, behind the turn
abbrev pub put_again : Pushed → Turn → Bool → ℕ → ℕ
put_again pushed turn true s = if is_written pushed turn (Some s) then turn.now else s
put_again pushed turn false s = s
