-- When rows end, and when the rows of a place are looked at.
use Rattle.std.specs.Prelude.{◌≡◌, ◌≢◌, ◌≤◌, ℕ, Bool, true, false, List, [], Option, Some, None}
use Rattle.std.specs.Prelude.{max, min, nat_lt, is_some, unwrap_or, filter}
use Rattle.std.specs.BTreeMap.{is_at}
use Rattle.std.specs.List.{AllByRecursion, list_any}
use Rattle.std.specs.Map.{lookup, remove_entry}
use Rattle.std.specs.Option.{option_map}
use Rattle.std.specs.Ordering.{nat_cmp}
use Rattle.place_index.specs.Places.{key_at, value_at, in_order}
use Rattle.place_plans.specs.Plans.{plan_at}
use Rattle.peer_rows.specs.Places.{Places}
use Rattle.peer_rows.specs.Table.{TableRows, rows_in, spot_cmp}
use Rattle.peer_rows.specs.declared.ends.Ends.{Ends}
use Rattle.peer_rows.specs.declared.row.Row.{Row}

-- the moment from which a row has ended, if it ends
abbrev pub end_of : Row → Option ℕ
end_of row = option_map (λ ends. max ends row.arrived) row.ends

-- whether an end, if there is one, is behind a moment
abbrev pub is_behind : ℕ → Option ℕ → Bool
is_behind t None = true
is_behind t (Some end) = nat_lt t end

-- whether a row lives at a moment
abbrev pub lives_at : ℕ → Row → Bool
lives_at t row = is_behind t (end_of row)

-- all rows live at a moment
abbrev pub AreLive : ℕ → List (ℕ × Row) → Type 0
AreLive t rows = AllByRecursion (λ r. lives_at t r.1 ≡ true) rows

-- a peer has a row that has ended at a moment
pub record HasEnded (t : ℕ) (rows : List (ℕ × Row)) (peer : ℕ) : Type 0 where
  pub row : Row
  pub found : lookup (is_at (nat_cmp peer)) rows ≡ Some row
  pub ended : lives_at t row ≡ false

-- there are two ends, and the first is no later than the other
abbrev pub IsEndBy : Option ℕ → Option ℕ → Type 0
IsEndBy None other = ⊥
IsEndBy (Some first) None = ⊥
IsEndBy (Some first) (Some other) = first ≤ other

-- the sooner of two moments, where there are both, and else the one that there is
abbrev pub sooner : Option ℕ → Option ℕ → Option ℕ
sooner None b = b
sooner (Some a) None = Some a
sooner (Some a) (Some b) = Some (min a b)

-- an end, if there is one, isn't before a moment
abbrev pub IsFrom : ℕ → Option ℕ → Type 0
IsFrom at None = Unit {0}
IsFrom at (Some end) = at ≤ end

-- no row ends before a moment
abbrev pub EndFrom : ℕ → List (ℕ × Row) → Type 0
EndFrom at rows = AllByRecursion (λ r. IsFrom at (end_of r.1)) rows

-- whether some row ends
abbrev pub any_ends : List (ℕ × Row) → Bool
any_ends rows = list_any (λ r. is_some (end_of r.1)) rows

-- the least end of rows; none where no row ends
abbrev pub IsLeast : List (ℕ × Row) → Option ℕ → Type 0
IsLeast rows None = any_ends rows ≡ false
IsLeast rows (Some end) = (any_ends rows ≡ true) × EndFrom end rows

-- rows are looked at before one ends
abbrev pub IsInTime : List (ℕ × Row) → Option ℕ → Type 0
IsInTime rows None = ⊥
IsInTime rows (Some at) = EndFrom at rows

-- rows of which none ends aren't looked at, and others in time, if no plan was missed
pub record IsPlanned (missed : Bool) (rows : List (ℕ × Row)) (plan : Option ℕ) : Type 0 where
  pub none : any_ends rows ≡ false → plan ≡ None
  pub in_time : missed ≡ false → any_ends rows ≡ true → IsInTime rows plan

-- the rows in the place of a number
abbrev pub rows_at : Places → ℕ → List (ℕ × Row)
rows_at places at = unwrap_or (value_at places at) []

-- so it is with the rows of each place
abbrev pub ArePlanned : Places → Ends → Type 0
ArePlanned places ends =
    (p : ℕ) → IsPlanned ends.missed (rows_at places p) (plan_at ends.plans p)

-- and with those of each place but one
abbrev pub AreElse : ℕ → Places → Ends → Type 0
AreElse at places ends =
    (p : ℕ) → p ≢ at → IsPlanned ends.missed (rows_at places p) (plan_at ends.plans p)

-- one place alone may have other rows than before
abbrev pub OthersStay : ℕ → Places → Places → Type 0
OthersStay at old new = (p : ℕ) → p ≢ at → rows_at new p ≡ rows_at old p

-- the rows that live at a moment are the same
abbrev pub StayLive : ℕ → Places → Places → Type 0
StayLive t old new = filter (λ e. lives_at t e.1) (rows_in (in_order new))
    ≡ filter (λ e. lives_at t e.1) (rows_in (in_order old))

-- a place has been looked at: all its rows live, and are looked at later
pub record IsLookedAt (t : ℕ) (ends : Ends) (places : Places) (at : ℕ) : Type 0 where
  pub live : AreLive t (rows_at places at)
  pub planned : IsPlanned ends.missed (rows_at places at) (plan_at ends.plans at)

-- the row of a peer is gone, of the key in a place
abbrev pub IsRowGone : ℕ → ℕ → Places → Places → Type 0
IsRowGone at peer old new = (key : List ℕ) → key_at old at ≡ Some key
    → rows_in (in_order new)
    ≡ remove_entry (is_at (spot_cmp (key, peer))) (rows_in (in_order old))

-- a table without the rows that have ended at a moment
abbrev pub ended : ℕ → TableRows → TableRows
ended t table = record table { entries = filter (λ e. lives_at t e.1) table.entries }
