-- What a round tells.
use Rattle.std.specs.Prelude.{◌≡◌, ℕ, ◌-◌, ◌==◌, List, [], ◌∷◌, ◌++◌, if◌then◌else◌, length, map}
use Rattle.std.specs.Prelude.{take, Option, None, Some, IfSome, MatchOption}
use Rattle.std.specs.Borrow.{Bor}
use Rattle.std.specs.List.{All, flat_map}
use Rattle.std.specs.Option.{option_to_list}
use Rattle.agg_types.specs.Naming.{place_of}
use Rattle.agg_types.specs.declared.config.Filter.{Filter}
use Rattle.agg_types.specs.declared.config.Logged.{Logged}
use Rattle.hub.specs.Changing.{SayBehind}
use Rattle.hub.specs.Trailed.{Trailed}
use Rattle.set_changes.specs.declared.change.Change.{Change}
use Rattle.logged_keys.specs.declared.found.Found.{Found}
use Rattle.logged_keys.specs.declared.keys.LoggedKeys.{LoggedKeys}
use Rattle.logged_keys.specs.declared.round.LeftOut.{LeftOut}
use Rattle.logged_keys.specs.declared.round.Round.{Round}
use Rattle.logged_keys.specs.declared.round.Told.{Told}

-- the place of a logged filter, where it is there
abbrev pub logged_place : List Filter → Logged → List ℕ
logged_place filters logged =
    option_to_list (place_of (λ filter. filter.name) filters logged.filter)

-- the places of those that are logged
abbrev pub logged_places : List Filter → List Logged → List ℕ
logged_places filters logs = flat_map (logged_place filters) logs

-- what was found of a filter says what came into its set and left it, behind a list of so many
-- events
abbrev pub IsFound : Trailed → ℕ → Found → Type 0
IsFound trail seen found = IfSome found.changes (λ changes.
    SayBehind trail found.filter seen (map (λ change. change.now) changes.items))

-- what was found of each of some filters, behind what was found before
abbrev pub AreFound : Trailed → ℕ → List ℕ → List Found → List Found → Type 0
AreFound trail seen filters before after = (more : List Found) × (after ≡ before ++ more)
    × (map (λ found. found.filter) more ≡ filters) × All (IsFound trail seen) more

-- what is told where these changes of a filter are
abbrev pub told_of : ℕ → List (Bor Change) → List Told
told_of filter changes = map (λ change. record { filter = filter; change = change }) changes

-- what is left out where so many aren't
abbrev pub left_of : ℕ → ℕ → List LeftOut
left_of filter count =
    if count == 0 then [] else record { filter = filter; count = Some count } ∷ []

-- What more is told and left out of a filter: its first changes, and how many others there are. Of
-- one whose changes aren't known it is said that some may be left out.
abbrev pub Share : Found → List Told → List LeftOut → Type 0
Share found told left = MatchOption found.changes
    ((told ≡ []) × (left ≡ record { filter = found.filter; count = None } ∷ []))
    (λ changes. (share : ℕ)
    × (told ≡ told_of found.filter (take share changes.items))
    × (left ≡ left_of found.filter (length changes.items - share)))

-- the same of each of some filters, in order
abbrev pub Shares : List Found → List Told → List LeftOut → Type 0
Shares [] told left = (told ≡ []) × (left ≡ [])
Shares (one ∷ found) told left = (told_first told_rest : List Told)
    × (left_first left_rest : List LeftOut) × (told ≡ told_first ++ told_rest)
    × (left ≡ left_first ++ left_rest) × Share one told_first left_first
    × Shares found told_rest left_rest

-- a round tells more, and leaves out more
pub record Adds (P : List Told → List LeftOut → Type 0) (before after : Round) : Type 0 where
  pub told : List Told
  pub left : List LeftOut
  pub told_behind : after.told.items ≡ before.told.items ++ told
  pub left_behind : after.left_out.items ≡ before.left_out.items ++ left
  pub holds : P told left

abbrev pub IsShared : Found → Round → Round → Type 0
IsShared found before after = Adds (Share found) before after

abbrev pub AreShared : List Found → Round → Round → Type 0
AreShared found before after = Adds (Shares found) before after

-- What is told of a trail's events: of each filter what came behind the list up to which that was
-- told, as far as it is known.
pub record IsRound (trail : Trailed) (keys : LoggedKeys) (round : Round) : Type 0 where
  pub found : List Found
  pub filters : map (λ found. found.filter) found ≡ keys.filters.items
  pub known : All (IsFound trail keys.seen) found
  pub shares : Shares found round.told.items round.left_out.items
