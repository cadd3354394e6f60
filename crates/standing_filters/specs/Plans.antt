-- Planned changes: for each place the moment at which the verdict in it changes next.
use Rattle.std.specs.Prelude.{◌≡◌, ◌≢◌, ℕ, ◌≤◌, Bool, false, ◌&&◌, ◌==◌}
use Rattle.std.specs.Prelude.{if◌then◌else◌, List, [], ◌∷◌}
use Rattle.std.specs.Prelude.{Option, None, Some, length}
use Rattle.std.specs.Borrow.{Bor}
use Rattle.std.specs.BTreeMap.{is_at}
use Rattle.std.specs.Cmp.Lexicographic.{slice_cmp}
use Rattle.std.specs.List.{AllByRecursion, list_any}
use Rattle.std.specs.Map.{lookup}
use Rattle.std.specs.Ordering.{nat_cmp}
use Rattle.agg_types.specs.declared.config.Filter.{Filter}
use Rattle.agg_types.specs.declared.limits.TheConstants.{MOST_CONDS}
use Rattle.place_index.specs.Places.{AreDistinct, in_order}
use Rattle.place_plans.specs.Plans.{plan_at}
use Rattle.standing_filters.specs.Placed.{VerdictPlaces, change_in}
use Rattle.standing_filters.specs.Watched.{Watched, verdict_at}
use Rattle.standing_filters.specs.declared.judging.Verdict.{Verdict}

-- the verdict that is kept on a key
abbrev pub kept_at : List (List ℕ × Verdict) → List ℕ → Option Verdict
kept_at kept key = lookup (is_at (slice_cmp nat_cmp key)) kept

-- the verdict on a key becomes this, those on others stay
abbrev pub Becomes : List ℕ → Verdict → List (List ℕ × Verdict) → List (List ℕ × Verdict) → Type 0
Becomes key verdict old new = (q : List ℕ) → verdict_at new q
    ≡ (if is_at (slice_cmp nat_cmp key) q then verdict else verdict_at old q)

-- ---- changes by key

-- whether entries have a key at a moment
abbrev pub has_plan : List (ℕ × List ℕ) → ℕ × List ℕ → Bool
has_plan entries e =
    list_any (λ entry. e.0 == entry.0 && is_at (slice_cmp nat_cmp e.1) entry.1) entries

-- whether there is a moment, and it is this one
abbrev pub is_moment : Option ℕ → ℕ → Bool
is_moment None t = false
is_moment (Some moment) t = t == moment

-- entries have each key at the moment at which its verdict changes, and nothing else
abbrev pub IsPlanOf : List (List ℕ × Verdict) → List (ℕ × List ℕ) → Type 0
IsPlanOf kept entries =
    (e : ℕ × List ℕ) → has_plan entries e ≡ is_moment (verdict_at kept e.1).next e.0

-- entries with one more before them, where there is a moment
abbrev pub with_change : Option ℕ → List ℕ → List (ℕ × List ℕ) → List (ℕ × List ℕ)
with_change None key entries = entries
with_change (Some t) key entries = (t, key) ∷ entries

-- the keys whose verdicts change, each at that moment
abbrev pub changes_of : List (List ℕ × Verdict) → List (ℕ × List ℕ)
changes_of [] = []
changes_of (e ∷ kept) = with_change e.1.next e.0 (changes_of kept)

-- an entry whose key is lent, as the entry
abbrev pub lent_change : ℕ × Bor (List ℕ) → ℕ × List ℕ
lent_change e = (e.0, e.1.now)

-- ---- plans by place

-- the planned moment of each place, or that they are lost
pub record Planning : Type 0 where
  pub moments : List (Option ℕ)
  pub lost : Bool

-- unless they are lost, they weren't, and a place has this moment or none; the others have theirs
pub record IsPlanned (place : ℕ) (next : Option ℕ) (old new : Planning) : Type 0 where
  pub known : old.lost ≡ false
  pub here : plan_at new.moments place ≡ next
  pub others : (p : ℕ) → p ≢ place → plan_at new.moments p ≡ plan_at old.moments p

-- each place has the moment at which its verdict changes, unless the plans are lost
abbrev pub ArePlanned : VerdictPlaces → Planning → Type 0
ArePlanned places plans =
    plans.lost ≡ false → (p : ℕ) → plan_at plans.moments p ≡ change_in places p

-- each place but one
abbrev pub ArePlannedBut : ℕ → VerdictPlaces → Planning → Type 0
ArePlannedBut at places plans =
    plans.lost ≡ false → (p : ℕ) → p ≢ at → plan_at plans.moments p ≡ change_in places p

-- the least of the moments of places, or none where no place has one
abbrev pub IsFirstOf : (ℕ → Option ℕ) → Option ℕ → Type 0
IsFirstOf moment None = (p : ℕ) → moment p ≡ None
IsFirstOf moment (Some t) = ((p : ℕ) × (moment p ≡ Some t))
    × ((p u : ℕ) → moment p ≡ Some u → t ≤ u)

-- ---- a filter with verdicts and plans

-- a filter, the verdicts on its keys, for how many more there is room, and when they change
pub record Watching : Type 0 where
  pub filter : Filter
  pub places : VerdictPlaces
  pub room : ℕ
  pub plans : Planning

-- the verdicts in the order of the keys
abbrev pub kept_by : Watching → List (List ℕ × Verdict)
kept_by w = in_order w.places

-- the same without places and plans
abbrev pub view_of_watch : Watching → Watched
view_of_watch w = record { filter = w.filter; kept = kept_by w }

-- what holds of a standing filter between calls
pub record IsWatch (w : Watching) : Type 0 where
  pub few : length w.filter.conds ≤ MOST_CONDS
  pub distinct : AreDistinct w.places
  pub planned : ArePlanned w.places w.plans

-- the same while the verdict in a place is changed
pub record IsWatchBut (at : ℕ) (w : Watching) : Type 0 where
  pub few : length w.filter.conds ≤ MOST_CONDS
  pub distinct : AreDistinct w.places
  pub planned : ArePlannedBut at w.places w.plans

-- what holds of each of them
abbrev pub AreWatches : List Watching → Type 0
AreWatches watches = AllByRecursion IsWatch watches
