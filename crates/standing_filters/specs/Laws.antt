-- What kept verdicts say of a filter's set, now and as the clock goes on.
use Rattle.std.specs.Prelude.{◌≡◌, ◌≢◌, ◌==◌, ◌&&◌, ◌⊎◌, ℕ, ◌+◌, ◌≤◌, Bool, true, false, List}
use Rattle.std.specs.Prelude.{◌∷◌, Option}
use Rattle.agg_types.specs.declared.column.Col.{Col}
use Rattle.agg_types.specs.declared.config.Filter.{Filter}
use Rattle.crossing.specs.First.{IsFirstFrom}
use Rattle.standing_filters.specs.Turns.{IsTurned}
use Rattle.standing_filters.specs.Verdicts.{IsVerdict, holds_at, out}
use Rattle.standing_filters.specs.Watched.{IsFirstChange, IsForgotten, IsTouched, Watched}
use Rattle.standing_filters.specs.Watched.{is_among, unheld}
use Rattle.standing_filters.specs.Watched.{verdict_at}

-- every key has its verdict of a moment
abbrev pub AreVerdicts : (ℕ → List ℕ → Col → ℕ → ℕ) → (ℕ → List ℕ → ℕ → ℕ) → ℕ → Watched → Type 0
AreVerdicts summed living now w =
    (key : List ℕ) → IsVerdict summed living w.filter now key (verdict_at w.kept key)

-- at a moment the filter holds a key that it doesn't now, or the other way round
abbrev pub IsChanged : (ℕ → List ℕ → Col → ℕ → ℕ) → (ℕ → List ℕ → ℕ → ℕ) → Filter → ℕ → ℕ → Type 0
IsChanged summed living filter now t =
    (key : List ℕ) × (holds_at summed living filter key t ≢ holds_at summed living filter key now)

-- where every key has its verdict of now, the first change is that of the set
abbrev pub FirstChangeIsTheSets : Type 0
FirstChangeIsTheSets = (summed : ℕ → List ℕ → Col → ℕ → ℕ) (living : ℕ → List ℕ → ℕ → ℕ) (now : ℕ)
    (w : Watched) (next : Option ℕ) → AreVerdicts summed living now w → IsFirstChange w.kept next
    → IsFirstFrom (now + 1) (IsChanged summed living w.filter now) next

-- where every key had its verdict, and the values of one key of a table have changed since, a touch
-- of that key gives every key its verdict
abbrev pub TouchKeepsVerdicts : Type 0
TouchKeepsVerdicts = (before after : ℕ → List ℕ → Col → ℕ → ℕ) (living lives : ℕ → List ℕ → ℕ → ℕ)
    (table : ℕ) (key : List ℕ) (now : ℕ) (old new : Watched)
    → ((t : ℕ) (other : List ℕ) → (t ≢ table) ⊎ (other ≢ key)
    → (after t other ≡ before t other) × (lives t other ≡ living t other))
    → AreVerdicts before living now old → IsTouched after lives table key now old new
    → AreVerdicts after lives now new

-- where every key had its verdict, and keys of a table have no live row any more while the values
-- of all others are what they were, forgetting these keys gives every key its verdict
abbrev pub ForgettingKeepsVerdicts : Type 0
ForgettingKeepsVerdicts = (before after : ℕ → List ℕ → Col → ℕ → ℕ)
    (living lives : ℕ → List ℕ → ℕ → ℕ) (table : ℕ) (is_gone : List ℕ → Bool) (now : ℕ)
    (old new : Watched)
    → ((t : ℕ) (key : List ℕ) → ((t == table) && is_gone key) ≡ false
    → (after t key ≡ before t key) × (lives t key ≡ living t key))
    → ((key : List ℕ) (t : ℕ) → is_gone key ≡ true → lives table key t ≡ 0)
    → AreVerdicts before living now old → IsForgotten table is_gone old new
    → AreVerdicts after lives now new

-- Every key had its verdict, and the clock has gone on to t. Those that were to change up to then
-- are judged, by values that are the same from t on. Then every key has its verdict.
abbrev pub MomentKeepsVerdicts : Type 0
MomentKeepsVerdicts = (before after : ℕ → List ℕ → Col → ℕ → ℕ) (living lives : ℕ → List ℕ → ℕ → ℕ)
    (now t : ℕ) (old new : Watched) → now ≤ t
    → ((key : List ℕ) (s : ℕ) → t ≤ s
    → holds_at after lives old.filter key s ≡ holds_at before living old.filter key s)
    → AreVerdicts before living now old → IsTurned after lives t old new
    → AreVerdicts after lives t new

-- every key has its verdict of a moment but those that lie ahead, which are `out` until then
pub record AreVerdictsBut (summed : ℕ → List ℕ → Col → ℕ → ℕ) (living : ℕ → List ℕ → ℕ → ℕ)
    (now : ℕ) (ahead : List (List ℕ)) (w : Watched) : Type 0 where
  pub judged : (key : List ℕ) → is_among ahead key ≡ false
      → IsVerdict summed living w.filter now key (verdict_at w.kept key)
  pub unjudged : (key : List ℕ) → is_among ahead key ≡ true → verdict_at w.kept key ≡ out

-- where no other key of its table has a live row, a filter that holds no key is to judge these keys
abbrev pub AddingBegins : Type 0
AddingBegins = (summed : ℕ → List ℕ → Col → ℕ → ℕ) (living : ℕ → List ℕ → ℕ → ℕ) (now : ℕ)
    (filter : Filter) (keys : List (List ℕ))
    → ((key : List ℕ) (t : ℕ) → now ≤ t
    → living filter.table key t ≤ living filter.table key now)
    → ((key : List ℕ) → is_among keys key ≡ false → living filter.table key now ≡ 0)
    → AreVerdictsBut summed living now keys (unheld filter)

-- once it has judged the first of the keys that lie ahead, the others do
abbrev pub AddingGoesOn : Type 0
AddingGoesOn = (summed : ℕ → List ℕ → Col → ℕ → ℕ) (living : ℕ → List ℕ → ℕ → ℕ) (now : ℕ)
    (key : List ℕ) (ahead : List (List ℕ)) (old new : Watched) → is_among ahead key ≡ false
    → AreVerdictsBut summed living now (key ∷ ahead) old
    → IsTouched summed living old.filter.table key now old new
    → AreVerdictsBut summed living now ahead new
