-- What standing filters are as the clock goes on.
use Rattle.std.specs.Prelude.{◌≡◌, ℕ, ◌+◌, ◌*◌, ◌≤◌, Bool, true, false, nat_le, List, Option}
use Rattle.std.specs.Prelude.{None, Some, length, sum_by}
use Rattle.std.specs.BTreeMap.{is_at}
use Rattle.std.specs.Cmp.Lexicographic.{slice_cmp}
use Rattle.std.specs.List.{AllByRecursion, AllZip, IsDistinct}
use Rattle.std.specs.Ordering.{nat_cmp}
use Rattle.agg_types.specs.declared.column.Col.{Col}
use Rattle.standing_filters.specs.Verdicts.{IsVerdict}
use Rattle.standing_filters.specs.Watched.{Watched, verdict_at}
use Rattle.standing_filters.specs.declared.judging.Verdict.{Verdict}

abbrev pub same_key : List ℕ → List ℕ → Bool
same_key key other = is_at (slice_cmp nat_cmp key) other

-- whether there is a moment, and it is t or before
abbrev pub has_come : ℕ → Option ℕ → Bool
has_come t None = false
has_come t (Some moment) = nat_le moment t

-- whether a verdict changes up to t
abbrev pub is_due : ℕ → Verdict → Bool
is_due t verdict = has_come t verdict.next

-- Each key whose verdict was to change up to t has its verdict at t, and the others have theirs.
pub record IsTurned (summed : ℕ → List ℕ → Col → ℕ → ℕ) (living : ℕ → List ℕ → ℕ → ℕ) (t : ℕ)
    (old new : Watched) : Type 0 where
  pub filter : new.filter ≡ old.filter
  pub judged : (key : List ℕ) → is_due t (verdict_at old.kept key) ≡ true
      → IsVerdict summed living old.filter t key (verdict_at new.kept key)
  pub others : (key : List ℕ) → is_due t (verdict_at old.kept key) ≡ false
      → verdict_at new.kept key ≡ verdict_at old.kept key

-- each of some filters
abbrev pub AreTurned : (ℕ → List ℕ → Col → ℕ → ℕ) → (ℕ → List ℕ → ℕ → ℕ) → ℕ → List Watched
    → List Watched → Type 0
AreTurned summed living t old new = AllZip (λ a b. IsTurned summed living t a b) old new

-- no verdict changes up to t
abbrev pub IsQuiet : ℕ → Watched → Type 0
IsQuiet t w = (key : List ℕ) → is_due t (verdict_at w.kept key) ≡ false

-- keys of a filter whose verdicts change up to t, each once
pub record AreDue (t : ℕ) (w : Watched) (keys : List (List ℕ)) : Type 0 where
  pub due : AllByRecursion (λ key. is_due t (verdict_at w.kept key) ≡ true) keys
  pub apart : IsDistinct same_key keys

-- at most 505 values were read for each of them
pub record IsReadFor (t : ℕ) (w : Watched) (before after : ℕ) : Type 0 where
  pub keys : List (List ℕ)
  pub due : AreDue t w keys
  pub few : after ≤ before + 505 * length keys

-- at most 505 values were read for each pair of a filter and a key whose verdict changes up to t
pub record AreReadFor (t : ℕ) (filters : List Watched) (before after : ℕ) : Type 0 where
  -- the keys of each filter
  pub keys : List (List (List ℕ))
  pub due : AllZip (λ w ks. AreDue t w ks) filters keys
  pub few : after ≤ before + 505 * sum_by (λ ks. length ks) keys
