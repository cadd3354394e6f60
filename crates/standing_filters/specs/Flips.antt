-- Flips: which keys came into the sets of standing filters, and which left them.
use Rattle.std.specs.Prelude.{◌≡◌, ◌≢◌, ◌==◌, ◌&&◌, ◌+◌, ◌<◌, ℕ, Bool, true, false, List, [], ◌∷◌}
use Rattle.std.specs.Prelude.{◌++◌, Option, None, Some, if◌then◌else◌, slice_index_or, unwrap_or}
use Rattle.standing_filters.specs.Turns.{same_key}
use Rattle.standing_filters.specs.Watched.{Watched, no_filter, unheld, verdict_at}
use Rattle.standing_filters.specs.declared.flips.Flip.{Flip}

-- some flips, or that they are lost
pub record Flipped : Type 0 where
  pub flips : List Flip
  pub lost : Bool

abbrev pub none_yet : Flipped
none_yet = record { flips = []; lost = false }

-- whether a flip is one of a filter and a key
abbrev pub is_of : Flip → ℕ → List ℕ → Bool
is_of flip filter key = flip.filter == filter && same_key flip.key key

-- the later of two sayings
abbrev pub later_of : Option Bool → Option Bool → Option Bool
later_of first None = first
later_of first (Some said) = Some said

-- what the last of some flips says of a filter and a key, if one is of them
abbrev pub last_said : List Flip → ℕ → List ℕ → Option Bool
last_said [] filter key = None
last_said (flip ∷ flips) filter key = later_of
    (if is_of flip filter key then Some flip.is_in else None) (last_said flips filter key)

-- whether a filter holds a key behind these flips, where it did before or not
abbrev pub said : List Flip → ℕ → List ℕ → Bool → Bool
said flips filter key before = unwrap_or (last_said flips filter key) before

-- They weren't lost, more stand behind those that stood, and these tell of each filter and key
-- what is held later by what was held.
pub record Tells (held later : ℕ → List ℕ → Bool) (old new : Flipped) : Type 0 where
  pub more : List Flip
  pub known : old.lost ≡ false
  pub added : new.flips ≡ old.flips ++ more
  pub said : (filter : ℕ) (key : List ℕ)
      → later filter key ≡ said more filter key (held filter key)

-- the same, unless they are lost
abbrev pub TellsIfKnown : (ℕ → List ℕ → Bool) → (ℕ → List ℕ → Bool) → Flipped → Flipped → Type 0
TellsIfKnown held later old new = new.lost ≡ false → Tells held later old new

-- whether the filter at a place holds a key
abbrev pub holding : List Watched → ℕ → List ℕ → Bool
holding filters place key =
    (verdict_at (slice_index_or filters place (unheld no_filter)).kept key).holds

-- ---- one filter at a time
-- what is noted of a filter and a key: nothing where it holds it as before
abbrev pub noted : ℕ → List ℕ → Bool → Bool → List Flip
noted filter key true true = []
noted filter key false false = []
noted filter key true false = record { filter = filter; key = key; is_in = false } ∷ []
noted filter key false true = record { filter = filter; key = key; is_in = true } ∷ []

-- unless they are lost, they weren't, and what there is to note stands behind them
pub record IsNoted (filter : ℕ) (key : List ℕ) (before now : Bool) (old new : Flipped)
    : Type 0 where
  pub known : old.lost ≡ false
  pub added : new.flips ≡ old.flips ++ noted filter key before now

-- flips of the filter at a place alone
pub record TellsAt (place : ℕ) (held later : List ℕ → Bool) (old new : Flipped) : Type 0 where
  pub more : List Flip
  pub known : old.lost ≡ false
  pub added : new.flips ≡ old.flips ++ more
  pub said : (key : List ℕ) → later key ≡ said more place key (held key)
  pub others : (other : ℕ) (key : List ℕ) → other ≢ place → last_said more other key ≡ None

-- flips of filters of which the first stands at a place
pub record TellsFrom (place : ℕ) (held later : ℕ → List ℕ → Bool) (old new : Flipped)
    : Type 0 where
  pub more : List Flip
  pub known : old.lost ≡ false
  pub added : new.flips ≡ old.flips ++ more
  pub said : (filter : ℕ) (key : List ℕ)
      → later filter key ≡ said more (place + filter) key (held filter key)
  pub below : (filter : ℕ) (key : List ℕ) → filter < place → last_said more filter key ≡ None
