-- Each step keeps the rule over the copy that is shown.
use Rattle.std.proofs.Common.{◌≡◌, ◌≢◌, ℕ, List, [], ◌∷◌, Option, None, Some, refl, ap, ◌∙◌, subst}
use Rattle.std.proofs.Common.{sym, ⊎_elim, set}
use mathlib.Core.Option.{some}
use lib.ListN.{get_elem?}
use Rattle.fleet_model.specs.State.{IsStateOf}
use Rattle.left_right.specs.Register.{Admits, Forks, Merges, Turns, TurnsAt}
use Rattle.atomic_table.proofs.Lists.{at_set, at_snoc}
use Rattle.hub.specs.History.{Beginning}
use Rattle.hub.specs.Copied.{Copied, Copy, Fits, IsWhole, Keeps, Sees, whole}
use Rattle.hub.specs.Kept.{IsTold}
use Rattle.hub.specs.Posts.{Follows}
use Rattle.logbook.specs.Pages.{Book}
use mathlib.Core.List.{IsPrefix}
use Rattle.hub.proofs.Fronts.{prefix_both}

abbrev View : Type 0
View = Option Beginning

fits_newcomer : (x : Copied) (v : View) → None ≡ v → Fits x v
fits_newcomer x v e = subst (Fits x) e tt

-- a new hub's writer was told nothing
pub begins : (x : Copy) → IsWhole x.copied → Keeps x (None ∷ [])
begins x is = (
  is,
  λ seat v at. ⊎_elim (λ (e : get_elem? [] seat ≡ some v). absurd (cc e))
      (fits_newcomer x.copied v) (at_snoc [] None v seat at),
)

-- a new reader was told nothing
pub admits : Admits Keeps None
admits x views h = (
  h.0,
  λ seat v at. ⊎_elim (h.1 seat v) (fits_newcomer x.copied v)
      (at_snoc views None v seat at),
)

fits_same : (x y : Copied) (v : View) → y.at.of ≡ x.at.of → Fits x v → Fits y v
fits_same x y None same h = tt
fits_same x y (Some told) same h = subst (λ of. told.of ≡ of) (sym same) h

fits_set : (x y : Copied) (views : List View) (place : ℕ) (w : View) → y.at.of ≡ x.at.of
    → ((seat : ℕ) (v : View) → get_elem? views seat ≡ some v → Fits x v) → Fits y w
    → (seat : ℕ) (v : View) → get_elem? (set views place w) seat ≡ some v → Fits y v
fits_set x y views place w same h fits seat v at =
    ⊎_elim (λ (t : (seat ≡ place) × (w ≡ v)). subst (Fits y) t.1 fits)
    (λ (t : (seat ≢ place) × (get_elem? views seat ≡ some v)). fits_same x y v same
    (h seat v t.1))
    (at_set views place seat w v at)

-- another copy of the same log is shown
pub publishes : (seat : ℕ) (v : View) (x y : Copy) → IsWhole y.copied
    → y.copied.at.of ≡ x.copied.at.of → TurnsAt Keeps seat v x y Sees
publishes seat v x y is same views h at = (
  Some y.copied.at,
  (is, fits_set x.copied y.copied views seat (Some y.copied.at) same h.1 refl),
  (is, fits_same x.copied y.copied v same (h.1 seat v at), refl),
)

-- a reader finds the copy that is shown
pub looks : (seat : ℕ) (v : View) → Turns Keeps seat v (λ x. x) Sees
looks seat v x views h at = publishes seat v x x h.0 refl views h at

-- the writer tells what it knows
pub forks : (seat : ℕ) (v : View) → Forks Keeps seat v v v
forks seat v x views h at =
    let fits = h.1 seat v at in (
      h.0,
      λ place u there. ⊎_elim (fits_set x.copied x.copied views seat v refl h.1 fits place u)
          (λ (e : v ≡ u). subst (Fits x.copied) e fits) (at_snoc
          (set views seat v) v u place there),
    )

-- a reader takes in what the writer told
pub merges : (seat : ℕ) (v : View) (other : ℕ) (w : View) → Merges Keeps seat v other w w None
merges seat v other w x views h at apart there =
    let fits : Fits x.copied w = ⊎_elim (λ (t : (other ≡ seat) × (w ≡ w)). absurd (apart t.0))
    (λ (t : (other ≢ seat) × (get_elem? views other ≡ some w)). h.1 other w t.1)
    (at_set views seat other w w there) in (
      h.0,
      fits_set x.copied x.copied (set views seat w) other None refl
          (fits_set x.copied x.copied views seat w refl h.1 fits) tt,
    )

-- a copy that has taken exactly a beginning is whole
pub whole_is : (x : Copied) (b : Beginning) → x ≡ whole b → IsWhole x
unfolding IsStateOf
whole_is x b is = subst IsWhole (sym is) (record { took = refl; stands = refl })

-- what publishing owes, where the operations bring the copy to a beginning of its log
pub shows : (seat : ℕ) (v : View) (x y : Copy) (b : Beginning) → y.copied ≡ whole b
    → x.copied.at.of ≡ b.of → TurnsAt Keeps seat v x y Sees
shows seat v x y b is same =
    publishes seat v x y (whole_is y.copied b is) (ap (λ (c : Copied). c.at.of) is ∙ sym same)

-- who finds the copy is told of the log that it was told of before
pub told_again : (book : Book) (x : Copied) (v w : View) → IsTold book v → Fits x v
    → w ≡ Some x.at → IsTold book w
told_again book x None w told fits is = absurd told
told_again book x (Some before) w told fits is =
    subst (IsTold book) (sym is) (sym fits ∙ told)

-- a beginning of one log and fleet that is no shorter is a later one
pub follows_on : (b later : Beginning) → later.of ≡ b.of → later.config ≡ b.config
    → later.opening ≡ b.opening → IsPrefix b.events later.events → Follows b later
follows_on b later of config opening prefix = record {
  same = λ i. record {
    of = of i;
    config = config i;
    opening = opening i;
    events = later.events;
  };
  events = prefix;
}

-- two beginnings of one log and fleet that begin with one another are the same
pub same_beginning : (b other : Beginning) → other.of ≡ b.of → other.config ≡ b.config
    → other.opening ≡ b.opening → IsPrefix b.events other.events → IsPrefix other.events b.events
    → other ≡ b
same_beginning b other of config opening prefix back =
    let events : other.events ≡ b.events = prefix_both other.events b.events back prefix in
    λ i. record { of = of i; config = config i; opening = opening i; events = events i }

-- who finds a copy knows of which log it is
pub log_of : (book : Book) (x : Copied) (v : View) → IsTold book v → Fits x v → x.at.of ≡ book
log_of book x None told fits = absurd told
log_of book x (Some before) told fits = sym fits ∙ told
