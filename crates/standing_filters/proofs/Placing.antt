-- Verdicts in places, as one comes, goes or becomes another.
use Rattle.std.proofs.Common.{◌≡◌, ℕ, zero, suc, ◌≤◌, Bool, true, false}
use Rattle.std.proofs.Common.{cond, List, [], ◌∷◌, length}
use Rattle.std.proofs.Common.{Option, Some, None, refl, ap, ◌∙◌}
use Rattle.std.specs.Prelude.{slice_set, unwrap_or}
use Rattle.std.specs.Option.{option_map}
use Rattle.std.proofs.lemmas.List.{get_or-set_other}
use Rattle.std.specs.Map.{lookup}
use Rattle.place_index.specs.Places.{item_at, laid}
use Rattle.place_index.proofs.Leading.{laid_other, laid_same}
use Rattle.place_index.proofs.Ordered.{at_key}
use Rattle.standing_filters.specs.Placed.{AreAlikeBut, IsSetAt}
use Rattle.standing_filters.specs.Placed.{VerdictPlaces}
use Rattle.standing_filters.specs.Plans.{Becomes}
use Rattle.standing_filters.specs.Verdicts.{out}
use Rattle.standing_filters.specs.declared.judging.Verdict.{Verdict}

abbrev Item : Type 0
Item = Option (List ℕ × Verdict)

-- the key of what lies in a place
abbrev pub key_of : Item → Option (List ℕ)
key_of item = option_map (λ (x : List ℕ × Verdict). x.0) item

-- ---- what lies in a place
-- what was laid down in a place
pub set_itself : (places : VerdictPlaces) (at : ℕ) (item : Item)
    → IsSetAt at places (slice_set places at item)
set_itself [] zero item = refl
set_itself [] (suc at) item = refl
set_itself (x ∷ places) zero item = refl
set_itself (x ∷ places) (suc at) item = ap (λ (l : VerdictPlaces). x ∷ l)
    (set_itself places at item)

pub others_set : (at : ℕ) (old new : VerdictPlaces) → IsSetAt at old new → AreAlikeBut at old new
others_set at old new set p other =
    ap (λ (l : VerdictPlaces). item_at l p) set
    ∙ get_or-set_other old at p (item_at new at) None other

-- ---- what is found of a key becomes another
pub becomes_found : (key : List ℕ) (now : Option Verdict) (old new : List (List ℕ × Verdict))
    → ((q : List ℕ) → lookup (at_key q) new ≡ cond (at_key key q) now (lookup (at_key q) old))
    → Becomes key (unwrap_or now out) old new
becomes_found key now old new found = λ q. ap (λ o. unwrap_or o out) (found q)
    ∙ by (at_key key q) (lookup (at_key q) old)
  where
    by : (b : Bool) (was : Option Verdict) → unwrap_or (cond b now was) out
        ≡ cond b (unwrap_or now out) (unwrap_or was out)
    by true was = refl
    by false was = refl

-- ---- as one place changes
-- an empty place is filled
module _ (old : VerdictPlaces) (at : ℕ) (key : List ℕ) (verdict : Verdict)
    (empty : item_at old at ≡ None) (within : at ≤ length old) where
  abbrev with_it : VerdictPlaces
  with_it = laid old at (Some (key, verdict))

  pub laid_here : item_at with_it at ≡ Some (key, verdict)
  laid_here = laid_same old at (Some (key, verdict)) None within

  pub laid_else : AreAlikeBut at old with_it
  laid_else = λ p other. laid_other old at p (Some (key, verdict)) None within other
