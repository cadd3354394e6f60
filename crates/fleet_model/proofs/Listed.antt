-- Each key of a table with a row has a summed row.
use Rattle.std.proofs.Common.{◌≡◌, ℕ, Bool, true, false, ◌||◌, List, [], ◌∷◌, Option, None, Some}
use Rattle.std.proofs.Common.{is_some, refl, sym, ◌∙◌}
use Rattle.std.specs.List.{AllByRecursion}
use Rattle.std.proofs.lemmas.Cmp.{nat_list_cmp_total, tied_itself}
use Rattle.fleet_model.proofs.Sets.{live_keys-exact}
use Rattle.fleet_model.proofs.Sums.{sums}
use Rattle.fleet_model.specs.Answers.{keys_of, summed}
use Rattle.fleet_model.specs.Laws.{IsSummedRow, has_live_row, is_key_among}
use Rattle.fleet_model.specs.State.{State}
use Rattle.fleet_model.specs.Values.{same_key}
use Rattle.fleet_model.specs.declared.summed.Summed.{Summed}

or_left : (a b : Bool) → a ≡ true → a || b ≡ true
or_left true b h = refl
or_left false b h = cc

or_right : (a b : Bool) → b ≡ true → a || b ≡ true
or_right true b h = refl
or_right false b h = h

own_key : (key : List ℕ) → same_key key key ≡ true
own_key key = rw (tied_itself nat_list_cmp_total key) refl

-- what holds of each key that is among some keys holds of all of them
all_among : (P : List ℕ → Type 0) (keys : List (List ℕ))
    → ((key : List ℕ) → is_key_among key keys ≡ true → P key) → AllByRecursion P keys
all_among P [] each = tt
all_among P (key ∷ keys) each = (
  each key (or_left (same_key key key) (is_key_among key keys) (own_key key)),
  all_among P keys (λ other among. each other
      (or_right (same_key other key) (is_key_among other keys) among)),
)

found_sum : (state : State) (table : ℕ) (key : List ℕ) (sum : Option Summed)
    → IsSummedRow state table key sum → has_live_row state.rows table key state.moment ≡ true
    → is_some sum ≡ true
found_sum state table key None is live = sym is ∙ live
found_sum state table key (Some found) is live = refl

pub all_summed : (state : State) (table : ℕ)
    → AllByRecursion (λ key. is_some (summed state table key) ≡ true) (keys_of state table)
unfolding keys_of
all_summed state table =
    all_among (λ key. is_some (summed state table key) ≡ true) _
    (λ key among. found_sum state table key (summed state table key) (sums state table key)
    (sym (live_keys-exact state.rows table state.moment key) ∙ among))
