-- A next change that was looked for up to some moment.
use Rattle.std.proofs.Common.{◌≡◌, ⊎_elim, ℕ, ◌<◌, ◌≤◌, Option, None, Some, ◌∙◌, arith}
use Rattle.std.proofs.lemmas.Bool.{cases_order}
use Rattle.agg_types.specs.declared.config.Filter.{Filter}
use Rattle.fleet_model.proofs.Flat.{sets_flat}
use Rattle.fleet_model.specs.Answers.{set_at}
use Rattle.fleet_model.specs.Next.{IsNextChange, IsNextChangeBy, table_flat_from}
use Rattle.fleet_model.specs.State.{State}

-- behind a moment from which the rows are flat nothing changes, where nothing did up to it
same_behind : (state : State) (filtering : Filter) (last : ℕ)
    → table_flat_from state filtering.table ≤ last → IsNextChangeBy state filtering last None
    → (t : ℕ) → state.moment < t → last < t
    → set_at state filtering t ≡ set_at state filtering state.moment
same_behind state filtering last flat same t later behind =
    ⊎_elim (λ now. from_now (omega arith))
    (λ apart. ⊎_elim
    (λ before. sets_flat state filtering last t flat (omega arith) ∙ same last before (omega arith))
    (λ over. from_now (omega arith))
    apart)
    (cases_order state.moment last)
  where
    from_now : last ≤ state.moment → set_at state filtering t ≡ set_at state filtering state.moment
    from_now passed = sets_flat state filtering state.moment t (omega arith) (omega arith)

-- where none was found up to a moment from which the rows are flat, there is none
never : (state : State) (filtering : Filter) (last : ℕ)
    → table_flat_from state filtering.table ≤ last → IsNextChangeBy state filtering last None
    → IsNextChange state filtering None
never state filtering last flat same t later =
    ⊎_elim (λ at_last. same t later (omega arith))
    (λ apart. ⊎_elim (λ before. same t later (omega arith))
    (λ behind. same_behind state filtering last flat same t later behind) apart)
    (cases_order t last)

pub whole_change : (state : State) (filtering : Filter) (last : ℕ) (next : Option ℕ)
    → table_flat_from state filtering.table ≤ last → IsNextChangeBy state filtering last next
    → IsNextChange state filtering next
whole_change state filtering last None flat same = never state filtering last flat same
whole_change state filtering last (Some t) flat found = found.0
