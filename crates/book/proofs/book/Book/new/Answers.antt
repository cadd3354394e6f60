use Rattle.std.proofs.Common.{◌≡◌, ◌∙◌, ℕ, [], refl, sym, ap, subst}
use Rattle.agg_types.specs.declared.config.Config.{Config}
use Rattle.fleet_model.specs.Machine.{opened}
use Rattle.fleet_model.specs.Sound.{IsSound}
use Rattle.fleet_model.specs.State.{State}
use Rattle.book.proofs.book.Book.new.Goals as goal

no_rows : (config : Config) (moment : ℕ) → (opened config moment).rows ≡ []
unfolding opened
no_rows config moment = refl

pub invariant_of-result : goal.invariant_of-result
invariant_of-result c = record {
  sound = subst IsSound (sym c.in_ok-machine.ensures)
      (c.states_are_sound.ensures.opened c.args.config c.args.moment c.requires.checked
      c.requires.in_range);
  held = c.in_ok-verdicts.ensures;
}

pub new-requires-2 : goal.new-requires-2
new-requires-2 c = record {
  sound = subst IsSound (sym c.in_ok-machine.ensures)
      (c.states_are_sound.ensures.opened c.args.config c.args.moment c.requires.checked
      c.requires.in_range);
  empty = ap (λ (s : State). s.rows) c.in_ok-machine.ensures
      ∙ no_rows c.args.config c.args.moment;
}

pub returns-clause-sound : goal.returns-clause-sound
returns-clause-sound c =
    subst IsSound (sym c.in_ok-machine.ensures)
    (c.states_are_sound.ensures.opened c.args.config c.args.moment c.requires.checked
    c.requires.in_range)
