use Rattle.std.proofs.Common.{◌∙◌, ap}
use Rattle.std.specs.Prelude.{map}
use Rattle.agg_types.specs.Check.{config_faults}
use Rattle.fleet_model.specs.State.{State}
use Rattle.fleet_model.proofs.Checked.{conds_few}
use Rattle.standing_filters.specs.Watched.{unheld}
use Rattle.book.proofs.Ahead.{all_unheld}
use Rattle.book.proofs.verdicts.Verdicts.new.Goals as goal

pub new-requires : goal.new-requires
new-requires c = record {
  few = λ k d inside. conds_few c.machine.inside.config k d inside
      (ap (λ (s : State). config_faults s.config) c.machine.view_is ∙ c.requires.sound.checked);
}

pub returns : goal.returns
returns c =
    all_unheld c.adding_begins.ensures c.args.machine.now c.in_ok-standing.standing.filters
    c.requires.empty
    (c.in_ok-standing.ensures.filters
    ∙ ap (λ (s : State). map unheld s.config.filters) c.machine.view_is)
