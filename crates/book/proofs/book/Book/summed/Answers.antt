use Rattle.std.proofs.Common.{◌∙◌, sym, ap}
use Rattle.fleet_model.specs.Answers.{summed}
use Rattle.fleet_model.specs.State.{State}
use Rattle.book.proofs.book.Book.summed.Goals as goal

pub returns : goal.returns
returns c =
    c.summed.ensures
    ∙ sym (c.a_key_answers_by_its_rows.ensures.sums c.self.inside.machine c.args.table
    c.args.key.now c.self.invariant.sound.live)
    ∙ ap (λ (s : State). summed s c.args.table c.args.key.now) c.self.view_is
