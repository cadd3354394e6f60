use Rattle.std.proofs.Common.{◌∙◌, length, sym, ap}
use Rattle.fleet_model.specs.Answers.{keys_of}
use Rattle.fleet_model.specs.State.{State}
use Rattle.book_rows.proofs.Reading.{used_live}
use Rattle.book.proofs.book.Book.used.Goals as goal

pub returns : goal.returns
unfolding keys_of
returns c =
    c.used.ensures
    ∙ ap length (sym (used_live c.args.table c.self.inside.machine.moment c.self.inside.machine.rows
    c.self.invariant.sound.live))
    ∙ ap (λ (s : State). length (keys_of s c.args.table)) c.self.view_is
