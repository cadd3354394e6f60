use Rattle.std.proofs.Common.{◌∙◌, ap, sym}
use Rattle.std.specs.Prelude.{slice_index_or}
use Rattle.pushed_keys.specs.Turns.{no_table}
use Rattle.telling.proofs.Whole.{none_told, table_told}
use Rattle.telling.proofs.teller.Teller.told.Goals as goal

pub returns-in-None : goal.returns-in-None
returns-in-None c =
    rw c.new.ensures.items (sym (none_told c.args.pushed.now c.args.self.now c.args.place c.args.now
    (sym c.in-None.ensures)))

pub returns-in-Some : goal.returns-in-Some
returns-in-Some c =
    rw (table_told c.args.pushed.now c.args.self.now c.args.place c.args.now c.in-Some.table.now
    _ (sym c.in-Some.ensures) (c.told_at.ensures.marks
    ∙ ap (λ ts. (slice_index_or ts c.args.place no_table).marks)
    (c.as_slice.ensures ∙ ap (λ t. t.tables) c.self.view_is))) c.keys_told.ensures
