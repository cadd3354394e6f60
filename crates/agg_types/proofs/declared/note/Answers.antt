use Rattle.std.proofs.Common.{◌∙◌, sym}
use Rattle.agg_types.proofs.Naming.{notes-new}
use Rattle.agg_types.proofs.declared.note.Goals as goal

pub returns-clause-ok : goal.returns-clause-ok
returns-clause-ok c = notes-new c.args.firsts.now c.insert.new.self c.args.name.now c.args.place
    c.in_ok-from_slice.field-0 c.in_ok-from_slice.ensures.items
    (sym c.contains_key.ensures ∙ c.if-contains_key.false) c.in_ok-insert.ensures.entries
