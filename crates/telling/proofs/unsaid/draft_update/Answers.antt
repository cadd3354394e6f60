use Rattle.std.proofs.Common.{sym, refl}
use Rattle.pushed_keys.proofs.Rest.{drop_found, none_from}
use Rattle.telling.proofs.Steps.{is_next, none_next, none_there}
use Rattle.telling.proofs.unsaid.draft_update.Goals as goal

pub returns-in_default : goal.returns-in_default
returns-in_default c =
    none_next c.args.defined c.args.place c.args.tables.now c.args.pushed.now c.in_default.ensures

pub returns-in_default-table_at : goal.returns-in_default-table_at
returns-in_default-table_at c =
    none_there c.args.defined c.args.place c.args.tables.now c.args.pushed.now c.in-Some.found
    c.in-Some.ensures (none_from c.args.pushed.now c.in-Some.found.place
    (sym c.in_default-table_at.ensures))

pub returns : goal.returns
returns c =
    is_next c.args.defined c.args.place c.args.tables.now c.args.pushed.now
    c.in-Some-table_at.table.now c.in-Some.found _ c.draft_one.new.draft.message.items
    c.in-Some.ensures (drop_found c.args.pushed.now c.in-Some.found.place
    c.in-Some-table_at.table.now (sym c.in-Some-table_at.ensures)) c.in_ok-draft_one.ensures refl
