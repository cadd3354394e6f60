use Rattle.std.proofs.Common.{not, ap, sym, ◌∙◌}
use Rattle.place_index.proofs.Held.{no_item, read_seen}
use Rattle.place_index.proofs.Own.{held_emptied}
use Rattle.place_index.proofs.slots.Slots.empty.Goals as goal

pub returns-in-Some-clause-value : goal.returns-in-Some-clause-value
returns-in-Some-clause-value g c =
    read_seen g.K.IndexKey.is_blank c.args.self.now c.args.at c.in-Some.field-0
    c.key.result (sym c.in-Some.ensures.value) c.key.ensures
    (c.is_none.ensures ∙ ap not c.if-is_none.false)

pub returns-in-Some-clause-after : goal.returns-in-Some-clause-after
returns-in-Some-clause-after g c =
    held_emptied g.K.IndexKey.is_blank c.args.self.now c.own_without-self.result
    c.replace.new.self.items c.args.at c.blank-blank.result c.blank-blank.ensures
    c.own_without-self.ensures c.replace.ensures.after

pub returns-in-None-clause-value : goal.returns-in-None-clause-value
returns-in-None-clause-value g c =
    sym (no_item g.K.IndexKey.is_blank c.args.self.now c.args.at (sym c.in-None.ensures.value))

pub returns-in-None-clause-after : goal.returns-in-None-clause-after
returns-in-None-clause-after g c =
    held_emptied g.K.IndexKey.is_blank c.args.self.now c.own_without-self.result
    c.replace.new.self.items c.args.at c.blank-blank.result c.blank-blank.ensures
    c.own_without-self.ensures c.replace.ensures.after
