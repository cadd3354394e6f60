use Rattle.std.proofs.Common.{length, ap, ◌∙◌, arith}
use Rattle.std.proofs.lemmas.List.{length-set}
use Rattle.place_index.proofs.Held.{length-held}
use Rattle.place_index.proofs.Own.{held_pushed, held_laid}
use Rattle.place_index.proofs.slots.Slots.fill.Goals as goal

pub returns-then-at-len-clause-after : goal.returns-then-at-len-clause-after
returns-then-at-len-clause-after g c =
    held_pushed g.K.IndexKey.is_blank g.met.K.IndexKey.one c.args.self.now c.own_with-self.result
    c.push_reserved.new.self.items c.args.at
    (record { key = c.args.key; value = c.args.value }) c.requires.absent (omega arith)
    c.own_with-self.ensures c.push_reserved.ensures.items

pub returns-then-at-len-clause-small : goal.returns-then-at-len-clause-small
returns-then-at-len-clause-small g c =
    let len = length-held g.K.IndexKey.is_blank c.own_with-self.result 0
    c.push_reserved.new.self.items in
    omega (arith, c.push_reserved.ensures.small)

pub returns-clause-after : goal.returns-clause-after
returns-clause-after g c =
    let len = length-held g.K.IndexKey.is_blank c.args.self.now.own 0
    c.args.self.now.slots.items in
    held_laid g.K.IndexKey.is_blank g.met.K.IndexKey.one c.args.self.now c.own_with-self.result
    c.replace.new.self.items c.args.at
    (record { key = c.args.key; value = c.args.value }) c.requires.absent (omega arith)
    c.own_with-self.ensures c.replace.ensures.after

pub returns-clause-small : goal.returns-clause-small
returns-clause-small g c =
    let len = length-held g.K.IndexKey.is_blank c.own_with-self.result 0 c.replace.new.self.items in
    let same = ap (λ l. length l) c.replace.ensures.after
    ∙ length-set c.args.self.now.slots.items c.args.at
    (record { key = c.args.key; value = c.args.value }) in
    omega (arith, len, same)
