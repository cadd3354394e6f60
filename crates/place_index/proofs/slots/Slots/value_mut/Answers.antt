use Rattle.std.proofs.Common.{refl}
use Rattle.place_index.proofs.Lent.{some_slot, lent_value, lent_slot}
use Rattle.place_index.proofs.slots.Slots.value_mut.Goals as goal

pub item_mut-slot-requires : goal.item_mut-slot-requires
item_mut-slot-requires g c =
    some_slot g.K.IndexKey.is_blank c.args.self.now c.args.at c.requires

pub returns : goal.returns
returns g c = (
  (
    refl,
    λ w. lent_slot c.args.self.now c.args.at c.item_mut-slot.result.now w
        c.item_mut-slot.ensures.value,
  ),
  record {
    writes_back = tt;
    value = lent_value g.K.IndexKey.is_blank c.args.self.now c.args.at c.item_mut-slot.result.now
        c.value_mut.result.now c.item_mut-slot.ensures.value c.value_mut.ensures.value c.requires;
  },
)
