use Rattle.std.proofs.Common.{ap, sym, subst, refl, ◌∙◌}
use Rattle.place_index.proofs.Filled.{filled-revalued}
use Rattle.place_index.proofs.Leading.{index-revalued}
use Rattle.place_index.proofs.Lent.{held_lent}
use Rattle.place_index.specs.Lending.{with_place}
use Rattle.place_index.specs.Places.{filled, item_at, value_at}
use Rattle.std.specs.Prelude.{IsSome}
use Rattle.place_index.specs.Reach.{IsIndex}
use Rattle.place_index.specs.Slots.{held}
use Rattle.place_index.proofs.index.PlaceIndex.value_mut.Goals as goal

pub value_mut-requires : goal.value_mut-requires
value_mut-requires g c =
    subst (λ n. IsSome (item_at n.places c.args.at)) (sym c.self.view_is) c.requires

pub invariant_of-self-lent : goal.invariant_of-self-lent
invariant_of-self-lent g c = λ w.
    let old = held g.K.IndexKey.is_blank c.self.inside.slots in
    let same = held_lent g.K.IndexKey.is_blank c.self.inside.slots c.args.at w in (
      subst (λ p. IsIndex g.K.Ord.cmp g.K.IndexKey.hashed c.self.inside.reach p) (sym same)
          (index-revalued c.self.inside.reach old c.args.at w c.self.invariant.0),
      record {
        counted = c.self.invariant.1.counted
            ∙ sym (ap (λ p. filled p) same ∙ filled-revalued old c.args.at w);
        within = c.self.invariant.1.within;
        spared = c.self.invariant.1.spared;
      },
    )

pub returns : goal.returns
returns g c = (
  (
    refl,
    λ w. ap (λ p. record { places = p; room = c.self.inside.room })
        (held_lent g.K.IndexKey.is_blank c.self.inside.slots c.args.at w)
        ∙ ap (λ n. with_place n c.args.at w) c.self.view_is,
  ),
  record {
    writes_back = tt;
    value = sym (ap (λ n. value_at n.places c.args.at) c.self.view_is)
        ∙ c.value_mut.ensures.value;
  },
)
