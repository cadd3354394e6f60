use Rattle.std.proofs.Common.{◌%◌, ◌/◌, ◌∙◌, sym, ap, refl, arith, slice_get, []}
use Rattle.std.proofs.lemmas.List.{get_or_default}
use Rattle.segments.proofs.Joined.{slice_get-read}
use Rattle.segments.proofs.Lent.{lent_within, lent_view, lent_roomy}
use Rattle.segments.proofs.segments.Segments.item_mut.Goals as goal

pub index_mut-segment-requires : goal.index_mut-segment-requires
index_mut-segment-requires g c =
    let some = lent_within c.self.inside.segments.items c.self.inside.room (c.args.at / 1024)
    (c.args.at % 1024) c.args.at c.args.self.now c.self.invariant.listed.full (omega arith)
    (omega arith) c.self.view_is c.requires in
    omega (arith, some.0, c.self.inside.segments.ok.0)

pub item_mut-requires : goal.item_mut-requires
item_mut-requires g c =
    let some = lent_within c.self.inside.segments.items c.self.inside.room (c.args.at / 1024)
    (c.args.at % 1024) c.args.at c.args.self.now c.self.invariant.listed.full (omega arith)
    (omega arith) c.self.view_is c.requires in
    rw (c.index_mut-segment.ensures.value
    ∙ get_or_default c.self.inside.segments.items (c.args.at / 1024)
    c.index_mut-segment.result.now [] some.0) some.1

pub invariant_of-self-lent : goal.invariant_of-self-lent
invariant_of-self-lent g c =
    let some = lent_within c.self.inside.segments.items c.self.inside.room (c.args.at / 1024)
    (c.args.at % 1024) c.args.at c.args.self.now c.self.invariant.listed.full (omega arith)
    (omega arith) c.self.view_is c.requires in
    λ w. lent_roomy c.self.inside.segments.items c.self.inside.blank.items
    c.index_mut-segment.result.now c.self.inside.segments.cap c.self.inside.len c.self.inside.room
    (c.args.at / 1024) (c.args.at % 1024) c.args.at w c.self.invariant (omega arith)
    (omega arith) some.0 c.index_mut-segment.ensures.value

pub returns : goal.returns
returns g c =
    let some = lent_within c.self.inside.segments.items c.self.inside.room (c.args.at / 1024)
    (c.args.at % 1024) c.args.at c.args.self.now c.self.invariant.listed.full (omega arith)
    (omega arith) c.self.view_is c.requires in (
      (
        refl,
        λ w. lent_view c.self.inside.segments.items c.index_mut-segment.result.now
            c.self.inside.room (c.args.at / 1024) (c.args.at % 1024) c.args.at w c.args.self.now
            c.self.invariant.listed.full (omega arith) (omega arith) some.0
            c.index_mut-segment.ensures.value c.self.view_is,
      ),
      record {
        writes_back = tt;
        value = sym (ap (λ r. slice_get r.items c.args.at) c.self.view_is)
            ∙ slice_get-read c.self.inside.segments.items c.index_mut-segment.result.now
            (c.args.at / 1024) (c.args.at % 1024) c.args.at c.self.invariant.listed.full
            (omega arith) (omega arith) some.0 c.index_mut-segment.ensures.value
            ∙ c.item_mut.ensures.value;
      },
    )
