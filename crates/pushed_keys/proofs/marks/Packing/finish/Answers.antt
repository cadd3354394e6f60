use Rattle.std.proofs.Common.{◌≡◌, ◌+◌, ◌-◌, ◌<◌, ◌≤◌, ◌^◌, ℕ, List, [], ◌∷◌, length, min}
use Rattle.std.proofs.Common.{ap, arith}
use Rattle.std.specs.declared.sync.Arc.{Arc}
use Rattle.pushed_keys.specs.Packed.{in_parts}
use Rattle.pushed_keys.specs.declared.told.Mark.{Mark}
use Rattle.pushed_keys.proofs.marks.Packing.finish.Goals as goal

-- where no part is left, all marks were counted
all_counted : {Z : Type 0} (len : ℕ) (left all parts : List (Arc (List Mark) Z))
    → length left < 1
    → min (len + length (in_parts left)) (2 ^ 64 - 1) ≡ min (length (in_parts all)) (2 ^ 64 - 1)
    → all ≡ parts → len ≤ 2 ^ 64 - 1 → len ≡ min (length (in_parts parts)) (2 ^ 64 - 1)
all_counted len [] all parts few same is most =
    omega (arith, same, ap (λ ps. length (in_parts ps)) is, most)
all_counted len (part ∷ left) all parts few same is most = absurd (omega (arith, few))

pub invariant_of-result : goal.invariant_of-result
invariant_of-result c =
    all_counted c.loop-left.len c.loop-left.left.now c.as_slice-left.result.now
    c.close.new.parts.items c.in_default.len_below c.loop-left.invariant.0
    c.as_slice-left.ensures.value c.loop-left.invariant.1
