use Rattle.std.proofs.Common.{◌∙◌, ap, arith, length}
use Rattle.pushed_keys.specs.Packed.{moments}
use Rattle.pushed_keys.proofs.Packing.{length_unpacked}
use Rattle.pushed_keys.proofs.parts.Part.len.Goals as goal

pub returns : goal.returns
returns c =
    let inside = c.self.inside in
    omega (
      arith,
      ap length c.self.view_is,
      length_unpacked inside.bytes.items inside.lens.items (moments inside.base inside.puts.items)
          c.self.invariant.timed,
      c.len.ensures ∙ inside.lens.ok.0,
    )
