use Rattle.std.proofs.Common.{◌∙◌, List, ℕ, subst, sym}
use Rattle.pushed_keys.specs.Packed.{IsPart, moments, unpacked}
use Rattle.pushed_keys.proofs.Packing.{part_renewed}
use Rattle.pushed_keys.proofs.parts.Part.renewed.Goals as goal

pub invariant_of-part : goal.invariant_of-part
invariant_of-part c =
    subst (λ (puts : List ℕ). IsPart c.part.inside.bytes.items c.part.inside.lens.items puts
    c.args.least c.part.inside.last) (sym c.in_ok-part-inside.ensures)
    (part_renewed c.part.inside.bytes.items c.part.inside.lens.items
    (moments c.part.inside.base c.part.inside.puts.items) c.args.puts.now c.part.inside.least
    c.args.least c.part.inside.last c.args.self.now (c.part.view_is ∙ c.in_ok-part.ensures)
    c.part.invariant c.requires.many c.requires.late).0

pub returns : goal.returns
returns c =
    (λ i. unpacked c.part.inside.bytes.items c.part.inside.lens.items
    (c.in_ok-part-inside.ensures i))
    ∙ (part_renewed c.part.inside.bytes.items c.part.inside.lens.items
    (moments c.part.inside.base c.part.inside.puts.items) c.args.puts.now c.part.inside.least
    c.args.least c.part.inside.last c.args.self.now (c.part.view_is ∙ c.in_ok-part.ensures)
    c.part.invariant c.requires.many c.requires.late).1
