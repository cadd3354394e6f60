use Rattle.std.proofs.Common.{◌≡◌, ◌++◌, ◌∷◌, [], length, ap, rules, true, ◌∙◌}
use Rattle.pushed_keys.specs.Packed.{moments}
use Rattle.pushed_keys.proofs.Packing.{marks_rebased, moments_more, one_more, part_more}
use Rattle.pushed_keys.proofs.Packing.{part_rebased}
use Rattle.pushed_keys.proofs.parts.Part.push.Goals as goal

moments_are : (c : goal.After-self-3-1)
    → moments c.base_for-base.result (c.self.inside.puts.items ++ c.in-Some-after_base.after ∷ [])
    ≡ moments c.base_for-base.result c.self.inside.puts.items ++ c.args.put ∷ []
moments_are c =
    moments_more c.base_for-base.result c.in-Some-after_base.after c.args.put
    c.self.inside.puts.items c.in-Some-after_base.ensures

from_is : (c : goal.After-self-3-1) → c.len-from.result ≡ length c.self.inside.bytes.items
from_is c = c.len-from.ensures ∙ c.self.inside.bytes.ok.0

none_are : (c : goal.After-self-3-1) → c.is_empty.result ≡ true
    → length c.self.inside.lens.items ≡ 0
none_are c = search rules

pub invariant_of-self-2 : goal.invariant_of-self-2
invariant_of-self-2 c =
    rw (
      c.in_ok-append.ensures.bytes,
      c.in_ok-append.ensures.lens,
      c.in_ok-append.ensures.puts,
      moments_are c,
      c.with-self-inside.ensures,
      from_is c,
    ) (part_more c.self.inside.bytes.items c.self.inside.lens.items
    (moments c.base_for-base.result c.self.inside.puts.items) c.args.key.now c.in-Some.len
    c.args.put c.args.is_in c.self.inside.least c.self.inside.last c.in-Some.ensures
    (part_rebased c.self.inside.bytes.items c.self.inside.lens.items c.self.inside.puts.items
    c.self.inside.base c.base_for-base.result c.self.inside.least c.self.inside.last
    c.is_empty.result (none_are c) c.base_for-base.ensures c.self.invariant))

pub returns-clause-ok : goal.returns-clause-ok
returns-clause-ok c =
    let part = part_rebased c.self.inside.bytes.items c.self.inside.lens.items
    c.self.inside.puts.items c.self.inside.base c.base_for-base.result c.self.inside.least
    c.self.inside.last c.is_empty.result (none_are c) c.base_for-base.ensures c.self.invariant in
    rw (
      c.in_ok-append.ensures.bytes,
      c.in_ok-append.ensures.lens,
      c.in_ok-append.ensures.puts,
      moments_are c,
    ) (one_more c.self.inside.bytes.items
    c.self.inside.lens.items (moments c.base_for-base.result c.self.inside.puts.items)
    c.args.key.now c.in-Some.len c.args.put c.args.is_in part.whole part.timed c.in-Some.ensures
    ∙ ap (λ marks. marks ++ record {
      key = c.args.key.now;
      put = c.args.put;
      is_in = c.args.is_in;
    } ∷ []) (marks_rebased c.self.inside.bytes.items c.self.inside.lens.items
    c.self.inside.puts.items c.self.inside.base c.base_for-base.result c.is_empty.result
    (none_are c) c.base_for-base.ensures ∙ c.self.view_is))
