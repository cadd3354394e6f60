use Rattle.std.proofs.Common.{◌≡◌, ◌+◌, ◌≤◌, ◌++◌, [], ◌∷◌, length, refl, arith, length-append}
use Rattle.agg_types.proofs.Packing.{entries-put, entries-within}
use Rattle.agg_types.proofs.whats.Whats.push_wide.Goals as goal

pub invariant_of-self-2 : goal.invariant_of-self-2
invariant_of-self-2 c =
    let cells : c.lay.new.all.items
    ≡ c.self.inside.cells.items ++ c.args.cells.now =
    c.in_ok-lay.ensures.ok in
    let entries : c.push_reserved.new.self.items
    ≡ c.self.inside.entries.items ++ c.put-entry.result ∷ [] =
    rw (← c.make_room.ensures.items) c.push_reserved.ensures.items in
    let long = length-append c.self.inside.cells.items c.args.cells.now in
    let ends : c.len-start.result + length c.args.cells.now
    ≤ length (c.self.inside.cells.items ++ c.args.cells.now) = omega (arith, long) in
    entries-within c.self.inside.cells.items c.lay.new.all.items c.args.cells.now
    c.self.inside.entries.items c.push_reserved.new.self.items c.put-entry.result
    cells entries c.self.invariant (c.put-entry.ensures.within _ ends)

pub returns-clause-ok : goal.returns-clause-ok
returns-clause-ok c =
    let cells : c.lay.new.all.items
    ≡ c.self.inside.cells.items ++ c.args.cells.now =
    c.in_ok-lay.ensures.ok in
    let entries : c.push_reserved.new.self.items
    ≡ c.self.inside.entries.items ++ c.put-entry.result ∷ [] =
    rw (← c.make_room.ensures.items) c.push_reserved.ensures.items in
    let begins : c.len-start.result ≡ length c.self.inside.cells.items = omega arith in
    entries-put c.self.inside.cells.items c.lay.new.all.items c.args.cells.now
    c.self.inside.entries.items c.push_reserved.new.self.items c.put-entry.result
    c.args.self.now _ cells entries c.self.invariant c.self.view_is
    (c.put-entry.ensures.says c.self.inside.cells.items c.args.cells.now begins refl)
