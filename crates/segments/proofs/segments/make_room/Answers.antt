use Rattle.std.proofs.Common.{length, ap, ◌∙◌, sym, subst, arith, rules}
use Rattle.segments.proofs.Joined.{joined-push_blank, AreFull-push, AreBlank-popped}
use Rattle.segments.proofs.Joined.{HasRoom-push_blank, length-joined_complete}
use Rattle.segments.specs.Segments.{HasRoom, joined}
use Rattle.segments.proofs.segments.make_room.Goals as goal

pub returns-in-Some-clause-items : goal.returns-in-Some-clause-items
returns-in-Some-clause-items g c =
    let popped = AreBlank-popped c.pop.new.self.items c.args.blank.now.items c.in-Some.segment
    c.in-Some.ensures.items c.requires.listed.blanks in
    ap (λ l. joined l) c.push_reserved.ensures.items
    ∙ joined-push_blank c.args.segments.now.items c.in-Some.segment popped.1

pub returns-in-Some-clause-listed : goal.returns-in-Some-clause-listed
returns-in-Some-clause-listed g c =
    let popped = AreBlank-popped c.pop.new.self.items c.args.blank.now.items c.in-Some.segment
    c.in-Some.ensures.items c.requires.listed.blanks in
    let none = ap (λ l. length l) popped.1 in
    record {
      full = rw c.push_reserved.ensures.items
          (AreFull-push c.args.segments.now.items c.in-Some.segment
          (c.has_room.ensures.no (search rules)) (omega arith));
      blanks = popped.0;
      within = omega (arith, c.in-Some.ensures.cases);
    }

pub returns-in-Some-clause-room : goal.returns-in-Some-clause-room
returns-in-Some-clause-room g c =
    let popped = AreBlank-popped c.pop.new.self.items c.args.blank.now.items c.in-Some.segment
    c.in-Some.ensures.items c.requires.listed.blanks in
    subst (λ l. HasRoom l) (sym c.push_reserved.ensures.items)
    (HasRoom-push_blank c.args.segments.now.items c.in-Some.segment popped.1)

pub returns-in_default-clause-room : goal.returns-in_default-clause-room
returns-in_default-clause-room g c =
    let all = length-joined_complete c.args.segments.now.items
    (c.has_room.ensures.no (search rules)) in
    absurd (omega (arith, c.in_default.ensures.cases))
