use Rattle.std.proofs.Common.{◌≡◌, [], ◌∷◌, ◌++◌, rules, subst, sym, arith}
use Rattle.agg_config.specs.Faults.{AreFaults}
use Rattle.line_words.specs.Words.{lines_of}
use Rattle.agg_config.proofs.Found.{ends_faulty, ends_fine, one_faulty, one_fine}
use Rattle.agg_config.proofs.finding.faults.Goals as goal

-- no line was judged
pub lines-init : goal.lines-init
lines-init c =
    let none : c.new-faults.result.items ≡ [] = search rules in record {
      parted = record {
        before = [];
        has = c.in_ok-checker.ensures.none;
        whole = λ others are.
            subst (λ items. AreFaults (lines_of c.args.text.now) (items ++ others)) (sym none) are;
      };
      room = omega (arith, c.in_ok-checker.ensures.count);
    }

-- one more without a fault
pub lines-preserved-in-Ok : goal.lines-preserved-in-Ok
lines-preserved-in-Ok c =
    let p = c.lines.invariant.parted in
    let line = c.in-Some.line.now in
    record {
      parted = record {
        before = p.before ++ line ∷ [];
        has = c.in-Ok.ensures.ok p.before p.has;
        whole = one_fine (lines_of c.args.text.now) p.before c.lines.left.now line
            c.in-Some.rest.now c.lines.faults.items c.in-Some.ensures.line p.whole;
      };
      room = omega (arith, c.line.ensures.count, c.in-Some.ensures.shorter, c.lines.invariant.room);
    }

-- one more with a fault
pub lines-preserved : goal.lines-preserved
lines-preserved c =
    let p = c.lines.invariant.parted in
    let line = c.in-Some.line.now in
    record {
      parted = record {
        before = p.before ++ [] ∷ [];
        has = c.in-Err.ensures.blank p.before p.has;
        whole = one_faulty (lines_of c.args.text.now) p.before c.lines.left.now line
            c.in-Some.rest.now c.lines.faults.items c.note.new.faults.items c.in-Err.fault
            c.in-Some.ensures.line p.whole c.in_ok-note-in-Err.ensures.noted
            (c.in-Err.ensures.first p.before (lines_of c.in-Some.rest.now) p.has)
            c.in_ok-note-in-Err.ensures.faulty (c.in-Err.ensures.number p.before p.has);
      };
      room = omega (arith, c.line.ensures.count, c.in-Some.ensures.shorter, c.lines.invariant.room);
    }

-- no line is left, and one gives the name
pub returns-in-None : goal.returns-in-None
returns-in-None c =
    let p = c.lines.invariant.parted in
    ends_fine (lines_of c.args.text.now) p.before c.lines.left.now c.lines.faults.items
    c.finish.result c.in_default.ensures.line p.whole c.in-None.is
    (c.finish.ensures p.before p.has)

-- no line is left, and none gives the name
pub returns-in_ok-push-in-Some-finish : goal.returns-in_ok-push-in-Some-finish
returns-in_ok-push-in-Some-finish c =
    let p = c.lines.invariant.parted in
    ends_faulty (lines_of c.args.text.now) p.before c.lines.left.now c.lines.faults.items
    c.push.new.self.items c.finish.result c.in-Some-finish.fault c.in_default.ensures.line
    p.whole c.in-Some-finish.is (c.finish.ensures p.before p.has) c.in_ok-push-in-Some-finish.ensures.items
