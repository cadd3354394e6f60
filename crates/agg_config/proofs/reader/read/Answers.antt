use Rattle.std.proofs.Common.{◌≡◌, ◌∙◌, ◌++◌, ◌∷◌, [], List, ℕ, sym, ap, refl, arith, append_assoc}
use Rattle.std.proofs.Common.{append-nil, subst}
use Rattle.line_words.specs.Words.{lines_of}
use Rattle.agg_config.specs.Lines.{Finishes}
use Rattle.agg_config.proofs.Finished.{finished_fault, finished_whole}
use Rattle.agg_config.proofs.reader.read.Goals as goal

pub lines-init : goal.lines-init
lines-init c = record {
  parted = record { before = []; has = c.in-Ok.ensures.none; whole = refl };
  room = omega (arith, c.in-Ok.ensures.count);
}

pub lines-preserved : goal.lines-preserved
lines-preserved c =
    let p = c.lines.invariant.parted in
    let line = c.in-Some.line.now in
    record {
      parted = record {
        before = p.before ++ line ∷ [];
        has = c.line.ensures.read p.before p.has;
        whole = append_assoc p.before (line ∷ []) (lines_of c.in-Some.rest.now)
            ∙ (ap (λ ls. p.before ++ ls) (sym c.in-Some.ensures.line) ∙ p.whole);
      };
      room = omega (arith, c.line.ensures.count, c.in-Some.ensures.shorter, c.lines.invariant.room);
    }

-- no line is left
all_read : (before left all : List (List ℕ)) → before ++ left ≡ all → left ≡ [] → before ≡ all
all_read before left all whole none =
    sym (append-nil before) ∙ (ap (λ ls. before ++ ls) (sym none) ∙ whole)

pub returns-clause-written : goal.returns-clause-written
returns-clause-written c =
    let p = c.lines.invariant.parted in
    let all = all_read p.before _ _ p.whole c.in_default-next_line.ensures.line in
    finished_whole (lines_of c.args.text.now) c.finish.result
    (subst (λ ls. Finishes ls c.finish.result) all (c.finish.ensures.finished p.before p.has))

pub returns-clause-fault : goal.returns-clause-fault
returns-clause-fault c =
    let p = c.lines.invariant.parted in
    let all = all_read p.before _ _ p.whole c.in_default-next_line.ensures.line in
    finished_fault (lines_of c.args.text.now) c.finish.result
    (subst (λ ls. Finishes ls c.finish.result) all (c.finish.ensures.finished p.before p.has))
