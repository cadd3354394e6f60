use Rattle.std.proofs.Common.{◌≡◌, [], ◌∷◌, List, ℕ, ◌+◌, None, sym, ap, ◌∙◌, arith}
use Rattle.std.specs.List.{position}
use Rattle.line_words.specs.Words.{lines_of}
use Rattle.replay.specs.Script.{is_start}
use Rattle.replay.specs.Start.{IsCutAt}
use Rattle.replay.specs.declared.start.Start.{Start}
use Rattle.replay.proofs.Cutting.{Looked, cut_at, cut_nowhere, looked_more, looked_none}
use Rattle.replay.proofs.Source.{begins, goes_on, no_line, one_line}
use Rattle.replay.proofs.start.start_of.Goals as goal

-- what a cut says of all lines and those that are left
abbrev Cut : Start → List (List ℕ) → List (List ℕ) → Type 0
Cut start lines rest = IsCutAt lines (position is_start lines) rest start

pub lines-init : goal.lines-init
lines-init g c = record {
  looked = begins (g.R.Read.remaining c.args.script.now) (Looked c.args.config 1)
      (λ lines. looked_none c.args.config lines c.requires.none);
  room = omega (arith, c.requires.count);
}

pub lines-preserved : goal.lines-preserved
lines-preserved g c = record {
  looked = goes_on (g.R.Read.remaining c.args.script.now) (g.R.Read.remaining c.lines.script)
      (g.R.Read.remaining c.take_line.new.source) (Looked c.lines.config c.lines.number)
      (λ left rest. left ≡ c.in-Some.line.now ∷ rest) (Looked c.line.new.self (c.lines.number + 1))
      c.lines.invariant.looked
      (one_line _ _ c.take_line.new.bytes.items c.in-Some.line.now _ c.in_ok-take_line.ensures
      (ap lines_of (sym c.as_slice.ensures.value) ∙ c.in-Some.ensures.line))
      (λ all left rest looked is. looked_more c.lines.config c.line.new.self c.lines.number all left
      rest c.in-Some.line.now looked is (sym c.is_start.ensures ∙ c.if-is_start.false)
      c.line.ensures.read);
  room = omega (arith, c.line.ensures.count, c.lines.invariant.room);
}

pub returns-in_default-clause-cut : goal.returns-in_default-clause-cut
returns-in_default-clause-cut g c =
    goes_on (g.R.Read.remaining c.args.script.now) (g.R.Read.remaining c.lines.script)
    (g.R.Read.remaining c.take_line.new.source) (Looked c.lines.config c.lines.number)
    (λ left rest. (left ≡ []) × (rest ≡ []))
    (Cut (record { config = c.lines.config; number = c.lines.number; opening = None }))
    c.lines.invariant.looked
    (no_line _ _ c.take_line.new.bytes.items c.in_ok-take_line.ensures
    (ap lines_of (sym c.as_slice.ensures.value) ∙ c.in_default.ensures.line))
    (λ all left rest looked none. cut_nowhere c.lines.config c.lines.number all left rest looked
    none.0)

pub returns-then-is_start-clause-cut : goal.returns-then-is_start-clause-cut
returns-then-is_start-clause-cut g c =
    goes_on (g.R.Read.remaining c.args.script.now) (g.R.Read.remaining c.lines.script)
    (g.R.Read.remaining c.take_line.new.source) (Looked c.lines.config c.lines.number)
    (λ left rest. left ≡ c.in-Some.line.now ∷ rest)
    (Cut (record {
      config = c.lines.config;
      number = c.lines.number;
      opening = c.opening_of-opening.result;
    }))
    c.lines.invariant.looked
    (one_line _ _ c.take_line.new.bytes.items c.in-Some.line.now _ c.in_ok-take_line.ensures
    (ap lines_of (sym c.as_slice.ensures.value) ∙ c.in-Some.ensures.line))
    (λ all left rest looked is. cut_at c.lines.config c.lines.number all left rest
    c.in-Some.line.now c.opening_of-opening.result looked is
    (sym c.is_start.ensures ∙ c.if-is_start.true) c.opening_of-opening.ensures.said)
