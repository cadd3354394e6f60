use Rattle.std.proofs.Common.{List, ℕ, ◌+◌, Option, Result, IfOk, OnErr, rules}
use Rattle.std.specs.List.{position}
use Rattle.replay.specs.Script.{OrNothing, StartsAt, is_start}
use Rattle.replay.specs.Start.{IsCutAt}
use Rattle.replay.specs.Writing.{Wrote, WroteFront}
use Rattle.replay.specs.declared.ending.Ending.{Ending}
use Rattle.replay.specs.declared.ending.Ending.TheVariants.{Failed}
use Rattle.replay.specs.declared.start.Start.{Start}
use Rattle.replay.proofs.Scripts.{bad_line_said, bad_start_said, front_read, front_too, run_said}
use Rattle.replay.proofs.Scripts.{wrote_too}
use Rattle.replay.proofs.SoFar.{RunPrints, front_nothing, on_err, wrote_nothing}
use Rattle.replay.proofs.Source.{concludes, holds, joins}
use Rattle.replay.proofs.streams.replay_lines.Goals as goal

-- what a script of these lines prints
abbrev All : List (List ℕ) → List ℕ → Ending → Type 0
All lines = OrNothing (StartsAt lines (position is_start lines))

-- what the replay of a script of these lines gave, by how it ended
abbrev Whole : {E : Type 0} → Result Ending E → Option (List ℕ) → Option (List ℕ)
    → List (List ℕ) → Type 0
Whole result before after lines = IfOk result (Wrote (All lines) before after)

abbrev Front : {E : Type 0} → Result Ending E → Option (List ℕ) → Option (List ℕ)
    → List (List ℕ) → Type 0
Front result before after lines = OnErr result (WroteFront (All lines) before after)

-- how the script is cut
abbrev Cut : Start → List (List ℕ) → List (List ℕ) → Type 0
Cut start lines rest = IsCutAt lines (position is_start lines) rest start

pub returns-in_default-clause-whole : goal.returns-in_default-clause-whole
returns-in_default-clause-whole g c =
    holds (g.R.Read.remaining c.args.script.now)
    (λ lines. Wrote (All lines) (g.W.Write.contents c.args.out.now)
    (g.W.Write.contents c.args.out.now) Failed) (λ lines. wrote_nothing _ _)

pub returns-in_err-start-clause-whole : goal.returns-in_err-start-clause-whole
returns-in_err-start-clause-whole g c =
    holds (g.R.Read.remaining c.args.script.now)
    (Whole c.from_residual.result (g.W.Write.contents c.args.out.now)
    (g.W.Write.contents c.args.out.now)) (λ lines. search rules)

pub returns-in_err-start-clause-cut : goal.returns-in_err-start-clause-cut
returns-in_err-start-clause-cut g c =
    holds (g.R.Read.remaining c.args.script.now)
    (Front c.from_residual.result (g.W.Write.contents c.args.out.now)
    (g.W.Write.contents c.args.out.now))
    (λ lines. on_err c.from_residual.result _ (front_nothing _ _))

pub returns-in_default-opening-clause-whole : goal.returns-in_default-opening-clause-whole
returns-in_default-opening-clause-whole g c =
    concludes (g.R.Read.remaining c.args.script.now)
    (g.R.Read.remaining c.start_of.new.script) (Cut c.in_ok-start.start)
    (Whole c.bad_start.result (g.W.Write.contents c.args.out.now)
    (g.W.Write.contents c.bad_start.new.out))
    c.in_ok-start.ensures.cut
    (λ lines rest cut. wrote_too c.bad_start.result _ (All lines) _ _
    (bad_start_said lines rest _ c.in_ok-start.start cut c.in_default-opening.is)
    c.bad_start.ensures.whole)

pub returns-in_default-opening-clause-cut : goal.returns-in_default-opening-clause-cut
returns-in_default-opening-clause-cut g c =
    concludes (g.R.Read.remaining c.args.script.now)
    (g.R.Read.remaining c.start_of.new.script) (Cut c.in_ok-start.start)
    (Front c.bad_start.result (g.W.Write.contents c.args.out.now)
    (g.W.Write.contents c.bad_start.new.out))
    c.in_ok-start.ensures.cut
    (λ lines rest cut. front_too c.bad_start.result _ (All lines) _ _
    (bad_start_said lines rest _ c.in_ok-start.start cut c.in_default-opening.is)
    c.bad_start.ensures.cut)

pub returns-in-Ok-finish-clause-whole : goal.returns-in-Ok-finish-clause-whole
returns-in-Ok-finish-clause-whole g c =
    joins (g.R.Read.remaining c.args.script.now)
    (g.R.Read.remaining c.start_of.new.script) (Cut c.in_ok-start.start)
    (λ left. IfOk c.run.result (Wrote (RunPrints c.in-Ok-finish.config c.in-Some.opening left
    (c.in_ok-start.start.number + 1)) (g.W.Write.contents c.args.out.now)
    (g.W.Write.contents c.run.new.out)))
    (Whole c.run.result (g.W.Write.contents c.args.out.now)
    (g.W.Write.contents c.run.new.out))
    c.in_ok-start.ensures.cut c.run.ensures.whole
    (λ lines rest cut ran. wrote_too c.run.result _ (All lines) _ _
    (run_said lines rest _ c.in_ok-start.start c.in-Some.opening c.in-Ok-finish.config cut
    c.in-Some.is
    (c.in-Ok-finish.ensures.finished _
    (front_read lines rest _ c.in_ok-start.start c.in-Some.opening cut c.in-Some.is))) ran)

pub returns-in-Ok-finish-clause-cut : goal.returns-in-Ok-finish-clause-cut
returns-in-Ok-finish-clause-cut g c =
    joins (g.R.Read.remaining c.args.script.now)
    (g.R.Read.remaining c.start_of.new.script) (Cut c.in_ok-start.start)
    (λ left. OnErr c.run.result (WroteFront (RunPrints c.in-Ok-finish.config c.in-Some.opening left
    (c.in_ok-start.start.number + 1)) (g.W.Write.contents c.args.out.now)
    (g.W.Write.contents c.run.new.out)))
    (Front c.run.result (g.W.Write.contents c.args.out.now)
    (g.W.Write.contents c.run.new.out))
    c.in_ok-start.ensures.cut c.run.ensures.cut
    (λ lines rest cut ran. front_too c.run.result _ (All lines) _ _
    (run_said lines rest _ c.in_ok-start.start c.in-Some.opening c.in-Ok-finish.config cut
    c.in-Some.is
    (c.in-Ok-finish.ensures.finished _
    (front_read lines rest _ c.in_ok-start.start c.in-Some.opening cut c.in-Some.is))) ran)

pub returns-in-Err-clause-whole : goal.returns-in-Err-clause-whole
returns-in-Err-clause-whole g c =
    concludes (g.R.Read.remaining c.args.script.now)
    (g.R.Read.remaining c.start_of.new.script) (Cut c.in_ok-start.start)
    (Whole c.bad_configuration.result (g.W.Write.contents c.args.out.now)
    (g.W.Write.contents c.bad_configuration.new.out))
    c.in_ok-start.ensures.cut
    (λ lines rest cut. wrote_too c.bad_configuration.result _ (All lines) _ _
    (bad_line_said lines rest _ c.in_ok-start.start c.in-Some.opening c.in-Err.fault cut
    c.in-Some.is (c.in-Err.ensures.finished _
    (front_read lines rest _ c.in_ok-start.start c.in-Some.opening cut c.in-Some.is)))
    c.bad_configuration.ensures.whole)

pub returns-in-Err-clause-cut : goal.returns-in-Err-clause-cut
returns-in-Err-clause-cut g c =
    concludes (g.R.Read.remaining c.args.script.now)
    (g.R.Read.remaining c.start_of.new.script) (Cut c.in_ok-start.start)
    (Front c.bad_configuration.result (g.W.Write.contents c.args.out.now)
    (g.W.Write.contents c.bad_configuration.new.out))
    c.in_ok-start.ensures.cut
    (λ lines rest cut. front_too c.bad_configuration.result _ (All lines) _ _
    (bad_line_said lines rest _ c.in_ok-start.start c.in-Some.opening c.in-Err.fault cut
    c.in-Some.is (c.in-Err.ensures.finished _
    (front_read lines rest _ c.in_ok-start.start c.in-Some.opening cut c.in-Some.is)))
    c.bad_configuration.ensures.cut)
