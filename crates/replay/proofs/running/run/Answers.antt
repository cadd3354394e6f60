use Rattle.std.proofs.Common.{◌≡◌, [], ◌∷◌, List, ℕ, ◌+◌, Option, Result, IfOk, OnErr, subst, sym}
use Rattle.std.proofs.Common.{ap, ◌∙◌, rules}
use Rattle.std.specs.Io.KnownBytes.{Appends}
use Rattle.agg_types.specs.declared.config.Config.{Config}
use Rattle.line_words.specs.Words.{lines_of}
use Rattle.replay.specs.Writing.{AppendsFront, Wrote, WroteFront}
use Rattle.replay.specs.declared.ending.Ending.{Ending}
use Rattle.replay.specs.declared.ending.Ending.TheVariants.{Done, Failed}
use Rattle.replay.proofs.SoFar.{RunPrints, SourceSoFar, broke, broke_out, on_err, ran, ran_out}
use Rattle.replay.proofs.SoFar.{ran_to, so_far_more, so_far_none, unread, wrote_nothing}
use Rattle.replay.proofs.Source.{begins, concludes, finishes, goes_on, holds, no_line, one_line}
use Rattle.replay.proofs.Source.{silent}
use Rattle.replay.proofs.running.run.Goals as goal

-- what a run over these lines gave, by how it ended
abbrev Whole : {E : Type 0} → Result Ending E → Config → ℕ → ℕ → Option (List ℕ)
    → Option (List ℕ) → List (List ℕ) → Type 0
Whole result config opening first before after lines =
    IfOk result (Wrote (RunPrints config opening lines first) before after)

abbrev Front : {E : Type 0} → Result Ending E → Config → ℕ → ℕ → Option (List ℕ)
    → Option (List ℕ) → List (List ℕ) → Type 0
Front result config opening first before after lines =
    OnErr result (WroteFront (RunPrints config opening lines first) before after)

-- a line was taken, or none
abbrev One : List ℕ → List (List ℕ) → List (List ℕ) → Type 0
One line left rest = left ≡ line ∷ rest

abbrev NoLine : List (List ℕ) → List (List ℕ) → Type 0
NoLine left rest = (left ≡ []) × (rest ≡ [])

pub lines-init : goal.lines-init
lines-init g c =
    begins (g.R.Read.remaining c.args.script.now)
    (SourceSoFar c.args.config c.args.opening c.args.first
    (g.W.Write.contents c.args.out.now) c.in-Ok.fleet c.args.first
    (g.W.Write.contents c.args.out.now))
    (λ all. so_far_none c.args.config c.args.opening all c.args.first
    (g.W.Write.contents c.args.out.now) c.in-Ok.fleet c.in-Ok.ensures.stands
    c.in-Ok.ensures.waiting)

pub lines-preserved : goal.lines-preserved
lines-preserved g c =
    goes_on (g.R.Read.remaining c.args.script.now) (g.R.Read.remaining c.lines.script)
    (g.R.Read.remaining c.take_line.new.source)
    (SourceSoFar c.args.config c.args.opening c.args.first
    (g.W.Write.contents c.args.out.now) c.lines.fleet c.lines.number
    (g.W.Write.contents c.lines.out))
    (One c.in-Some.line.now)
    (SourceSoFar c.args.config c.args.opening c.args.first
    (g.W.Write.contents c.args.out.now) c.do_line.new.fleet (c.lines.number + 1)
    (g.W.Write.contents c.write_text-in-lines.new.out))
    c.lines.invariant
    (one_line _ _ c.take_line.new.bytes.items c.in-Some.line.now _ c.in_ok-take_line.ensures
    (ap lines_of (sym c.as_slice.ensures.value) ∙ c.in-Some.ensures.line))
    (λ all left rest so_far is.
    so_far_more c.args.config c.args.opening all c.args.first _ c.lines.fleet
    c.do_line.new.fleet left c.in-Some.line.now rest c.lines.number _ _ c.clear.new.self.items
    c.do_line.new.out.items c.in-Ok-do_line.ended so_far is c.clear.ensures.items
    (λ past settled. c.in-Ok-do_line.ensures c.args.config c.args.opening past settled)
    c.in_default-ended.is
    (subst (λ (t : List ℕ). Appends (g.W.Write.contents c.lines.out)
    (g.W.Write.contents c.write_text-in-lines.new.out) t) c.as_slice-in-lines.ensures.value
    c.in_ok-write_text-2.ensures.whole))

pub returns-in_default-clause-whole : goal.returns-in_default-clause-whole
returns-in_default-clause-whole g c =
    holds (g.R.Read.remaining c.args.script.now)
    (λ lines. Wrote (RunPrints c.args.config c.args.opening lines c.args.first)
    (g.W.Write.contents c.args.out.now) (g.W.Write.contents c.args.out.now) Failed)
    (λ lines. wrote_nothing _ _)

pub returns-in_err-take_line-clause-whole : goal.returns-in_err-take_line-clause-whole
returns-in_err-take_line-clause-whole g c =
    holds (g.R.Read.remaining c.args.script.now)
    (Whole c.from_residual.result c.args.config c.args.opening c.args.first
    (g.W.Write.contents c.args.out.now) (g.W.Write.contents c.lines.out))
    (λ lines. search rules)

pub returns-in_err-take_line-clause-cut : goal.returns-in_err-take_line-clause-cut
returns-in_err-take_line-clause-cut g c =
    concludes (g.R.Read.remaining c.args.script.now) (g.R.Read.remaining c.lines.script)
    (SourceSoFar c.args.config c.args.opening c.args.first
    (g.W.Write.contents c.args.out.now) c.lines.fleet c.lines.number
    (g.W.Write.contents c.lines.out))
    (Front c.from_residual.result c.args.config c.args.opening c.args.first
    (g.W.Write.contents c.args.out.now) (g.W.Write.contents c.lines.out))
    c.lines.invariant
    (λ all left so_far. on_err c.from_residual.result _
    (unread c.args.config c.args.opening all c.args.first _ c.lines.fleet left c.lines.number _
    so_far))

pub returns-in_default-next_line-clause-whole : goal.returns-in_default-next_line-clause-whole
returns-in_default-next_line-clause-whole g c =
    finishes (g.R.Read.remaining c.args.script.now) (g.R.Read.remaining c.lines.script)
    (g.R.Read.remaining c.take_line.new.source)
    (SourceSoFar c.args.config c.args.opening c.args.first
    (g.W.Write.contents c.args.out.now) c.lines.fleet c.lines.number
    (g.W.Write.contents c.lines.out))
    NoLine
    (λ lines. Wrote (RunPrints c.args.config c.args.opening lines c.args.first)
    (g.W.Write.contents c.args.out.now) (g.W.Write.contents c.lines.out) Done)
    c.lines.invariant
    (no_line _ _ c.take_line.new.bytes.items c.in_ok-take_line.ensures
    (ap lines_of (sym c.as_slice.ensures.value) ∙ c.in_default-next_line.ensures.line))
    (λ all left rest so_far none. ran c.args.config c.args.opening all c.args.first _
    c.lines.fleet left c.lines.number _ so_far none.0)

pub returns-in_default-next_line-clause-cut : goal.returns-in_default-next_line-clause-cut
returns-in_default-next_line-clause-cut g c = silent (g.R.Read.remaining c.args.script.now)

pub returns-in_err-write_text-clause-whole : goal.returns-in_err-write_text-clause-whole
returns-in_err-write_text-clause-whole g c =
    holds (g.R.Read.remaining c.args.script.now)
    (Whole c.from_residual-in_err-write_text.result c.args.config c.args.opening c.args.first
    (g.W.Write.contents c.args.out.now) (g.W.Write.contents c.write_text.new.out))
    (λ lines. search rules)

pub returns-in_err-write_text-clause-cut : goal.returns-in_err-write_text-clause-cut
returns-in_err-write_text-clause-cut g c =
    finishes (g.R.Read.remaining c.args.script.now) (g.R.Read.remaining c.lines.script)
    (g.R.Read.remaining c.take_line.new.source)
    (SourceSoFar c.args.config c.args.opening c.args.first
    (g.W.Write.contents c.args.out.now) c.lines.fleet c.lines.number
    (g.W.Write.contents c.lines.out))
    (One c.in-Some.line.now)
    (Front c.from_residual-in_err-write_text.result c.args.config c.args.opening c.args.first
    (g.W.Write.contents c.args.out.now) (g.W.Write.contents c.write_text.new.out))
    c.lines.invariant
    (one_line _ _ c.take_line.new.bytes.items c.in-Some.line.now _ c.in_ok-take_line.ensures
    (ap lines_of (sym c.as_slice.ensures.value) ∙ c.in-Some.ensures.line))
    (λ all left rest so_far is. on_err c.from_residual-in_err-write_text.result _
    (broke_out c.args.config c.args.opening all c.args.first _ c.lines.fleet left
    c.in-Some.line.now rest c.lines.number _ _ so_far is c.in_err-write_text.ensures.cut))

pub returns-in_default-do_line-clause-whole : goal.returns-in_default-do_line-clause-whole
returns-in_default-do_line-clause-whole g c =
    finishes (g.R.Read.remaining c.args.script.now) (g.R.Read.remaining c.lines.script)
    (g.R.Read.remaining c.take_line.new.source)
    (SourceSoFar c.args.config c.args.opening c.args.first
    (g.W.Write.contents c.args.out.now) c.lines.fleet c.lines.number
    (g.W.Write.contents c.lines.out))
    (One c.in-Some.line.now)
    (λ lines. Wrote (RunPrints c.args.config c.args.opening lines c.args.first)
    (g.W.Write.contents c.args.out.now) (g.W.Write.contents c.write_text.new.out) Failed)
    c.lines.invariant
    (one_line _ _ c.take_line.new.bytes.items c.in-Some.line.now _ c.in_ok-take_line.ensures
    (ap lines_of (sym c.as_slice.ensures.value) ∙ c.in-Some.ensures.line))
    (λ all left rest so_far is.
    ran_out c.args.config c.args.opening all c.args.first _ c.lines.fleet left
    c.in-Some.line.now rest c.lines.number _ _ so_far is c.in_ok-write_text.ensures.whole)

pub returns-in_default-do_line-clause-cut : goal.returns-in_default-do_line-clause-cut
returns-in_default-do_line-clause-cut g c = silent (g.R.Read.remaining c.args.script.now)

pub returns-in_err-write_text-2-clause-whole : goal.returns-in_err-write_text-2-clause-whole
returns-in_err-write_text-2-clause-whole g c =
    holds (g.R.Read.remaining c.args.script.now)
    (Whole c.from_residual-in_err-write_text-2.result c.args.config c.args.opening c.args.first
    (g.W.Write.contents c.args.out.now) (g.W.Write.contents c.write_text-in-lines.new.out))
    (λ lines. search rules)

pub returns-in_err-write_text-2-clause-cut : goal.returns-in_err-write_text-2-clause-cut
returns-in_err-write_text-2-clause-cut g c =
    finishes (g.R.Read.remaining c.args.script.now) (g.R.Read.remaining c.lines.script)
    (g.R.Read.remaining c.take_line.new.source)
    (SourceSoFar c.args.config c.args.opening c.args.first
    (g.W.Write.contents c.args.out.now) c.lines.fleet c.lines.number
    (g.W.Write.contents c.lines.out))
    (One c.in-Some.line.now)
    (Front c.from_residual-in_err-write_text-2.result c.args.config c.args.opening c.args.first
    (g.W.Write.contents c.args.out.now) (g.W.Write.contents c.write_text-in-lines.new.out))
    c.lines.invariant
    (one_line _ _ c.take_line.new.bytes.items c.in-Some.line.now _ c.in_ok-take_line.ensures
    (ap lines_of (sym c.as_slice.ensures.value) ∙ c.in-Some.ensures.line))
    (λ all left rest so_far is. on_err c.from_residual-in_err-write_text-2.result _
    (broke c.args.config c.args.opening all c.args.first _ c.lines.fleet c.do_line.new.fleet left
    c.in-Some.line.now rest c.lines.number _ _ c.clear.new.self.items c.do_line.new.out.items
    c.in-Ok-do_line.ended so_far is c.clear.ensures.items
    (λ past settled. c.in-Ok-do_line.ensures c.args.config c.args.opening past settled)
    (subst (λ (t : List ℕ). AppendsFront (g.W.Write.contents c.lines.out)
    (g.W.Write.contents c.write_text-in-lines.new.out) t) c.as_slice-in-lines.ensures.value
    c.in_err-write_text-2.ensures.cut)))

pub returns-in-Some-ended-clause-whole : goal.returns-in-Some-ended-clause-whole
returns-in-Some-ended-clause-whole g c =
    finishes (g.R.Read.remaining c.args.script.now) (g.R.Read.remaining c.lines.script)
    (g.R.Read.remaining c.take_line.new.source)
    (SourceSoFar c.args.config c.args.opening c.args.first
    (g.W.Write.contents c.args.out.now) c.lines.fleet c.lines.number
    (g.W.Write.contents c.lines.out))
    (One c.in-Some.line.now)
    (λ lines. Wrote (RunPrints c.args.config c.args.opening lines c.args.first)
    (g.W.Write.contents c.args.out.now) (g.W.Write.contents c.write_text-in-lines.new.out)
    c.in-Some-ended.ending)
    c.lines.invariant
    (one_line _ _ c.take_line.new.bytes.items c.in-Some.line.now _ c.in_ok-take_line.ensures
    (ap lines_of (sym c.as_slice.ensures.value) ∙ c.in-Some.ensures.line))
    (λ all left rest so_far is.
    ran_to c.args.config c.args.opening all c.args.first _ c.lines.fleet c.do_line.new.fleet left
    c.in-Some.line.now rest c.lines.number _ _ c.clear.new.self.items c.do_line.new.out.items
    c.in-Ok-do_line.ended c.in-Some-ended.ending so_far is c.clear.ensures.items
    (λ past settled. c.in-Ok-do_line.ensures c.args.config c.args.opening past settled)
    c.in-Some-ended.is
    (subst (λ (t : List ℕ). Appends (g.W.Write.contents c.lines.out)
    (g.W.Write.contents c.write_text-in-lines.new.out) t) c.as_slice-in-lines.ensures.value
    c.in_ok-write_text-2.ensures.whole))

pub returns-in-Some-ended-clause-cut : goal.returns-in-Some-ended-clause-cut
returns-in-Some-ended-clause-cut g c = silent (g.R.Read.remaining c.args.script.now)

pub returns-clause-whole : goal.returns-clause-whole
returns-clause-whole g c = silent (g.R.Read.remaining c.args.script.now)

pub returns-clause-cut : goal.returns-clause-cut
returns-clause-cut g c =
    concludes (g.R.Read.remaining c.args.script.now) (g.R.Read.remaining c.lines.script)
    (SourceSoFar c.args.config c.args.opening c.args.first
    (g.W.Write.contents c.args.out.now) c.lines.fleet c.lines.number
    (g.W.Write.contents c.lines.out))
    (λ lines. WroteFront (RunPrints c.args.config c.args.opening lines c.args.first)
    (g.W.Write.contents c.args.out.now) (g.W.Write.contents c.lines.out))
    c.lines.invariant
    (λ all left so_far. unread c.args.config c.args.opening all c.args.first _ c.lines.fleet left
    c.lines.number _ so_far)
