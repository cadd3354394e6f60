use Rattle.std.proofs.Common.{ℕ, List, [], sym, ap, subst, refl, ◌∙◌, append-nil}
use Rattle.replay.specs.Given.{step_given}
use Rattle.replay.specs.Meaning.{AlwaysFits}
use Rattle.replay.specs.Runs.{LineGives, MeaningGives, bad_line, printing}
use Rattle.replay.specs.declared.steps.Meaning.{Meaning}
use Rattle.replay.specs.declared.steps.Meaning.TheVariants.{Does}
use Rattle.replay.proofs.Asking.{bad_did, given_too, just_given, printed}
use Rattle.replay.proofs.running.do_line.Goals as goal

pub returns-in-Nothing : goal.returns-in-Nothing
returns-in-Nothing c = λ config opening past settled.
    printed (LineGives config opening past c.args.number c.args.line.now) c.args.fleet.now config
    opening past [] c.args.out.now.items c.args.out.now.items
    (subst (λ (m : Meaning). MeaningGives m config opening past c.args.number c.args.line.now
    (printing past [])) (sym c.in-Nothing.is ∙ c.in_ok-meaning_of.ensures.exact) refl)
    settled (sym (append-nil c.args.out.now.items))

-- a step that a line says fits every configuration
pub do_step-requires : goal.do_step-requires
do_step-requires c =
    let fits : AlwaysFits (Does c.in-Does.step) =
    subst AlwaysFits c.in-Does.is c.in_ok-meaning_of.ensures.fits in
    record { fits = fits c.args.fleet.now.book.config }

pub returns-in-Does : goal.returns-in-Does
returns-in-Does c = λ config opening past settled.
    just_given c.do_step.result (LineGives config opening past c.args.number c.args.line.now)
    (step_given config opening past c.in-Does.step) c.do_step.new.fleet config opening
    c.args.out.now.items c.do_step.new.out.items
    (subst (λ (m : Meaning). MeaningGives m config opening past c.args.number c.args.line.now
    (step_given config opening past c.in-Does.step)) (sym c.in-Does.is
    ∙ c.in_ok-meaning_of.ensures.exact) refl)
    (c.do_step.ensures config opening past settled)

pub returns-in-BadStep : goal.returns-in-BadStep
returns-in-BadStep c = λ config opening past settled.
    let fault = c.fault_text.result.now in
    bad_did c.append_bad.result (LineGives config opening past c.args.number c.args.line.now)
    c.args.fleet.now config opening past c.args.number fault c.args.out.now.items
    c.append_bad.new.out.items
    (subst (λ (m : Meaning). MeaningGives m config opening past c.args.number c.args.line.now
    (bad_line past c.args.number fault)) (sym c.in-BadStep.is ∙ c.in_ok-meaning_of.ensures.exact)
    (ap (λ (text : List ℕ). bad_line past c.args.number text) c.fault_text.ensures))
    settled c.append_bad.ensures.text c.append_bad.ensures.ended

pub returns-in-Asks : goal.returns-in-Asks
returns-in-Asks c = λ config opening past settled.
    given_too c.ask.result _ (LineGives config opening past c.args.number c.args.line.now)
    c.ask.new.fleet config opening c.args.out.now.items c.ask.new.out.items
    (λ given gives. subst (λ (m : Meaning). MeaningGives m config opening past c.args.number
    c.args.line.now given) (sym c.in-Asks.is ∙ c.in_ok-meaning_of.ensures.exact) gives)
    (c.ask.ensures config opening past settled)
