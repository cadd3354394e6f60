use Rattle.std.proofs.Common.{◌≡◌, ◌∙◌, List, [], ◌∷◌, ◌++◌, not, Some, get_or, position, refl}
use Rattle.std.proofs.Common.{ap, arith, rules}
use Rattle.std.proofs.lemmas.List.Quantifiers.{position-Some}
use Rattle.throttle.specs.Minutes.{is_on, minute_in}
use Rattle.throttle.specs.declared.flow.Flow.{Flow}
use Rattle.throttle.proofs.Finding.{is_of-other, is_of-over, is_of-own, none_before, push_other}
use Rattle.throttle.proofs.Finding.{push_own, set_other, set_own}
use Rattle.throttle.proofs.sources.Sources.add.Goals as goal

pub returns-in-Some-clause-set : goal.returns-in-Some-clause-set
returns-in-Some-clause-set c = λ _.
    let flow = c.args.flow in
    let flows = c.args.self.now.flows.items in
    let over : position (λ (one : Flow). not (is_on one.minute c.args.now)) flows
    ≡ Some c.in-Some.place = search rules in
    let h = position-Some (λ (one : Flow). not (is_on one.minute c.args.now)) flows
    c.in-Some.place flow over in
    let none = none_before flow.source.items c.args.now flows flow c.requires.unknown in
    set_own flow.source.items c.args.now flows c.in-Some.place flow flow h.0
    (λ i b. none i (omega (arith, b, h.0)))
    (is_of-own flow flow.source.items c.args.now refl c.requires.on)

pub returns-in-Some-clause-others : goal.returns-in-Some-clause-others
returns-in-Some-clause-others c = λ other not_it.
    let flow = c.args.flow in
    let flows = c.args.self.now.flows.items in
    let over : position (λ (one : Flow). not (is_on one.minute c.args.now)) flows
    ≡ Some c.in-Some.place = search rules in
    let h = position-Some (λ (one : Flow). not (is_on one.minute c.args.now)) flows
    c.in-Some.place flow over in
    set_other other c.args.now flows c.in-Some.place flow flow h.0
    (is_of-over (get_or flows c.in-Some.place flow) other c.args.now h.1)
    (is_of-other flow other c.args.now not_it)

-- behind the others
pub returns-in-Ok-clause-set : goal.returns-in-Ok-clause-set
returns-in-Ok-clause-set c = λ _.
    let flow = c.args.flow in
    let flows = c.args.self.now.flows.items in
    let pushed : c.push.new.self.items ≡ flows ++ flow ∷ [] = search rules in
    ap (λ (them : List Flow). minute_in them flow.source.items c.args.now) pushed
    ∙ push_own flow.source.items c.args.now flows flow c.requires.unknown
    (is_of-own flow flow.source.items c.args.now refl c.requires.on)

pub returns-in-Ok-clause-others : goal.returns-in-Ok-clause-others
returns-in-Ok-clause-others c = λ other not_it.
    let flow = c.args.flow in
    let flows = c.args.self.now.flows.items in
    let pushed : c.push.new.self.items ≡ flows ++ flow ∷ [] = search rules in
    ap (λ (them : List Flow). minute_in them other c.args.now) pushed
    ∙ push_other other c.args.now flows flow (is_of-other flow other c.args.now not_it)
