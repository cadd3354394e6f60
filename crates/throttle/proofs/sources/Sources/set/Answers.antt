use Rattle.std.proofs.Common.{◌≡◌, ◌∙◌, None, Some, get_or, position, ap}
use Rattle.std.proofs.Common.{rules}
use Rattle.std.proofs.lemmas.List.Quantifiers.{position-Some}
use Rattle.throttle.specs.Minutes.{is_of}
use Rattle.throttle.specs.declared.flow.Flow.{Flow}
use Rattle.throttle.proofs.Finding.{is_of-other, is_of-own, none_found, set_other, set_own}
use Rattle.throttle.proofs.Finding.{source_is}
use Rattle.throttle.proofs.sources.Sources.set.Goals as goal

-- its minute is changed in its place
pub returns-in-Some-clause-set : goal.returns-in-Some-clause-set
returns-in-Some-clause-set c = λ _.
    let source = c.args.source.now in
    let now = c.args.now in
    let flows = c.args.self.now.flows.items in
    let old = c.index_mut.result.now in
    let place = c.in-Some.place in
    let at : position (is_of source now) flows ≡ Some place = search rules in
    let h = position-Some (is_of source now) flows place old at in
    let is : old ≡ get_or flows place old = search rules in
    let flow : Flow = record { source = old.source; minute = c.args.minute } in
    let same : old.source.items ≡ source =
    ap (λ (one : Flow). one.source.items) is ∙ source_is (get_or flows place old) source now h.1 in
    set_own source now flows place flow old h.0 h.2 (is_of-own flow source now same c.requires)

pub returns-in-Some-clause-others : goal.returns-in-Some-clause-others
returns-in-Some-clause-others c = λ other not_it.
    let source = c.args.source.now in
    let now = c.args.now in
    let flows = c.args.self.now.flows.items in
    let old = c.index_mut.result.now in
    let place = c.in-Some.place in
    let at : position (is_of source now) flows ≡ Some place = search rules in
    let h = position-Some (is_of source now) flows place old at in
    let is : old ≡ get_or flows place old = search rules in
    let flow : Flow = record { source = old.source; minute = c.args.minute } in
    let there : (get_or flows place old).source.items ≡ source =
    source_is (get_or flows place old) source now h.1 in
    let same : old.source.items ≡ source = ap (λ (one : Flow). one.source.items) is ∙ there in
    set_other other now flows place flow old h.0
    (is_of-other (get_or flows place old) other now (λ e. not_it (e ∙ there)))
    (is_of-other flow other now (λ e. not_it (e ∙ same)))

-- nothing is remembered of it
pub returns-in_default-from_slice-clause-unknown :
    goal.returns-in_default-from_slice-clause-unknown
returns-in_default-from_slice-clause-unknown c = λ _.
    let none : position (is_of c.args.source.now c.args.now) c.args.self.now.flows.items ≡ None =
    search rules in
    none_found c.args.source.now c.args.now c.args.self.now.flows.items none

pub returns-clause-unknown : goal.returns-clause-unknown
returns-clause-unknown c = λ _.
    let none : position (is_of c.args.source.now c.args.now) c.args.self.now.flows.items ≡ None =
    search rules in
    none_found c.args.source.now c.args.now c.args.self.now.flows.items none
