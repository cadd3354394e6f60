use Rattle.std.proofs.Common.{sym, ap, ◌∙◌, ◌≡◌, None, Some, position, rules}
use Rattle.std.proofs.lemmas.List.Quantifiers.{position-Some}
use Rattle.throttle.specs.declared.flow.Flow.{Flow}
use Rattle.throttle.specs.Minutes.{is_of}
use Rattle.throttle.proofs.Finding.{found, none_found}
use Rattle.throttle.proofs.sources.Sources.minute_of.Goals as goal

pub returns-in-Some : goal.returns-in-Some
returns-in-Some c =
    let test = is_of c.args.source.now c.args.now in
    let flows = c.args.self.now.flows.items in
    let d = c.index.result.now in
    let at : position test flows ≡ Some c.in-Some.place = search rules in
    let h = position-Some test flows c.in-Some.place d at in
    ap (λ (flow : Flow). flow.minute) c.index.ensures
    ∙ sym (found c.args.source.now c.args.now flows c.in-Some.place d h.0 h.1 h.2)

pub returns-in-None : goal.returns-in-None
returns-in-None c =
    let test = is_of c.args.source.now c.args.now in
    let none : position test c.args.self.now.flows.items ≡ None = search rules in
    c.fresh.ensures
    ∙ sym (none_found c.args.source.now c.args.now c.args.self.now.flows.items none)
