use Rattle.place_plans.specs.Forms.{links_of}
use Rattle.std.proofs.Common.{◌≡◌, ◌-◌, ◌+◌, ◌++◌, None, length, replicate, ap, ◌∙◌, arith, inl}
use Rattle.std.proofs.Common.{inr, rules}
use Rattle.std.proofs.lemmas.Grind.{common_steps}
use Rattle.place_plans.proofs.plans.grow.Goals as goal

pub returns-clause-items : goal.returns-clause-items
returns-clause-items c =
    let many : c.loop-more._more - length (links_of c.args.links.now)
    ≡ c.args.place + 1 - length (links_of c.args.links.now) = elim c.loop-more.invariant.upto [
      | inl within ↦ omega arith
      | inr same ↦ omega arith
    ] in
    c.loop-more.invariant.items
    ∙ ap (λ n. (links_of c.args.links.now) ++ replicate n None) many

pub loop-more-preserved : goal.loop-more-preserved
loop-more-preserved c = record {
  items = grind (arith, common_steps);
  room = search rules;
  upto = search rules;
  fits = λ x was. c.push_none.ensures.fits x (c.loop-more.invariant.fits x was);
  from = search rules;
}
