use Rattle.std.proofs.Common.{ap, sym, ◌∙◌}
use Rattle.place_index.specs.Marks.{is_marked}
use Rattle.place_index.proofs.crowd.Crowd.put.Goals as goal

pub returns-then-self-clause-has : goal.returns-then-self-clause-has
returns-then-self-clause-has g c =
    λ yes. c.renew.ensures c.args.key.now c.args.at (record {
      marked = ap (is_marked c.mark.new.self) (sym c.requires) ∙ c.mark.ensures.this;
      is = c.add.ensures.has c.if-not-add.false;
    })

pub returns-then-self-clause-others : goal.returns-then-self-clause-others
returns-then-self-clause-others g c =
    λ k q other was. c.renew.ensures k q (record {
      marked = c.mark.ensures.others (g.K.IndexKey.hashed k) was.marked;
      is = c.add.ensures.others k other ∙ was.is;
    })
