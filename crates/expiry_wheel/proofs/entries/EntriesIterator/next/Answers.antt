use Rattle.std.proofs.Common.{◌∷◌, ap, sym, ◌∙◌}
use Rattle.std.specs.Option.{option_map}
use Rattle.expiry_wheel.specs.Lent.{lent_entry}
use Rattle.expiry_wheel.specs.Merge.{left_from}
use Rattle.expiry_wheel.proofs.Left.{left_beyond, shorter}
use Rattle.expiry_wheel.proofs.entries.EntriesIterator.next.Goals as goal

pub returns-clause-steps : goal.returns-clause-steps
returns-clause-steps g c =
    let planned = g.I.DueIndex.planned c.self.inside.index.now in
    sym c.self.view_is
    ∙ ap (λ s. left_from g.T.Ord.cmp (option_map lent_entry s) planned) c.in_ok-at.was
    ∙ ap (λ l. (c.in_ok-at.at, c.in_ok-at.item.now) ∷ l)
    (sym (left_beyond g.T.Ord.cmp g.met.T.Ord.total planned c.after-self-inside.ensures.ordered
    (c.in_ok-at.at, c.in_ok-at.item.now) (option_map lent_entry c.after-self-inside.result)
    c.after-self-inside.ensures.next))

pub returns-clause-goes : goal.returns-clause-goes
returns-clause-goes g c =
    record {
      on = λ _. (tt, tt, shorter _ _ _ (returns-clause-steps g c));
      keeps =
          tt;
      rests = λ _. tt;
    }
