use Rattle.std.proofs.Common.{◌≡◌, ◌∷◌, ap, sym, ◌∙◌, inl, inr, true, false}
use Rattle.std.specs.Prelude.{Some}
use Rattle.std.specs.Option.{option_map}
use Rattle.expiry_wheel.specs.Lent.{lent_entry}
use Rattle.expiry_wheel.specs.Merge.{merged, left_from, second_comes_first}
use Rattle.expiry_wheel.proofs.Left.{left_beyond, merged_first, merged_second, shorter}
use Rattle.expiry_wheel.proofs.due.DueIterator.next.Goals as goal

pub returns-in_ok-at-clause-steps : goal.returns-in_ok-at-clause-steps
returns-in_ok-at-clause-steps g c =
    let firsts = g.A.DueIndex.planned c.self.inside.firsts.now in
    let seconds = g.B.DueIndex.planned c.self.inside.seconds.now in
    let first = option_map lent_entry c.self.inside.first in
    let comes : second_comes_first first (Some (c.in_ok-at.at, c.in_ok-at.item.now)) ≡ true =
    ap (λ s. second_comes_first first (option_map lent_entry s)) (sym c.in_ok-at.was)
    ∙ sym c.is_second_next.ensures ∙ c.if-is_second_next.true in
    sym c.self.view_is
    ∙ ap (λ s. merged (left_from g.T.Ord.cmp first firsts)
    (left_from g.U.Ord.cmp (option_map lent_entry s) seconds)) c.in_ok-at.was
    ∙ merged_second g.T.Ord.cmp g.U.Ord.cmp first firsts (
      c.in_ok-at.at,
      c.in_ok-at.item.now,
    ) _ comes
    ∙ ap (λ l. inr (c.in_ok-at.at, c.in_ok-at.item.now) ∷ merged
    (left_from g.T.Ord.cmp first firsts) l)
    (sym (left_beyond g.U.Ord.cmp g.met.U.Ord.total seconds c.after-self-inside.ensures.ordered
    (c.in_ok-at.at, c.in_ok-at.item.now) (option_map lent_entry c.after-self-inside.result)
    c.after-self-inside.ensures.next))

pub returns-in_ok-at-clause-goes : goal.returns-in_ok-at-clause-goes
returns-in_ok-at-clause-goes g c =
    record {
      on = λ _. (tt, tt, shorter _ _ _ (returns-in_ok-at-clause-steps g c));
      keeps =
          tt;
      rests = λ _. tt;
    }

pub returns-in_ok-at-2-clause-steps : goal.returns-in_ok-at-2-clause-steps
returns-in_ok-at-2-clause-steps g c =
    let firsts = g.A.DueIndex.planned c.self.inside.firsts.now in
    let seconds = g.B.DueIndex.planned c.self.inside.seconds.now in
    let second = option_map lent_entry c.self.inside.second in
    let comes : second_comes_first (Some (c.in_ok-at-2.at, c.in_ok-at-2.item.now)) second ≡ false =
    ap (λ s. second_comes_first (option_map lent_entry s) second) (sym c.in_ok-at-2.was)
    ∙ sym c.is_second_next.ensures ∙ c.if-is_second_next.false in
    sym c.self.view_is
    ∙ ap (λ s. merged (left_from g.T.Ord.cmp (option_map lent_entry s) firsts)
    (left_from g.U.Ord.cmp second seconds)) c.in_ok-at-2.was
    ∙ merged_first g.T.Ord.cmp g.U.Ord.cmp (c.in_ok-at-2.at, c.in_ok-at-2.item.now) _
    second seconds comes
    ∙ ap (λ l. inl (c.in_ok-at-2.at, c.in_ok-at-2.item.now) ∷ merged l
    (left_from g.U.Ord.cmp second seconds))
    (sym (left_beyond g.T.Ord.cmp g.met.T.Ord.total firsts
    c.after-self-inside-else-is_second_next.ensures.ordered (
      c.in_ok-at-2.at,
      c.in_ok-at-2.item.now,
    ) (option_map lent_entry
    c.after-self-inside-else-is_second_next.result)
    c.after-self-inside-else-is_second_next.ensures.next))

pub returns-in_ok-at-2-clause-goes : goal.returns-in_ok-at-2-clause-goes
returns-in_ok-at-2-clause-goes g c =
    record {
      on = λ _. (tt, tt, shorter _ _ _ (returns-in_ok-at-2-clause-steps g c));
      keeps =
          tt;
      rests = λ _. tt;
    }
