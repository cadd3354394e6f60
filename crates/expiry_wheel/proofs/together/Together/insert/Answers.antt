use Rattle.std.proofs.Common.{◌≡◌, ◌∷◌, ap, sym, ◌∙◌, subst}
use Rattle.std.specs.Prelude.{Some}
use Rattle.std.specs.BTreeSet.{insert_key}
use Rattle.expiry_wheel.specs.Items.{AreTogether, items_of}
use Rattle.expiry_wheel.proofs.Firsts.{alone, none_there, before_first, put_before, among_others}
use Rattle.expiry_wheel.proofs.together.Together.insert.Given as given
use Rattle.expiry_wheel.proofs.together.Together.insert.Goals as goal

pub invariant_of-self : goal.invariant_of-self
invariant_of-self g c =
    alone g.T.Ord.cmp c.args.item c.self.inside.others.keys
    (none_there g.T.Ord.cmp c.self.inside.first c.self.inside.others.keys c.self.invariant
    c.in_default.is)

pub returns-in_default-clause-ordered : goal.returns-in_default-clause-ordered
returns-in_default-clause-ordered g c =
    (alone g.T.Ord.cmp c.args.item c.self.inside.others.keys
    (none_there g.T.Ord.cmp c.self.inside.first c.self.inside.others.keys c.self.invariant
    c.in_default.is)).ordered

-- the item stands first, and what was first among the others
led : (g : given.Over) (c : goal.In_default-insert g)
    → AreTogether g.T.Ord.cmp (Some c.replace-second.new.dest) c.insert.new.self.keys
led g c =
    let cmp = g.T.Ord.cmp in
    let others = c.self.inside.others.keys in
    let first = c.in-Some.first in
    let h : AreTogether cmp (Some first) others = subst (λ f. AreTogether cmp f others) c.in-Some.is
    c.self.invariant in
    let keys : c.insert.new.self.keys ≡ insert_key cmp others first =
    c.in_default-insert.ensures.keys
    ∙ ap (insert_key cmp others) c.replace-second.ensures.value in
    subst (λ k. AreTogether cmp (Some c.replace-second.new.dest) k) (sym keys)
    (subst (λ x. AreTogether cmp (Some x) (insert_key cmp others first))
    (sym c.replace-second.ensures.after) (before_first cmp g.met.T.Ord.total c.args.item first
    others (sym c.in-Less.ensures) h))

pub invariant_of-self-in_default-insert : goal.invariant_of-self-in_default-insert
invariant_of-self-in_default-insert g c = led g c

pub returns-in_default-insert-clause-ordered : goal.returns-in_default-insert-clause-ordered
returns-in_default-insert-clause-ordered g c = (led g c).ordered

pub returns-in_default-insert-clause-ok : goal.returns-in_default-insert-clause-ok
returns-in_default-insert-clause-ok g c =
    let cmp = g.T.Ord.cmp in
    let others = c.self.inside.others.keys in
    let first = c.in-Some.first in
    let h : AreTogether cmp (Some first) others = subst (λ f. AreTogether cmp f others) c.in-Some.is
    c.self.invariant in
    let keys : c.insert.new.self.keys ≡ insert_key cmp others first =
    c.in_default-insert.ensures.keys
    ∙ ap (insert_key cmp others) c.replace-second.ensures.value in
    ap (λ x. x ∷ c.insert.new.self.keys) c.replace-second.ensures.after
    ∙ ap (λ k. c.args.item ∷ k) keys
    ∙ put_before cmp c.args.item first others (sym c.in-Less.ensures) h
    ∙ ap (λ f. insert_key cmp (items_of f others) c.args.item) (sym c.in-Some.is)
    ∙ ap (λ l. insert_key cmp l c.args.item) c.self.view_is

-- the item stands among the others
joined : (g : given.Over) (c : goal.In_ok-insert-in-Greater g)
    → AreTogether g.T.Ord.cmp (Some c.in-Some.first) c.insert-in-Greater.new.self.keys
joined g c =
    let cmp = g.T.Ord.cmp in
    let others = c.self.inside.others.keys in
    let first = c.in-Some.first in
    let h : AreTogether cmp (Some first) others = subst (λ f. AreTogether cmp f others) c.in-Some.is
    c.self.invariant in
    subst (λ k. AreTogether cmp (Some first) k) (sym c.in_ok-insert-in-Greater.ensures.keys)
    (among_others cmp g.met.T.Ord.total c.args.item first others (sym c.in-Greater.ensures) h)

pub invariant_of-self-in_ok-insert-in-Greater : goal.invariant_of-self-in_ok-insert-in-Greater
invariant_of-self-in_ok-insert-in-Greater g c = joined g c

pub returns-in_ok-insert-in-Greater-clause-ordered :
    goal.returns-in_ok-insert-in-Greater-clause-ordered
returns-in_ok-insert-in-Greater-clause-ordered g c = (joined g c).ordered
