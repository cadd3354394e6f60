use Rattle.std.proofs.Common.{◌≡◌, ◌≤◌, ◌∙◌, ap, sym, subst, length}
use Rattle.place_order.specs.Chains.{walked}
use Rattle.place_order.specs.Kept.{AreKept}
use Rattle.place_order.specs.Orders.{AreBelow, IsApart, Ordered, by_rank, without}
use Rattle.place_order.proofs.Keeping.{AreKeptNow, apart_from_room, chain_behind, few_of}
use Rattle.place_order.proofs.Keeping.{kept_without, not_there, was_taken}
use Rattle.place_order.proofs.Ranked.{ranks_total, without_none}
use Rattle.place_order.proofs.order.PlaceOrder.remove.Given.{Over}
use Rattle.place_order.proofs.order.PlaceOrder.remove.Goals as goal

pub returns-then-at-self-clause-removed : goal.returns-then-at-self-clause-removed
returns-then-at-self-clause-removed g c =
    sym (without_none c.args.at c.args.self.now.places
    (apart_from_room c.self.inside.room c.args.at c.args.self.now.places c.if-at-self.true
    (subst (λ (order : Ordered). AreBelow c.self.inside.room order.places) c.self.view_is
    c.self.invariant.below)))

-- where it isn't behind those below it
module _ (g : Over) (c : goal.Then-behind-at g) where
  is : walked c.self.inside.chain.nexts.items c.self.inside.chain.first c.self.inside.chain.len
      ≡ c.args.self.now.places
  is = ap (λ (order : Ordered). order.places) c.self.view_is

  kept : AreKept c.self.inside.tree.nodes c.self.inside.tree.root c.self.inside.chain.nexts
      c.self.inside.chain.first c.args.self.now.places c.self.inside.room
  kept = subst (λ xs. AreKept c.self.inside.tree.nodes c.self.inside.tree.root
      c.self.inside.chain.nexts c.self.inside.chain.first xs c.self.inside.room) is
      c.self.invariant

  few : length c.args.self.now.places ≤ c.self.inside.chain.len
  few = few_of c.self.inside.chain.nexts.items c.self.inside.chain.first
      c.self.inside.chain.len c.args.self.now.places is

  apart : IsApart c.args.at c.args.self.now.places
  apart =
      let rank = g.R.PlaceRanks.rank c.args.ranks.now in
      not_there (by_rank rank) (ranks_total rank) c.args.at c.self.inside.chain.nexts.items
      c.self.inside.chain.first c.remove-before.result c.behind.result
      c.args.self.now.places kept.chain
      (c.remove-before.ensures.cut c.args.self.now.places kept.tree c.requires.ordered few)
      c.behind.ensures c.requires.ordered c.if-behind-at.true

pub returns-then-behind-at-clause-removed : goal.returns-then-behind-at-clause-removed
returns-then-behind-at-clause-removed g c =
    is g c ∙ sym (without_none c.args.at c.args.self.now.places (apart g c))

pub invariant_of-self : goal.invariant_of-self
invariant_of-self g c =
    let there = kept g c in
    let was = kept_without c.self.inside.tree.nodes c.remove-before.new.self.nodes
    c.self.inside.tree.root c.remove-before.new.self.root c.self.inside.chain.nexts
    c.self.inside.chain.first c.args.at c.self.inside.room c.args.self.now.places there
    (apart g c)
    (c.remove-before.ensures.tree c.args.self.now.places there.tree c.requires.ordered
    (few g c)) c.remove-before.ensures.space in
    subst (λ xs. AreKept c.remove-before.new.self.nodes c.remove-before.new.self.root
    c.self.inside.chain.nexts c.self.inside.chain.first xs c.self.inside.room)
    (sym (is g c)) was

now : (g : Over) (c : goal.After-unlink g)
    → AreKeptNow (by_rank (g.R.PlaceRanks.rank c.args.ranks.now)) c.remove-before.new.self.nodes
    c.remove-before.new.self.root c.unlink.new.self.nexts c.unlink.new.self.first
    c.unlink.new.self.len c.self.inside.room
    (λ xs. xs ≡ without c.args.at c.args.self.now.places)
now g c =
    let rank = g.R.PlaceRanks.rank c.args.ranks.now in
    let same = ap (λ (order : Ordered). order.places) c.self.view_is in
    let kept = subst (λ xs. AreKept c.self.inside.tree.nodes c.self.inside.tree.root
    c.self.inside.chain.nexts c.self.inside.chain.first xs c.self.inside.room) same
    c.self.invariant in
    let few = few_of c.self.inside.chain.nexts.items c.self.inside.chain.first
    c.self.inside.chain.len c.args.self.now.places same in
    let cut = c.remove-before.ensures.cut c.args.self.now.places kept.tree c.requires.ordered
    few in
    was_taken (by_rank rank) (ranks_total rank) c.args.at c.self.inside.tree.nodes
    c.remove-before.new.self.nodes c.self.inside.tree.root c.remove-before.new.self.root
    c.self.inside.chain.nexts c.unlink.new.self.nexts c.self.inside.chain.first
    c.unlink.new.self.first c.self.inside.chain.len c.unlink.new.self.len c.self.inside.room
    c.remove-before.result c.args.self.now.places same kept c.requires.ordered cut
    c.remove-before.ensures.space c.unlink.ensures.space c.behind.result
    (chain_behind (by_rank rank) (ranks_total rank) c.args.at c.self.inside.chain.nexts.items
    c.self.inside.chain.first c.remove-before.result c.behind.result
    c.args.self.now.places kept.chain cut c.behind.ensures) c.if-behind-at.false
    c.if-at-self.false
    (c.remove-before.ensures.tree c.args.self.now.places kept.tree c.requires.ordered few)
    c.unlink.ensures.chain c.unlink.ensures.len

pub invariant_of-self-2 : goal.invariant_of-self-2
invariant_of-self-2 g c = (now g c).kept

pub returns-clause-removed : goal.returns-clause-removed
returns-clause-removed g c = (now g c).changed

pub returns-clause-ordered : goal.returns-clause-ordered
returns-clause-ordered g c = (now g c).ordered
