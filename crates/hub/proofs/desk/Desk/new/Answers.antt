use Rattle.std.proofs.Common.{◌≡◌, ap, ◌∙◌, length, arith, false, sym}
use Rattle.fleet_model.specs.Machine.{opened}
use Rattle.hub.specs.Copied.{Copied}
use Rattle.hub.specs.Kept.{Pressed}
use Rattle.hub.proofs.Held.{desked_new, nobody_counted, rested_whole}
use Rattle.hub.proofs.desk.Desk.new.Goals as goal

pub invariant_of-result : goal.invariant_of-result
unfolding opened
invariant_of-result g c =
    let peers : c.len.result ≡ length c.args.front.config.peers = c.len.ensures
    ∙ (ap (λ cs. length cs.peers) c.config.ensures.value
    ∙ ap (λ s. length s.config.peers) c.requires.opened.0) in
    let counted = nobody_counted c.args.front c.in_ok-roll.roll c.len.result c.requires.empty peers
    c.in_ok-roll.ensures in
    let press = c.in_ok-filled.filled.0 in
    let shown = c.showing-shown.result in
    let at : shown ≡ c.args.front = c.showing-shown.ensures.shown
    ∙ (ap (λ (p : Pressed). p.shown.at) c.in_ok-filled.ensures
    ∙ (ap (λ (x : Copied). x.at) c.in_ok-press.ensures.1 ∙ c.again.ensures)) in (
      desked_new g.J.Naming.book c.in_ok-queue.queue.items c.again-from.result c.args.front shown
          c.in_ok-roll.roll c.requires.named c.again-from.ensures at c.in_ok-queue.ensures.items
          counted,
      omega (arith, c.in_ok-queue.ensures.len, c.in_ok-queue.ensures.capacity),
      omega (arith, c.in_ok-queue.ensures.capacity),
      omega arith,
      rested_whole c.again-from.result shown c.again.result false press
          (ap (λ (p : Pressed). p.taken) c.in_ok-filled.ensures ∙ c.in_ok-press.ensures.0)
          (ap (λ (p : Pressed). p.shown) c.in_ok-filled.ensures ∙ c.in_ok-press.ensures.1)
          (c.again-from.ensures ∙ sym c.again.ensures) c.showing-shown.ensures.shown,
    )
