use Rattle.std.proofs.Common.{Bool, not, ap, ◌∙◌}
use Rattle.peer_worker.proofs.Saying.{greeted_by, turn_with}
use Rattle.peer_worker.proofs.Tellings.{looks_equipped}
use Rattle.peer_worker.proofs.attending.make_turn.Goals as goal

pub turn-requires : goal.turn-requires
turn-requires g c =
    let work = c.requires.work.2 in record {
      of = looks_equipped c.args.context.now.hub.now c.requires.work.0 c.requires.work.1
          c.args.worker.now.poster c.args.worker.now.pushing c.in-Some.pushing c.equip.new.self
          c.in-Some.is c.equip.ensures work.shown work.told work.tells;
    }

pub returns-clause-works : goal.returns-clause-works
returns-clause-works g c =
    λ seated start now w.
    turn_with c.args.context.now.hub.now seated start now c.args.worker.now c.in-Some.pushing
    c.equip.new.self c.turn.new.self c.in-Some.is c.equip.ensures c.turn.ensures.tables
    c.turn.ensures.turns w
    (greeted_by c.args.context.now.hub.now seated w.turns c.args.worker.now c.peer-peer.result
    c.peer-peer.ensures.opened
    (c.is_none.ensures ∙ ap (λ (b : Bool). not b) c.if-is_none.false) w.work)
