use Rattle.std.proofs.Common.{◌∙◌, ◌<◌, [], ap, length, refl, subst, sym}
use Rattle.std.proofs.Math.ListN.{set}
use Rattle.set_changes.specs.Noting.{IsNoted}
use Rattle.set_changes.specs.Numbered.{Logged, Numbered, log_at}
use Rattle.set_changes.proofs.Kept.{at_within}
use Rattle.set_changes.proofs.Known.{takes_one}
use Rattle.set_changes.proofs.changes.Changes.note.Goals as goal

pub returns-in-Ok : goal.returns-in-Ok
returns-in-Ok c =
    let flip = c.args.flip.now in
    let inside = c.self-in-Ok.inside in
    let mid : Numbered =
    record { count = inside.count; start = inside.start; logs = inside.logs.items } in
    let log = c.note.new.self in
    let within : flip.filter < length mid.logs =
    subst (λ (n : Numbered). flip.filter < length n.logs) (sym c.self-in-Ok.view_is)
    c.in-Ok.ensures.within in
    takes_one flip c.args.self.now mid
    (record mid { logs = set mid.logs flip.filter log }) log
    (ap (λ (n : Numbered). n.count) c.self-in-Ok.view_is ∙ c.in-Ok.ensures.count)
    (λ place. ap (λ (n : Numbered). log_at n place) c.self-in-Ok.view_is
    ∙ c.in-Ok.ensures.same place)
    within refl
    (subst (λ (l : Logged). IsNoted (record {
      number = inside.count;
      key = flip.key;
      is_in = flip.is_in;
    }) l log)
    (c.index_mut.ensures.value ∙ at_within mid.logs flip.filter c.index_mut.result.now
    (record { from = mid.start; changes = [] }) within) c.note.ensures.noted)
