use Rattle.std.proofs.Common.{ap, ◌∙◌, ◌∷◌, []}
use Rattle.peer_rows.proofs.Shown.{absent-moved, laid-shown}
use Rattle.peer_rows.proofs.keyed.insert_new.Goals as goal

pub insert-requires : goal.insert-requires
insert-requires c = absent-moved c.args.index.now.places c.reserve.new.self.places
    c.args.key.now c.in_ok-own.own c.reserve.ensures.places c.in_ok-own.ensures.key c.requires

pub returns-clause-ok : goal.returns-clause-ok
returns-clause-ok c = laid-shown c.args.index.now.places c.reserve.new.self.places
    c.insert.new.self.places c.in_ok-_at._at c.args.key.now c.in_ok-own.own c.new.result
    ((c.args.peer, c.args.row.now) ∷ []) c.reserve.ensures.places c.in_ok-own.ensures.key
    (c.new.ensures ∙ ap (λ p. (p, c.replace-first.result) ∷ []) c.in_ok-number.ensures
    ∙ ap (λ r. (c.args.peer, r) ∷ []) c.replace-first.ensures.value) c.requires
    c.in_ok-_at.ensures.empty c.in_ok-_at.ensures.ok
