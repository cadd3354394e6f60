use Rattle.std.proofs.Common.{◌≡◌, ◌+◌, ◌++◌, ◌∷◌, [], IfSome, List, ap, length, map, subst, sym}
use Rattle.std.proofs.Common.{take, ◌∙◌, arith, length-append}
use Rattle.std.proofs.lemmas.List.{length-map, length-take-le, map-append, take_all, take_more}
use Rattle.pushed_keys.specs.declared.pushed.Pushed.{Pushed}
use Rattle.peer_worker.specs.Gathering.{Each, IsMovedSince}
use Rattle.peer_worker.proofs.Moving.{each_more}
use Rattle.peer_worker.proofs.moves.moves_since.Goals as goal

pub loop-table-preserved : goal.loop-table-preserved
loop-table-preserved c =
    let seen = c.args.look.now.lens.now.seen in
    let pushed = c.args.pushed.now in
    let at = c.loop-table.table-index in
    let table : Pushed = c.table-item.result in
    let moves = c.in-Some.moves in
    let before = c.loop-table.all.items in
    let pushes : c.push.new.self.items ≡ before ++ moves ∷ [] = c.in_ok-push.ensures.items in
    let split : take (at + 1) pushed ≡ take at pushed ++ table ∷ [] =
    take_more pushed at table c.loop-table-test.true
    ∙ ap (λ (t : Pushed). take at pushed ++ t ∷ []) (sym c.table-item.is) in
    let one : IsMovedSince c.args.number seen table moves.items =
    subst (λ found. IfSome found (λ moves. IsMovedSince c.args.number seen table moves.items))
    c.in-Some.is c.in_ok-moves.ensures in
    record {
      long = ap length pushes
          ∙ (length-append before (moves ∷ [])
          ∙ ap (λ n. n + 1) c.loop-table.invariant.long);
      each = subst (λ (tables : List Pushed).
          Each (λ table moves. IsMovedSince c.args.number seen table moves) tables
          (map (λ moves. moves.items) c.push.new.self.items)) (sym split)
          (subst (Each (λ table moves. IsMovedSince c.args.number seen table moves)
          (take at pushed ++ table ∷ []))
          (sym (ap (map (λ moves. moves.items)) pushes
          ∙ map-append (λ moves. moves.items) before (moves ∷ [])))
          (each_more (λ table moves. IsMovedSince c.args.number seen table moves)
          (take at pushed) (map (λ moves. moves.items) before) table moves.items
          (length-map before (λ moves. moves.items)
          ∙ (c.loop-table.invariant.long
          ∙ sym (length-take-le at pushed (let t = c.loop-table-test.true in omega arith))))
          c.loop-table.invariant.each one));
    }

pub returns : goal.returns
returns c =
    let pushed = c.args.pushed.now in
    subst (λ (tables : List Pushed).
    Each (λ table moves. IsMovedSince c.args.number c.args.look.now.lens.now.seen table moves)
    tables (map (λ moves. moves.items) c.loop-table.all.items))
    (take_all c.loop-table.table-index pushed (let t = c.loop-table-test.false in omega arith))
    c.loop-table.invariant.each
