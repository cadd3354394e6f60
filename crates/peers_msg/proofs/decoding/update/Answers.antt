use Rattle.std.proofs.Common.{Some, ap, sym, ◌∙◌, drop, length-take, arith}
use Rattle.peers_msg.specs.declared.message.Message.TheVariants.{Update}
use Rattle.peers_msg.proofs.Parts.{part_behind, behind_all}
use Rattle.peers_msg.proofs.decoding.update.Goals as goal

pub returns-in-Some : goal.returns-in-Some
returns-in-Some c =
    let all = behind_all c.args.bytes.now c.args.start in
    let exact = rw all at c.in-Some.ensures.exact in
    let fits = rw all at c.in-Some.ensures.fits in
    sym exact ∙ ap (λ rest. Some (Update c.in-Some.id c.in-Some.life rest))
    (part_behind c.args.bytes.now c.args.start c.args.len c.in-Some.taken
    (omega (arith, fits, length-take c.args.len (drop c.args.start c.args.bytes.now))))
