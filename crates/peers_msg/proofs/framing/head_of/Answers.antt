use Rattle.std.proofs.Common.{◌≡◌, ◌-◌, length, take, drop, Ok, sym, ap, ◌∙◌, arith}
use Rattle.std.proofs.lemmas.List.{take_rest}
use Rattle.peers_msg.specs.Numeral.{integer_at}
use Rattle.peers_msg.proofs.Frames.{whole_head}
use Rattle.peers_msg.proofs.framing.head_of.Goals as goal

pub returns-else-rest-taken-clause-exact : goal.returns-else-rest-taken-clause-exact
returns-else-rest-taken-clause-exact c =
    let bytes = c.args.bytes.now in
    let t : take (length bytes - 2) (drop 2 bytes) ≡ drop 2 bytes = take_rest bytes 2 in
    let n : length (take (length bytes - 2) (drop 2 bytes)) ≡ length (drop 2 bytes) = ap length t in
    whole_head bytes c.in-Ok-Some.len c.in-Ok-Some.taken (omega arith) (omega arith)
    (ap integer_at (sym t) ∙ sym c.in-Ok-Some.ensures.exact
    ∙ ap (λ x. Ok x) c.in-Ok-Some.field-0-is) (omega arith) (omega arith)
