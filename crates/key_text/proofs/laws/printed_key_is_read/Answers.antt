use Rattle.std.proofs.Common.{arith}
use Rattle.key_text.proofs.KeyBack.{key_back}
use Rattle.key_text.proofs.laws.printed_key_is_read.Goals as goal

pub returns : goal.returns
returns c = key_back c.args.kind c.args.key.now c.requires (λ i. let fits = c.type_inv.key i in
    omega (arith, fits))
