use Rattle.key_text.proofs.Elisions.{elided_is_read}
use Rattle.key_text.proofs.laws.elided_address_is_read.Goals as goal

pub returns : goal.returns
returns c = λ front back zeros. elided_is_read front back zeros c.args.key.now
