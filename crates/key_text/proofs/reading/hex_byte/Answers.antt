use Rattle.std.proofs.Common.{ap, sym, ◌∙◌}
use Rattle.key_text.proofs.Strings.{first_byte, pair_read}
use Rattle.key_text.proofs.reading.hex_byte.Goals as goal

pub returns-in-Ok : goal.returns-in-Ok
returns-in-Ok c = ap first_byte (sym c.in-Ok.is ∙ c.from_hex.ensures)
    ∙ pair_read c.args.high c.args.low

pub returns-in-Err : goal.returns-in-Err
returns-in-Err c = ap first_byte (sym c.in-Err.is ∙ c.from_hex.ensures)
    ∙ pair_read c.args.high c.args.low
