use Rattle.std.proofs.Common.{◌∙◌, ap}
use Rattle.std.specs.Option.{option_and_then}
use Rattle.std.proofs.lemmas.Result.{IfOk-weaker}
use Rattle.clap.specs.Words.{found_of}
use Rattle.clap.proofs.WalkLemmas.{first_value-rows}
use Rattle.command_line.specs.Address.{address_of}
use Rattle.command_line.proofs.reading.address_in.Goals as goal

pub returns-in-None : goal.returns-in-None
returns-in-None c =
    ap (option_and_then address_of) (c.in-None.ensures
    ∙ first_value-rows (found_of c.args.given.now) c.args.name.now)

pub returns-in-Some : goal.returns-in-Some
returns-in-Some c = IfOk-weaker c.read_address.result _ _ (λ found h.
    h ∙ ap address_of c.as_bytes.ensures.value
    ∙ ap (option_and_then address_of) (c.in-Some.ensures
    ∙ first_value-rows (found_of c.args.given.now) c.args.name.now)) c.read_address.ensures
