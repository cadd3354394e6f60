use Rattle.std.proofs.Common.{◌∙◌, ap, None, Some}
use Rattle.std.specs.Option.{option_map_or}
use Rattle.std.proofs.lemmas.Result.{IfOk-weaker}
use Rattle.clap.specs.Words.{found_of}
use Rattle.clap.proofs.WalkLemmas.{first_value-rows}
use Rattle.command_line.specs.Asked.{path_said}
use Rattle.command_line.proofs.reading.path_if.Goals as goal

pub returns-in-None : goal.returns-in-None
returns-in-None c =
    ap (λ found. option_map_or path_said found (Some None)) (c.in-None.ensures
    ∙ first_value-rows (found_of c.args.given.now) c.args.name.now)

pub returns-in-Some : goal.returns-in-Some
returns-in-Some c = IfOk-weaker c.path_said.result _ _ (λ found h.
    h ∙ ap (λ found. option_map_or path_said found (Some None)) (c.in-Some.ensures
    ∙ first_value-rows (found_of c.args.given.now) c.args.name.now)) c.path_said.ensures
