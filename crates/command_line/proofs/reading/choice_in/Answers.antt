use Rattle.std.proofs.Common.{◌∙◌, ap, codes, Some}
use Rattle.std.specs.Option.{option_map_or}
use Rattle.clap.specs.Words.{found_of}
use Rattle.clap.proofs.WalkLemmas.{first_value-rows}
use Rattle.command_line.specs.Asked.{choice_of}
use Rattle.command_line.specs.declared.job.UnknownPeers.TheVariants.{Refuse}
use Rattle.command_line.proofs.reading.choice_in.Goals as goal

pub returns-in-None : goal.returns-in-None
returns-in-None c =
    ap (λ found. option_map_or choice_of found (Some Refuse)) (c.in-None.ensures
    ∙ first_value-rows (found_of c.args.given.now) (codes "unknown-peers"))

pub returns-in-Some : goal.returns-in-Some
returns-in-Some c =
    c.choice_of.ensures
    ∙ ap (λ found. option_map_or choice_of found (Some Refuse)) (c.in-Some.ensures
    ∙ first_value-rows (found_of c.args.given.now) (codes "unknown-peers"))
