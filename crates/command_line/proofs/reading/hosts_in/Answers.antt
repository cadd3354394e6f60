use Rattle.std.proofs.Common.{◌∙◌, ap, [], Some, map}
use Rattle.std.specs.Option.{option_map_or}
use Rattle.std.specs.Prelude.{string_bytes}
use Rattle.std.proofs.lemmas.Result.{IfOk-weaker}
use Rattle.clap.specs.Words.{found_of}
use Rattle.clap.proofs.WalkLemmas.{raw_values-rows}
use Rattle.command_line.specs.Hosts.{hosts_of}
use Rattle.command_line.proofs.reading.hosts_in.Goals as goal

pub returns-in-None : goal.returns-in-None
returns-in-None c =
    ap (λ items. Some (map string_bytes items)) c.new.ensures.items
    ∙ ap (λ texts. option_map_or hosts_of texts (Some [])) (c.in-None.ensures
    ∙ raw_values-rows (found_of c.args.given.now) c.args.name.now)

pub returns-in-Some : goal.returns-in-Some
returns-in-Some c = IfOk-weaker c.read_hosts.result _ _ (λ found h.
    h ∙ ap (λ texts. option_map_or hosts_of texts (Some [])) (c.in-Some.ensures
    ∙ raw_values-rows (found_of c.args.given.now) c.args.name.now)) c.read_hosts.ensures
