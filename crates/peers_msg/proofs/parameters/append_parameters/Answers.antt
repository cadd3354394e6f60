use Rattle.std.proofs.Common.{◌∙◌, ◌++◌, ap, List, ℕ, arith, option_to_list}
use Rattle.std.specs.List.{flat_map}
use Rattle.peers_msg.specs.Spelling.{parameter_spelling}
use Rattle.peers_msg.proofs.Written.{parameters_more}
use Rattle.peers_msg.proofs.parameters.append_parameters.Goals as goal

pub loop-id-preserved : goal.loop-id-preserved
loop-id-preserved c =
    let told = rw c.parameter_of.ensures at c.in_ok-append_if.ensures in
    parameters_more c.args.definition.now c.loop-id.id c.loop-id.out.items
    c.append_if.new.out.items (omega arith) told ∙ c.loop-id.invariant
