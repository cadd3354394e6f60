use Rattle.std.proofs.Common.{◌≡◌, ◌++◌, ◌-◌, suc}
use Rattle.std.specs.List.{flat_map}
use Rattle.agg_types.specs.declared.column.TheConstants.{LAST_TYPE}
use Rattle.peers_msg.specs.Spelling.{parameter_spelling, parameters_from}
use Rattle.peers_msg.proofs.parameters.append_parameters.Given as goal

abbrev pub invariant-loop-id : goal.invariant-loop-id
invariant-loop-id l =
    l.out.items ++ flat_map parameter_spelling
    (parameters_from l.definition (suc LAST_TYPE - l.id) l.id)
    ≡ l.fn.out.items ++ flat_map parameter_spelling
    (parameters_from l.definition (suc LAST_TYPE) 0)
