use Rattle.std.proofs.Common.{◌≡◌, ◌++◌, drop}
use Rattle.std.specs.List.{flat_map}
use Rattle.line_words.specs.Conditions.{condition_words}
use Rattle.config_text.specs.Spaced.{spaced}
use Rattle.config_text.proofs.tables.append_conditions.Given as goal

-- what is written and what is left to write are all
abbrev pub invariant-loop-cond : goal.invariant-loop-cond
invariant-loop-cond l =
    l.out.items ++ spaced (flat_map condition_words (drop l.cond-index l.conds))
    ≡ l.fn.out.items ++ spaced (flat_map condition_words l.conds)
