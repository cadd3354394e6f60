use Rattle.std.proofs.Common.{◌≡◌, length, suc}
use Rattle.std.specs.Option.{option_copied, option_map_or}
use Rattle.web_target.specs.Targets.{pieces_of, words_from, words_in}
use Rattle.web_target.proofs.query.words_in.Given as goal

-- the pieces that were read and those that are left are all
abbrev pub invariant-loop-rest : goal.invariant-loop-rest
invariant-loop-rest l =
    words_from l.words (pieces_of (option_copied l.rest)) ≡ words_in (option_copied l.query)

-- how much is left
abbrev pub decreases-loop-rest : goal.decreases-loop-rest
decreases-loop-rest l = option_map_or (λ text. suc (length text)) (option_copied l.rest) 0
