use Rattle.std.proofs.Common.{◌≡◌, length}
use Rattle.line_words.specs.Words.{words}
use Rattle.config_text.specs.Named.{behind_store}
use Rattle.config_text.proofs.named.behind_store.Given as goal

abbrev pub invariant-words : goal.invariant-words
invariant-words l = behind_store (words l.left) ≡ behind_store (words l.line)

abbrev pub decreases-words : goal.decreases-words
decreases-words l = length l.left
