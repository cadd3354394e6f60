use Rattle.std.proofs.Common.{◌≡◌, ◌++◌, length}
use Rattle.line_words.specs.Words.{parts}
use Rattle.config_text.specs.Named.{column_names, listed, start}
use Rattle.config_text.proofs.named.append_columns.Given as goal

abbrev pub invariant-items : goal.invariant-items
invariant-items l = l.out.items ++ listed l.label l.listing (column_names (parts 44 l.left))
    ≡ l.fn.out.items ++ listed l.label start (column_names (parts 44 l.list))

abbrev pub decreases-items : goal.decreases-items
decreases-items l = length l.left
