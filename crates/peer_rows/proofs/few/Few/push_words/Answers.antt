use Rattle.std.proofs.Common.{◌+◌, ◌∙◌, [], ◌∷◌, ◌++◌, List, ap, arith}
use Rattle.peer_rows.specs.Few.{cell_at}
use Rattle.peer_rows.specs.declared.row.Held.{Held}
use Rattle.peer_rows.proofs.Widths.{few-pushed}
use Rattle.peer_rows.proofs.few.Few.push_words.Goals as goal

pub returns : goal.returns
returns c =
    few-pushed c.self.inside.len c.self.inside.kinds (c.in-Some.before + c.digit.result)
    c.digit.result c.self.inside.used c.self.inside.words c.write_words.new.words c.args.own.now
    c.args.kind (omega (arith, c.in-Some.ensures)) c.digit.ensures.digit c.digit.ensures.kind
    c.self.invariant.width c.requires.words c.write_words.ensures.here c.write_words.ensures.before
    ∙ ap (λ (cells : List Held). cells ++ cell_at c.args.kind c.args.own.now 0 ∷ [])
    c.self.view_is
