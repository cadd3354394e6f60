use Rattle.std.proofs.Common.{arith, ◌+◌, ◌-◌, length, length-drop}
use Rattle.std.proofs.lemmas.List.{take_all}
use Rattle.line_words.proofs.parts.behind.Goals as goal

pub returns : goal.returns
returns c =
    take_all (length c.args.text.now - (c.args.at + 1)) _
    (omega (arith, length-drop (c.args.at + 1) c.args.text.now))
