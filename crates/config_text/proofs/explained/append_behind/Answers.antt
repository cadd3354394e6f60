use Rattle.std.proofs.Common.{◌≡◌, ◌++◌, ◌∙◌, ◌-◌, OnOk, subst}
use Rattle.line_words.specs.Words.{lines_of}
use Rattle.config_text.specs.Explained.{line_explanation}
use Rattle.config_text.proofs.Sought.{behind_first}
use Rattle.config_text.proofs.explained.append_behind.Goals as goal

pub returns : goal.returns
returns c = λ is.
    subst (λ line. OnOk c.append_line.result (c.append_line.new.out.items
    ≡ c.args.out.now.items
    ++ line_explanation (lines_of c.args.text.now) c.args.fault line))
    (c.first_line.ensures
    ∙ behind_first (lines_of c.args.text.now) (lines_of c.args.left.now) (c.args.fault.line - 1) is)
    c.append_line.ensures
