use Rattle.std.proofs.Common.{◌∙◌, ap, [], codes, map}
use Rattle.std.specs.Prelude.{unwrap_or}
use Rattle.std.proofs.lemmas.Result.{IfOk-weaker}
use Rattle.clap.specs.Words.{found_of}
use Rattle.clap.proofs.WalkLemmas.{raw_values-rows}
use Rattle.command_line.proofs.reading.files_in.Goals as goal

pub returns-in-None : goal.returns-in-None
returns-in-None c =
    ap (map (λ text. text.now)) c.new.ensures.items
    ∙ ap (λ texts. unwrap_or texts []) (c.in-None.ensures
    ∙ raw_values-rows (found_of c.args.given.now) (codes "file"))

pub returns-in-Some : goal.returns-in-Some
returns-in-Some c = IfOk-weaker c.copied.result _ _ (λ files h.
    h ∙ ap (λ texts. unwrap_or texts []) (c.in-Some.ensures
    ∙ raw_values-rows (found_of c.args.given.now) (codes "file"))) c.copied.ensures
