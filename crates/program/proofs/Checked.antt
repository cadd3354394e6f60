-- The text of faults, one after the other.
use Rattle.std.proofs.Common.{◌≡◌, ◌<◌, ℕ, ◌+◌, List, [], ◌∷◌, ◌++◌, take, get_or, sym, length}
use Rattle.std.proofs.Common.{ap, ◌∙◌, append-nil}
use Rattle.std.proofs.lemmas.Grind.{flat_map-append}
use Rattle.std.proofs.lemmas.List.{take_more}
use Rattle.agg_config.specs.declared.causes.LineFault.{LineFault}
use Rattle.program.specs.Checking.{faults_text}
use Rattle.program.specs.Faults.{line_text}

-- the text of one more fault
pub text_more : (faults : List LineFault) (i : ℕ) (d : LineFault) → i < length faults
    → faults_text (take i faults) ++ line_text (get_or faults i d)
    ≡ faults_text (take (i + 1) faults)
text_more faults i d within =
    let one = get_or faults i d in
    ap (λ t. faults_text (take i faults) ++ t) (sym (append-nil (line_text one)))
    ∙ sym (flat_map-append line_text (take i faults) (one ∷ []))
    ∙ ap (λ fs. faults_text fs) (sym (take_more faults i d within))
