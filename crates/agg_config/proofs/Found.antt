-- The faults of lines, one after the other.
use Rattle.std.proofs.Common.{◌≡◌, ◌≢◌, ◌≤◌, ◌<◌, ℕ, ◌+◌, ◌-◌, List, [], ◌∷◌, ◌++◌, Option}
use Rattle.std.proofs.Common.{None, Some, set, refl, sym, length, ap, subst, ◌∙◌, arith}
use Rattle.std.proofs.Common.{append-nil, append_assoc, length-append}
use Rattle.std.proofs.Math.Seq.{set-append_seam}
use Rattle.agg_types.specs.declared.config.Config.{Config}
use Rattle.line_words.specs.Words.{lines_of}
use Rattle.agg_config.specs.Faults.{AreFaults, without}
use Rattle.agg_config.specs.Lines.{Ends}
use Rattle.agg_config.specs.Reading.{IsFirstFault, Write}
use Rattle.agg_config.specs.declared.causes.LineCause.TheVariants as cause
use Rattle.agg_config.specs.declared.causes.LineFault.{LineFault}

-- a fault in front of those that are left once its line is blank
goes_on : (lines : List (List ℕ)) (fault : LineFault) (others : List LineFault)
    → IsFirstFault lines fault → fault.cause ≢ cause.NoMemory → fault.line ≤ length lines
    → AreFaults (without fault.line lines) others → AreFaults lines (fault ∷ others)
goes_on lines fault others first not within rest =
    (first, not, (λ _. rest), (λ beyond. absurd (omega (arith, within, beyond))))

-- a fault behind the last line
goes_no_further : (lines : List (List ℕ)) (fault : LineFault) → IsFirstFault lines fault
    → fault.cause ≢ cause.NoMemory → length lines < fault.line → AreFaults lines (fault ∷ [])
goes_no_further lines fault first not beyond =
    (first, not, (λ within. absurd (omega (arith, within, beyond))), (λ _. refl))

-- all lines, where these stand in front of what is left
all_lines : (before : List (List ℕ)) (here line rest : List ℕ)
    → lines_of here ≡ line ∷ lines_of rest
    → (before ++ line ∷ []) ++ lines_of rest ≡ before ++ lines_of here
all_lines before here line rest next =
    append_assoc before (line ∷ []) (lines_of rest) ∙ ap (λ ls. before ++ ls) (sym next)

-- what was found so far, with the faults of what is left, is all
abbrev pub Whole : List (List ℕ) → List (List ℕ) → List LineFault → Type 0
Whole all lines found = (others : List LineFault) → AreFaults lines others
    → AreFaults all (found ++ others)

-- a line without a fault was judged
pub one_fine : (all before : List (List ℕ)) (here line rest : List ℕ) (found : List LineFault)
    → lines_of here ≡ line ∷ lines_of rest → Whole all (before ++ lines_of here) found
    → Whole all ((before ++ line ∷ []) ++ lines_of rest) found
one_fine all before here line rest found next whole others are =
    whole others (subst (λ ls. AreFaults ls others) (all_lines before here line rest next) are)

-- a faulty line was judged, and counts as blank
pub one_faulty : (all before : List (List ℕ)) (here line rest : List ℕ)
    (found more : List LineFault) (fault : LineFault) → lines_of here ≡ line ∷ lines_of rest
    → Whole all (before ++ lines_of here) found → more ≡ found ++ fault ∷ []
    → IsFirstFault (before ++ line ∷ lines_of rest) fault → fault.cause ≢ cause.NoMemory
    → fault.line ≡ length before + 1
    → Whole all ((before ++ [] ∷ []) ++ lines_of rest) more
one_faulty all before here line rest found more fault next whole noted first not number others
    are =
    let lines = before ++ line ∷ lines_of rest in
    let within : fault.line ≤ length lines =
    omega (arith, number, length-append before (line ∷ lines_of rest)) in
    let place : fault.line - 1 ≡ length before = omega (arith, number) in
    let blank : without fault.line lines ≡ before ++ [] ∷ lines_of rest =
    ap (λ k. set lines k []) place ∙ set-append_seam before line (lines_of rest) [] in
    let left : AreFaults (without fault.line lines) others =
    subst (λ ls. AreFaults ls others)
    (append_assoc before ([] ∷ []) (lines_of rest) ∙ sym blank) are in
    let here_too : AreFaults (before ++ lines_of here) (fault ∷ others) =
    subst (λ ls. AreFaults ls (fault ∷ others)) (ap (λ ls. before ++ ls) (sym next))
    (goes_on lines fault others first not within left) in
    subst (λ fs. AreFaults all fs) (sym (ap (λ fs. fs ++ others) noted
    ∙ append_assoc found (fault ∷ []) others)) (whole (fault ∷ others) here_too)

-- no line is left
none_left : (before : List (List ℕ)) (here : List ℕ) → lines_of here ≡ []
    → before ≡ before ++ lines_of here
none_left before here none = sym (ap (λ ls. before ++ ls) none ∙ append-nil before)

-- the lines end without a fault
pub ends_fine : (all before : List (List ℕ)) (here : List ℕ) (found : List LineFault)
    (end : Option LineFault) → lines_of here ≡ [] → Whole all (before ++ lines_of here) found
    → end ≡ None → Ends before end → AreFaults all found
ends_fine all before here found end none whole is ends =
    let write : AreFaults before [] = subst (λ e. Ends before e) is ends in
    subst (λ fs. AreFaults all fs) (append-nil found)
    (whole [] (subst (λ ls. AreFaults ls []) (none_left before here none) write))

-- they end with one behind the last line
pub ends_faulty : (all before : List (List ℕ)) (here : List ℕ) (found more : List LineFault)
    (end : Option LineFault) (fault : LineFault) → lines_of here ≡ []
    → Whole all (before ++ lines_of here) found → end ≡ Some fault → Ends before end
    → more ≡ found ++ fault ∷ [] → AreFaults all more
ends_faulty all before here found more end fault none whole is ends noted =
    let told : IsFirstFault before fault × (fault.line ≡ length before + 1)
    × (fault.cause ≢ cause.NoMemory) = subst (λ e. Ends before e) is ends in
    let last : AreFaults before (fault ∷ []) =
    goes_no_further before fault told.0 told.2 (omega (arith, told.1)) in
    subst (λ fs. AreFaults all fs) (sym noted)
    (whole (fault ∷ []) (subst (λ ls. AreFaults ls (fault ∷ [])) (none_left before here none) last))
