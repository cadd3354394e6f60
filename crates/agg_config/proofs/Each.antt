-- Reading a list one after the other, as a loop does.
use Rattle.std.proofs.Common.{◌≡◌, List, [], ◌∷◌, ◌++◌, Result, Ok, Err, refl, sym, ap, ◌∙◌}
use Rattle.std.proofs.Common.{append_assoc}
use Rattle.std.proofs.lemmas.List.{append-nil}
use Rattle.line_words.specs.Reader.{◌>>=◌}
use Rattle.line_words.specs.declared.misread.Misread.{Misread}
use Rattle.agg_config.specs.ReadResults.{read_each}

-- what was read before stands in front of what is read
abbrev pub with_front : {B : Type 0} → List B → Result (List B) Misread → Result (List B) Misread
with_front front (Ok rest) = Ok (front ++ rest)
with_front front (Err fault) = Err fault

-- one more is read: it stands in front
pub one_more : {B : Type 0} (front : List B) (x : B) (rest : Result (List B) Misread)
    → with_front (front ++ x ∷ []) rest ≡ with_front front (rest >>= λ others. Ok (x ∷ others))
one_more front x (Ok rest) = ap Ok (append_assoc front (x ∷ []) rest)
one_more front x (Err fault) = refl

-- what is read of the rest, once the first is
pub each-goes_on : {A B : Type 0} (read : A → Result B Misread) (front : List B) (a : A)
    (more : List A) (x : B) (whole : Result (List B) Misread) → read a ≡ Ok x
    → with_front front (read_each read (a ∷ more)) ≡ whole
    → with_front (front ++ x ∷ []) (read_each read more) ≡ whole
each-goes_on read front a more x whole e kept =
    one_more front x (read_each read more) ∙ (rw (← kept, e) refl)

-- the first that isn't read ends it
pub each-ends : {A B : Type 0} (read : A → Result B Misread) (front : List B) (a : A)
    (more : List A) (fault : Misread) (whole : Result (List B) Misread) → read a ≡ Err fault
    → with_front front (read_each read (a ∷ more)) ≡ whole → whole ≡ Err fault
each-ends read front a more fault whole fails kept = rw (← kept, fails) refl

-- the last is read
pub each-done : {A B : Type 0} (read : A → Result B Misread) (front : List B)
    (whole : Result (List B) Misread) → with_front front (read_each read []) ≡ whole
    → whole ≡ Ok front
each-done read front whole kept = sym kept ∙ ap Ok (append-nil front)
