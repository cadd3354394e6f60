-- Reading up to four conditions one after the other, as the loop does.
use Rattle.std.proofs.Common.{◌≡◌, ℕ, suc, eqb, true, false, ◌+◌, ◌-◌, ◌<◌, ◌≤◌, List, [], ◌∷◌}
use Rattle.std.proofs.Common.{◌++◌, length, Ok, Err, refl, sym, ap, ◌∙◌, append_assoc, arith}
use Rattle.std.proofs.lemmas.List.{append-nil}
use Rattle.agg_types.specs.declared.column.Col.{Col}
use Rattle.agg_types.specs.declared.config.Cond.{Cond}
use Rattle.line_words.specs.Reader.{◌>>=◌, Left}
use Rattle.show_clear.specs.Parse.{cond_of, conds_of, no_more_at}
use Rattle.show_clear.specs.Refused.{Reading}
use Rattle.show_clear.specs.declared.refused.Refused.{Refused}

-- conditions that are read, behind others
abbrev pub onto : List Cond → Reading (List Cond) → Reading (List Cond)
onto front (Ok back) = Ok (front ++ back)
onto front (Err refused) = Err refused

-- one condition more
onto_push : (front : List Cond) (cond : Cond) (rest : Reading (List Cond))
    → onto (front ++ cond ∷ []) rest ≡ onto front (rest >>= λ conds. Ok (cond ∷ conds))
onto_push front cond (Ok conds) = ap Ok (append_assoc front (cond ∷ []) conds)
onto_push front cond (Err refused) = refl

-- conditions behind none
pub onto_nil : (rest : Reading (List Cond)) → onto [] rest ≡ rest
onto_nil (Ok conds) = refl
onto_nil (Err refused) = refl

one_fewer : (read : ℕ) → read < 4 → 4 - read ≡ suc (4 - (read + 1))
one_fewer read h = omega arith

step : (cols : List (Col × ℕ)) (front : List Cond) (most : ℕ) (words rest : Left) (cond : Cond)
    → eqb (length words.words) 0 ≡ false → cond_of cols words ≡ Ok (cond, rest)
    → onto (front ++ cond ∷ []) (conds_of cols most rest)
    ≡ onto front (conds_of cols (suc most) words)
unfolding conds_of
step cols front most words rest cond some e = onto_push front cond (conds_of cols most rest)
    ∙ rw (some, e) refl

-- one condition is read, and there may be one less
pub goes_on : (cols : List (Col × ℕ)) (front : List Cond) (read : ℕ) (words rest : Left)
    (cond : Cond) (whole : Reading (List Cond)) → read < 4 → eqb (length words.words) 0 ≡ false
    → cond_of cols words ≡ Ok (cond, rest) → onto front (conds_of cols (4 - read) words) ≡ whole
    → onto (front ++ cond ∷ []) (conds_of cols (4 - (read + 1)) rest) ≡ whole
goes_on cols front read words rest cond whole h some e kept =
    step cols front (4 - (read + 1)) words rest cond some e
    ∙ ap (λ n. onto front (conds_of cols n words)) (sym (one_fewer read h)) ∙ kept

stops : (cols : List (Col × ℕ)) (front : List Cond) (most : ℕ) (words : Left) (refused : Refused)
    → eqb (length words.words) 0 ≡ false → cond_of cols words ≡ Err refused
    → onto front (conds_of cols (suc most) words) ≡ Err refused
unfolding conds_of
stops cols front most words refused some e = rw (some, e) refl

-- a condition is at fault
pub ends : (cols : List (Col × ℕ)) (front : List Cond) (read : ℕ) (words : Left)
    (refused : Refused) (whole : Reading (List Cond)) → read < 4
    → eqb (length words.words) 0 ≡ false → cond_of cols words ≡ Err refused
    → onto front (conds_of cols (4 - read) words) ≡ whole → whole ≡ Err refused
ends cols front read words refused whole h some e kept = sym kept
    ∙ rw (one_fewer read h) (stops cols front (4 - (read + 1)) words refused some e)

-- none is left before the fourth
pub done : (cols : List (Col × ℕ)) (front : List Cond) (read : ℕ) (words : Left)
    (whole : Reading (List Cond)) → read < 4 → eqb (length words.words) 0 ≡ true
    → onto front (conds_of cols (4 - read) words) ≡ whole → whole ≡ Ok front
unfolding conds_of
done cols front read words whole h none kept = sym kept
    ∙ rw (one_fewer read h, none) (ap Ok (append-nil front))

-- a word follows the fourth
pub full : (cols : List (Col × ℕ)) (front : List Cond) (read : ℕ) (words : Left)
    (refused : Refused) (whole : Reading (List Cond)) → 4 ≤ read
    → no_more_at words.number words.words ≡ Err refused
    → onto front (conds_of cols (4 - read) words) ≡ whole → whole ≡ Err refused
unfolding conds_of
full cols front read words refused whole h e kept = let none : 4 - read ≡ 0 = omega arith in
    sym kept ∙ rw (none, e) refl

-- four, and none follows
pub ended : (cols : List (Col × ℕ)) (front : List Cond) (read : ℕ) (words : Left)
    (whole : Reading (List Cond)) → 4 ≤ read → no_more_at words.number words.words ≡ Ok []
    → onto front (conds_of cols (4 - read) words) ≡ whole → whole ≡ Ok front
unfolding conds_of
ended cols front read words whole h e kept = let none : 4 - read ≡ 0 = omega arith in
    sym kept ∙ rw (none, e) (ap Ok (append-nil front))

pub ruleset cond_lemmas = (onto_nil, goes_on, ends, done, full, ended)
