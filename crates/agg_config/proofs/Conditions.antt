-- Reading up to four conditions one after the other, as the loop does.
use Rattle.std.proofs.Common.{◌≡◌, ℕ, suc, eqb, true, false, ◌+◌, ◌-◌, ◌<◌, ◌≤◌, List, [], ◌∷◌}
use Rattle.std.proofs.Common.{◌++◌, length, Result, Ok, Err, refl, sym, ap, ◌∙◌, arith}
use Rattle.std.proofs.lemmas.List.{append-nil}
use Rattle.agg_types.specs.declared.column.Col.{Col}
use Rattle.agg_types.specs.declared.config.Op.{Op}
use Rattle.line_words.specs.Reader.{Left, end}
use Rattle.line_words.specs.declared.misread.Misread.{Misread}
use Rattle.agg_config.specs.Filters.{condition, conditions}
use Rattle.agg_config.proofs.Each.{with_front, one_more}

one_fewer : (read : ℕ) → read < 4 → 4 - read ≡ suc (4 - (read + 1))
one_fewer read h = omega arith

step : (front : List (Col × Op × Result ℕ Misread)) (most : ℕ) (words rest : Left)
    (cond : Col × Op × Result ℕ Misread) → eqb (length words.words) 0 ≡ false
    → condition words ≡ Ok (cond, rest) → with_front (front ++ cond ∷ []) (conditions most rest)
    ≡ with_front front (conditions (suc most) words)
unfolding conditions
step front most words rest cond some e = one_more front cond (conditions most rest)
    ∙ rw (some, e) refl

pub goes_on : (front : List (Col × Op × Result ℕ Misread)) (read : ℕ) (words rest : Left)
    (cond : Col × Op × Result ℕ Misread) (whole : Result (List (Col × Op × Result ℕ Misread))
    Misread) → read < 4 → eqb (length words.words) 0 ≡ false → condition words ≡ Ok (cond, rest)
    → with_front front (conditions (4 - read) words) ≡ whole
    → with_front (front ++ cond ∷ []) (conditions (4 - (read + 1)) rest) ≡ whole
goes_on front read words rest cond whole h some e kept =
    step front (4 - (read + 1)) words rest cond some e
    ∙ ap (λ n. with_front front (conditions n words)) (sym (one_fewer read h)) ∙ kept

stops : (front : List (Col × Op × Result ℕ Misread)) (most : ℕ) (words : Left) (fault : Misread)
    → eqb (length words.words) 0 ≡ false → condition words ≡ Err fault
    → with_front front (conditions (suc most) words) ≡ Err fault
unfolding conditions
stops front most words fault some e = rw (some, e) refl

pub ends : (front : List (Col × Op × Result ℕ Misread)) (read : ℕ) (words : Left) (fault : Misread)
    (whole : Result (List (Col × Op × Result ℕ Misread)) Misread) → read < 4
    → eqb (length words.words) 0 ≡ false → condition words ≡ Err fault
    → with_front front (conditions (4 - read) words) ≡ whole → whole ≡ Err fault
ends front read words fault whole h some e kept = sym kept
    ∙ rw (one_fewer read h) (stops front (4 - (read + 1)) words fault some e)

-- none is left before the fourth
pub done : (front : List (Col × Op × Result ℕ Misread)) (read : ℕ) (words : Left)
    (whole : Result (List (Col × Op × Result ℕ Misread)) Misread) → read < 4
    → eqb (length words.words) 0 ≡ true → with_front front (conditions (4 - read) words) ≡ whole
    → whole ≡ Ok front
unfolding conditions
done front read words whole h none kept = sym kept
    ∙ rw (one_fewer read h, none) (ap Ok (append-nil front))

-- none may follow the fourth
pub full : (front : List (Col × Op × Result ℕ Misread)) (read : ℕ) (words : Left) (fault : Misread)
    (whole : Result (List (Col × Op × Result ℕ Misread)) Misread) → 4 ≤ read
    → end words ≡ Err fault → with_front front (conditions (4 - read) words) ≡ whole
    → whole ≡ Err fault
unfolding conditions
full front read words fault whole h e kept = let none : 4 - read ≡ 0 = omega arith in
    sym kept ∙ rw (none, e) refl

-- four, and none follows
pub ended : (front : List (Col × Op × Result ℕ Misread)) (read : ℕ) (words : Left)
    (behind : Unit {0} × Left) (whole : Result (List (Col × Op × Result ℕ Misread)) Misread)
    → 4 ≤ read → end words ≡ Ok behind → with_front front (conditions (4 - read) words) ≡ whole
    → whole ≡ Ok front
unfolding conditions
ended front read words behind whole h e kept = let none : 4 - read ≡ 0 = omega arith in
    sym kept ∙ rw (none, e) (ap Ok (append-nil front))
