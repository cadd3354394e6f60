-- A script is cut at its line `start`.
use Rattle.std.proofs.Common.{◌≡◌, ℕ, ◌+◌, ◌<◌, Bool, true, false, cond, List, [], ◌∷◌, ◌++◌}
use Rattle.std.proofs.Common.{length, take, drop, get_or, Option, None, Some, sym, ap, subst}
use Rattle.std.proofs.Common.{◌∙◌, refl, append_assoc, append-nil, length-append, arith}
use Rattle.std.specs.List.{position, position_or_len}
use Rattle.std.proofs.lemmas.Bool.{lt-ltb, ltb-true}
use Rattle.std.proofs.Math.Dec.{ltb}
use Rattle.std.proofs.lemmas.List.Sums.{position_or_len_is}
use Rattle.std.proofs.Common.{below_more}
use Rattle.agg_config.specs.Lines.{HasRead}
use Rattle.agg_config.specs.declared.reader.Reader.{Reader}
use Rattle.agg_config.proofs.Lines.{IsLineAt, line_found}
use Rattle.line_words.specs.Reader.{left_of}
use Rattle.replay.specs.Script.{is_start, opening_of}
use Rattle.replay.specs.Start.{IsCutAt}

-- the next line has this number; those before it were read, and none of them is `start`
pub record Looked (config : Reader) (number : ℕ) (lines left : List (List ℕ)) : Type 0 where
  pub before : List (List ℕ)
  pub whole : lines ≡ before ++ left
  pub numbered : number ≡ length before + 1
  pub read : HasRead config before
  pub none : (k : ℕ) → k < length before → is_start (get_or lines k []) ≡ false

pub looked_none : (config : Reader) (lines : List (List ℕ)) → HasRead config []
    → Looked config 1 lines lines
looked_none config lines has = record {
  before = [];
  whole = refl;
  numbered = refl;
  read = has;
  none = λ k below. absurd (omega arith);
}

-- where the next line stands
front_is : (before left : List (List ℕ)) → take (length before) (before ++ left) ≡ before
front_is [] left = refl
front_is (line ∷ before) left = ap (λ ls. line ∷ ls) (front_is before left)

rest_is : (before left : List (List ℕ)) → drop (length before) (before ++ left) ≡ left
rest_is [] left = refl
rest_is (line ∷ before) left = rest_is before left

next : (lines before : List (List ℕ)) (line : List ℕ) (rest : List (List ℕ))
    → lines ≡ before ++ line ∷ rest → IsLineAt lines (length before) line rest
next lines before line rest is =
    line_found lines (length before) line rest (ap (λ ls. drop (length before) ls) is
    ∙ rest_is before (line ∷ rest))

-- another line
pub looked_more : (config after : Reader) (number : ℕ) (lines left rest : List (List ℕ))
    (line : List ℕ) → Looked config number lines left → left ≡ line ∷ rest
    → is_start line ≡ false
    → ((before : List (List ℕ)) → HasRead config before → HasRead after (before ++ line ∷ []))
    → Looked after (number + 1) lines rest
looked_more config after number lines left rest line h is other reads =
    let split : lines ≡ h.before ++ line ∷ rest = h.whole ∙ ap (λ ls. h.before ++ ls) is in
    let s = next lines h.before line rest split in
    let more : length (h.before ++ line ∷ []) ≡ length h.before + 1 =
    length-append h.before (line ∷ []) in
    record {
      before = h.before ++ line ∷ [];
      whole = split ∙ sym (append_assoc h.before (line ∷ []) rest);
      numbered = omega (arith, h.numbered, more);
      read = reads h.before h.read;
      none = subst (λ (n : ℕ). (k : ℕ) → k < n → is_start (get_or lines k []) ≡ false) (sym more)
          (below_more (λ (k : ℕ). is_start (get_or lines k []) ≡ false) (length h.before) h.none
          (ap is_start s.at ∙ other));
    }

position_is : (p : List ℕ → Bool) (xs : List (List ℕ)) (i : ℕ) → position_or_len p xs ≡ i
    → i < length xs → position p xs ≡ Some i
position_is p xs i e h = ap (λ (n : ℕ). cond (ltb n (length xs)) (Some n) None) e
    ∙ ap (λ (b : Bool). cond b (Some i) None) (lt-ltb i (length xs) h)

not_below : (n : ℕ) (b : Bool) → ltb n n ≡ b → b ≡ false
not_below n true e = let below = ltb-true n n e in absurd (omega arith)
not_below n false e = refl

position_none : (p : List ℕ → Bool) (xs : List (List ℕ)) → position_or_len p xs ≡ length xs
    → position p xs ≡ None
position_none p xs e = ap (λ (n : ℕ). cond (ltb n (length xs)) (Some n) None) e
    ∙ ap (λ (b : Bool). cond b (Some (length xs)) None) (not_below (length xs) _ refl)

-- a line `start`
pub cut_at : (config : Reader) (number : ℕ) (lines left rest : List (List ℕ))
    (line : List ℕ) (opening : Option ℕ) → Looked config number lines left → left ≡ line ∷ rest
    → is_start line ≡ true → opening ≡ opening_of (left_of line)
    → IsCutAt lines (position is_start lines) rest
    (record { config = config; number = number; opening = opening })
cut_at config number lines left rest line opening h is starts says =
    let split : lines ≡ h.before ++ line ∷ rest = h.whole ∙ ap (λ ls. h.before ++ ls) is in
    let s = next lines h.before line rest split in
    let first : position_or_len is_start lines ≡ length h.before =
    position_or_len_is is_start lines (length h.before) [] (omega (arith, s.inside)) h.none
    (λ inside. ap is_start s.at ∙ starts) in
    let front : take (length h.before) lines ≡ h.before =
    ap (λ ls. take (length h.before) ls) split ∙ front_is h.before (line ∷ rest) in
    subst (λ (o : Option ℕ). IsCutAt lines o rest
    (record { config = config; number = number; opening = opening }))
    (sym (position_is is_start lines (length h.before) first s.inside))
    (record {
      before = subst (λ (ls : List (List ℕ)). HasRead config ls) (sym front) h.read;
      number = h.numbered;
      opening = says ∙ ap (λ (l : List ℕ). opening_of (left_of l)) (sym s.at);
      behind = sym s.behind;
    })

-- a script without the line
pub cut_nowhere : (config : Reader) (number : ℕ) (lines left rest : List (List ℕ))
    → Looked config number lines left → left ≡ []
    → IsCutAt lines (position is_start lines) rest
    (record { config = config; number = number; opening = None })
cut_nowhere config number lines left rest h none =
    let all : lines ≡ h.before = h.whole ∙ (ap (λ ls. h.before ++ ls) none
    ∙ append-nil h.before) in
    let many = ap length all in
    let first : position_or_len is_start lines ≡ length lines =
    position_or_len_is is_start lines (length lines) [] (omega arith)
    (λ k inside. h.none k (omega (arith, inside, many))) (λ inside. absurd (omega arith)) in
    subst (λ (o : Option ℕ). IsCutAt lines o rest
    (record { config = config; number = number; opening = None }))
    (sym (position_none is_start lines first))
    (h.numbered ∙ ap (λ n. n + 1) (sym many), refl)
