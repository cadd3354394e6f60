-- Keys that one filter forgets, one after the other.
use Rattle.std.proofs.Common.{◌≡◌, ◌==◌, ◌&&◌, ◌||◌, ℕ, Bool, true, false, cond, List, ◌∷◌}
use Rattle.std.proofs.Common.{refl, sym, ap, ◌∙◌}
use Rattle.standing_filters.specs.Plans.{Becomes, Watching, kept_by, view_of_watch}
use Rattle.standing_filters.specs.Turns.{same_key}
use Rattle.standing_filters.specs.Verdicts.{out}
use Rattle.standing_filters.specs.Watched.{IsForgotten, is_among, verdict_at}
use Rattle.standing_filters.specs.declared.judging.Verdict.{Verdict}
use Rattle.standing_filters.proofs.Walking.{key_itself, one_key}

turned : (a b : List ℕ) → same_key a b ≡ same_key b a
turned a b = by (same_key a b) (same_key b a) refl refl
  where
    by : (x y : Bool) → same_key a b ≡ x → same_key b a ≡ y → x ≡ y
    by true true e f = refl
    by false false e f = refl
    by true false e f = sym (ap (same_key b) (one_key a b e) ∙ key_itself b) ∙ f
    by false true e f = sym e ∙ ap (same_key a) (one_key b a f) ∙ key_itself a

-- the verdict on a key once these keys are forgotten
abbrev pub verdict_left : List (List ℕ) → List (List ℕ × Verdict) → List ℕ → Verdict
verdict_left keys kept key = cond (is_among keys key) out (verdict_at kept key)

either_out : (a b : Bool) (v : Verdict) → cond b out (cond a out v) ≡ cond (a || b) out v
either_out true true v = refl
either_out true false v = refl
either_out false true v = refl
either_out false false v = refl

-- once the first of them is, the others are left
pub left_less : (key : List ℕ) (rest : List (List ℕ)) (before after : List (List ℕ × Verdict))
    → Becomes key out before after → (q : List ℕ)
    → verdict_left rest after q ≡ verdict_left (key ∷ rest) before q
left_less key rest before after becomes q =
    ap (cond (is_among rest q) out) (becomes q)
    ∙ either_out (same_key key q) (is_among rest q) (verdict_at before q)
    ∙ ap (λ b. cond (b || is_among rest q) out (verdict_at before q)) (turned key q)

-- a filter of the keys' table, and one of another
pub forgotten_here : (table : ℕ) (is_gone : List ℕ → Bool) (old new : Watching)
    → (old.filter.table == table) ≡ true → new.filter ≡ old.filter
    → ((key : List ℕ) → verdict_at (kept_by new) key
    ≡ cond (is_gone key) out (verdict_at (kept_by old) key))
    → IsForgotten table is_gone (view_of_watch old) (view_of_watch new)
forgotten_here table is_gone old new of same kept = record {
  filter = same;
  kept = λ key. kept key
      ∙ sym (ap (λ b. cond (b && is_gone key) out (verdict_at (kept_by old) key)) of);
}

pub forgotten_elsewhere : (table : ℕ) (is_gone : List ℕ → Bool) (w : Watching)
    → (w.filter.table == table) ≡ false
    → IsForgotten table is_gone (view_of_watch w) (view_of_watch w)
forgotten_elsewhere table is_gone w apart = record {
  filter = refl;
  kept = λ key. sym (ap (λ b. cond (b && is_gone key) out (verdict_at (kept_by w) key)) apart);
}
