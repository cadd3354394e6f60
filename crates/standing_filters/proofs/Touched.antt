-- What a touch of one filter makes of it.
use Rattle.std.proofs.Common.{◌≡◌, ◌≢◌, ℕ, Bool, true, false, cond, List}
use Rattle.std.proofs.Common.{None, Some}
use Rattle.std.proofs.Common.{refl, sym, ap, ◌∙◌, subst}
use Rattle.std.specs.Prelude.{unwrap_or}
use Rattle.std.specs.BTreeMap.{is_at}
use Rattle.std.specs.Cmp.Lexicographic.{slice_cmp}
use Rattle.std.specs.Ordering.{nat_cmp}
use Rattle.agg_types.specs.declared.column.Col.{Col}
use Rattle.standing_filters.specs.Plans.{Becomes, Watching, kept_at, kept_by, view_of_watch}
use Rattle.standing_filters.specs.Verdicts.{IsVerdict, out}
use Rattle.standing_filters.specs.Watched.{IsTouched, verdict_at}
use Rattle.standing_filters.specs.declared.judging.Verdict.{Verdict}
use Rattle.place_index.proofs.Ordered.{is_itself, same_if_at}

abbrev KeyVerdicts : Type 0
KeyVerdicts = List (List ℕ × Verdict)

becomes_here : (key : List ℕ) (verdict : Verdict) (old new : KeyVerdicts) → Becomes key verdict old
    new → verdict_at new key ≡ verdict
becomes_here key verdict old new becomes = becomes key
    ∙ ap (λ b. cond b verdict (verdict_at old key)) (is_itself key)

stays_there : (key : List ℕ) (verdict : Verdict) (old new : KeyVerdicts) → Becomes key verdict old
    new → (q : List ℕ) → q ≢ key → verdict_at new q ≡ verdict_at old q
stays_there key verdict old new becomes q other = becomes q
    ∙ by (is_at (slice_cmp nat_cmp key) q) refl
  where
    by : (b : Bool) → is_at (slice_cmp nat_cmp key) q ≡ b → cond b verdict (verdict_at old q)
        ≡ verdict_at old q
    by true same = absurd (other (sym (same_if_at key q same)))
    by false apart = refl

pub touched : (summed : ℕ → List ℕ → Col → ℕ → ℕ) (living : ℕ → List ℕ → ℕ → ℕ) (table : ℕ)
    (key : List ℕ) (now : ℕ) (old new : Watching) (verdict : Verdict)
    → old.filter.table ≡ table → new.filter ≡ old.filter
    → IsVerdict summed living old.filter now key verdict → Becomes key verdict (kept_by old)
    (kept_by new)
    → IsTouched summed living table key now (view_of_watch old) (view_of_watch new)
touched summed living table key now old new verdict of same judged becomes = record {
  filter = same;
  judged = λ _. subst (λ v. IsVerdict summed living old.filter now key v)
      (sym (becomes_here key verdict (kept_by old) (kept_by new) becomes)) judged;
  others = stays_there key verdict (kept_by old) (kept_by new) becomes;
  elsewhere = λ apart. absurd (apart of);
}

-- a verdict that is kept already becomes itself
pub becomes_itself : (key : List ℕ) (verdict : Verdict) (kept : KeyVerdicts)
    → kept_at kept key ≡ Some verdict → Becomes key verdict kept kept
becomes_itself key verdict kept is q = by (is_at (slice_cmp nat_cmp key) q) refl
  where
    by : (b : Bool) → is_at (slice_cmp nat_cmp key) q ≡ b
        → verdict_at kept q ≡ cond b verdict (verdict_at kept q)
    by true same = ap (verdict_at kept) (sym (same_if_at key q same))
        ∙ ap (λ found. unwrap_or found out) is
    by false apart = refl

pub untouched : (summed : ℕ → List ℕ → Col → ℕ → ℕ) (living : ℕ → List ℕ → ℕ → ℕ) (table : ℕ)
    (key : List ℕ) (now : ℕ) (w : Watching)
    → w.filter.table ≢ table → IsTouched summed living table key now (view_of_watch w)
    (view_of_watch w)
untouched summed living table key now w apart = record {
  filter = refl;
  judged = λ of. absurd (apart of);
  others = λ q other. refl;
  elsewhere = λ _. refl;
}

-- a key on which no verdict is kept is out already
pub becomes_none : (key : List ℕ) (kept : KeyVerdicts) → kept_at kept key ≡ None
    → Becomes key out kept kept
becomes_none key kept none q = by (is_at (slice_cmp nat_cmp key) q) refl
  where
    by : (b : Bool) → is_at (slice_cmp nat_cmp key) q ≡ b
        → verdict_at kept q ≡ cond b out (verdict_at kept q)
    by true same = ap (verdict_at kept) (sym (same_if_at key q same))
        ∙ ap (λ found. unwrap_or found out) none
    by false apart = refl
