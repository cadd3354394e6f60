-- The laws of kept verdicts.
use Rattle.std.proofs.Common.{◌≡◌, ℕ, ◌+◌, ◌<◌, ◌≤◌, ◌==◌, Bool, true, false, ◌&&◌, ◌||◌, nat_lt}
use Rattle.std.proofs.Common.{List, Option, cond}
use Rattle.std.proofs.Common.{None, Some, refl, sym, ap, ◌∙◌, subst, arith, inl, inr, ⊎_elim}
use Rattle.std.specs.Prelude.{◌≢◌, ◌⊎◌}
use Rattle.std.proofs.lemmas.Bool.{cases_Bool, cases_eq, cases_lt, eqb-true, false≢true}
use Rattle.std.proofs.lemmas.Bool.{true≢false}
use Rattle.std.proofs.lemmas.Cmp.{nat_list_cmp_total, tied_itself}
use Rattle.std.specs.BTreeMap.{is_at}
use Rattle.std.specs.Cmp.Lexicographic.{slice_cmp}
use Rattle.std.specs.List.{list_all}
use Rattle.std.specs.Ordering.{is_eq, nat_cmp}
use Rattle.agg_types.specs.Op.{op_holds}
use Rattle.agg_types.specs.declared.column.Col.{Col}
use Rattle.agg_types.specs.declared.config.Filter.{Filter}
use Rattle.crossing.specs.First.{IsFirstAt, IsFirstFrom}
use Rattle.standing_filters.specs.Laws.{AddingBegins, AddingGoesOn, FirstChangeIsTheSets}
use Rattle.standing_filters.specs.Laws.{ForgettingKeepsVerdicts, MomentKeepsVerdicts}
use Rattle.standing_filters.specs.Laws.{TouchKeepsVerdicts}
use Rattle.standing_filters.specs.Turns.{has_come, is_due, same_key}
use Rattle.standing_filters.specs.Verdicts.{Foretells, IsVerdict, holds_at, out}
use Rattle.standing_filters.specs.Watched.{is_among, verdict_at}
use Rattle.standing_filters.specs.declared.judging.Verdict.{Verdict}
use Rattle.standing_filters.proofs.Told.{dead_never, never_lives, told_same}
use Rattle.standing_filters.proofs.Walking.{key_itself, not_come, one_key}

quiet : (truth : ℕ → Bool) (now : ℕ) (v : Verdict) → Foretells truth now v → v.next ≡ None
    → IsFirstFrom (now + 1) (λ t. truth t ≢ truth now) None
quiet truth now v told none = subst (λ o. IsFirstFrom (now + 1) (λ t. truth t ≢ truth now) o)
    none told.next

early : (truth : ℕ → Bool) (now u : ℕ) (v : Verdict) → Foretells truth now v → v.next ≡ Some u
    → IsFirstAt (now + 1) (λ t. truth t ≢ truth now) u
early truth now u v told some = subst (λ o. IsFirstFrom (now + 1) (λ t. truth t ≢ truth now) o)
    some told.next

pub first_change_is_the_sets : FirstChangeIsTheSets
first_change_is_the_sets summed living now w None verdicts first =
    λ t since changed. quiet (λ t. holds_at summed living w.filter changed.0 t) now
    (verdict_at w.kept changed.0) (verdicts changed.0) (first changed.0) t since changed.1
first_change_is_the_sets summed living now w (Some t) verdicts first =
    let key = first.0.0 in
    let at = early (λ t. holds_at summed living w.filter key t) now t (verdict_at w.kept key)
    (verdicts key) first.0.1 in
    record {
      since = at.since;
      holds = (key, at.holds);
      not_before = λ s since before changed. not_yet changed.0 s since before changed.1
          (verdict_at w.kept changed.0).next refl;
    }
  where
    not_yet : (key : List ℕ) (s : ℕ) → now + 1 ≤ s → s < t
        → holds_at summed living w.filter key s ≢ holds_at summed living w.filter key now
        → (o : Option ℕ) → (verdict_at w.kept key).next ≡ o → ⊥
    not_yet key s since before differs None is = quiet (λ t. holds_at summed living w.filter key t)
        now (verdict_at w.kept key) (verdicts key) is s since differs
    not_yet key s since before differs (Some u) is =
        let later : t ≤ u = first.1 key u is in
        let sooner : s < u = omega arith in
        (early (λ t. holds_at summed living w.filter key t) now u (verdict_at w.kept key)
        (verdicts key) is).not_before s since sooner differs

same_truth : (summed sums : Col → ℕ → ℕ) (living lives : ℕ → ℕ) (filter : Filter) (t : ℕ)
    → sums ≡ summed → lives ≡ living
    → (nat_lt 0 (lives t) && list_all (λ cond. op_holds cond.op (sums cond.col t) cond.bound)
    filter.conds) ≡ (nat_lt 0 (living t)
    && list_all (λ cond. op_holds cond.op (summed cond.col t) cond.bound) filter.conds)
same_truth summed sums living lives filter t same alive =
    ap (λ (l : ℕ → ℕ). nat_lt 0 (l t)
    && list_all (λ cond. op_holds cond.op (sums cond.col t) cond.bound) filter.conds) alive
    ∙ ap (λ (s : Col → ℕ → ℕ). nat_lt 0 (living t)
    && list_all (λ cond. op_holds cond.op (s cond.col t) cond.bound) filter.conds) same

pub touch_keeps_verdicts : TouchKeepsVerdicts
touch_keeps_verdicts before after living lives table key now old new same verdicts touch q =
    subst (λ f. IsVerdict after lives f now q (verdict_at new.kept q)) (sym touch.filter)
    (⊎_elim here there (cases_eq old.filter.table table))
  where
    -- a key whose values and verdict are what they were
    kept : (old.filter.table ≢ table) ⊎ (q ≢ key) → verdict_at new.kept q ≡ verdict_at old.kept q
        → IsVerdict after lives old.filter now q (verdict_at new.kept q)
    kept other stays =
        let values = same old.filter.table q other in
        subst (λ v. IsVerdict after lives old.filter now q v) (sym stays)
        (told_same (λ t. holds_at before living old.filter q t)
        (λ t. holds_at after lives old.filter q t) now (verdict_at old.kept q)
        (λ t. same_truth (before old.filter.table q) (after old.filter.table q)
        (living old.filter.table q) (lives old.filter.table q) old.filter t values.0 values.1)
        (verdicts q))

    there : old.filter.table ≢ table
        → IsVerdict after lives old.filter now q (verdict_at new.kept q)
    there apart = kept (inl apart) (ap (λ k. verdict_at k q) (touch.elsewhere apart))

    by : old.filter.table ≡ table → (b : Bool) → is_at (slice_cmp nat_cmp key) q ≡ b
        → IsVerdict after lives old.filter now q (verdict_at new.kept q)
    by of true is = subst (λ k. IsVerdict after lives old.filter now k (verdict_at new.kept k))
        (one_key key q is) (touch.judged of)
    by of false is =
        let other : q ≢ key = λ e. false≢true (sym is ∙ ap (λ k. is_at (slice_cmp nat_cmp key) k) e
        ∙ ap is_eq (tied_itself nat_list_cmp_total key)) in
        kept (inr other) (touch.others q other)

    here : old.filter.table ≡ table → IsVerdict after lives old.filter now q (verdict_at new.kept q)
    here of = by of (is_at (slice_cmp nat_cmp key) q) refl

-- ---- keys are gone
pub forgetting_keeps_verdicts : ForgettingKeepsVerdicts
forgetting_keeps_verdicts before after living lives table is_gone now old new same none verdicts
    forgot q =
    subst (λ f. IsVerdict after lives f now q (verdict_at new.kept q)) (sym forgot.filter)
    (by (old.filter.table == table) (is_gone q) refl refl)
  where
    kept : ((old.filter.table == table) && is_gone q) ≡ false
        → IsVerdict after lives old.filter now q (verdict_at new.kept q)
    kept stays =
        let values = same old.filter.table q stays in
        subst (λ v. IsVerdict after lives old.filter now q v)
        (sym (forgot.kept q ∙ ap (λ b. cond b out (verdict_at old.kept q)) stays))
        (told_same (λ t. holds_at before living old.filter q t)
        (λ t. holds_at after lives old.filter q t) now (verdict_at old.kept q)
        (λ t. same_truth (before old.filter.table q) (after old.filter.table q)
        (living old.filter.table q) (lives old.filter.table q) old.filter t values.0 values.1)
        (verdicts q))

    by : (b c : Bool) → (old.filter.table == table) ≡ b → is_gone q ≡ c
        → IsVerdict after lives old.filter now q (verdict_at new.kept q)
    by true true of gone =
        subst (λ v. IsVerdict after lives old.filter now q v)
        (sym (forgot.kept q ∙ (λ i. cond (of i && gone i) out (verdict_at old.kept q))))
        (never_lives (lives old.filter.table q)
        (λ t. list_all (λ cond. op_holds cond.op (after old.filter.table q cond.col t) cond.bound)
        old.filter.conds) now
        (λ t. ap (λ n. lives n q t) (eqb-true old.filter.table table of) ∙ none q t gone))
    by true false of gone = kept (λ i. of i && gone i)
    by false c of gone = kept (ap (λ b. b && is_gone q) of)

-- ---- the clock goes on

apart : (a b : Bool) → (a ≡ b) ⊎ (a ≢ b)
apart true true = inl refl
apart true false = inr true≢false
apart false true = inr false≢true
apart false false = inl refl

-- a truth that stays up to t is told at t as it was
told_later : (truth : ℕ → Bool) (now t : ℕ) (v : Verdict) → now ≤ t → is_due t v ≡ false
    → Foretells truth now v → Foretells truth t v
told_later truth now t v since quiet told = by v.next refl told.next
  where
    still : ((s : ℕ) → now + 1 ≤ s → s ≤ t → truth s ≢ truth now → ⊥) → truth t ≡ truth now
    still never = ⊎_elim (λ same. same) (λ differs. ⊎_elim
        (λ later. let from : now + 1 ≤ t = omega arith in let upto : t ≤ t = omega arith in
        absurd (never t from upto differs))
        (λ before. let same : t ≡ now = omega arith in ap truth same) (cases_lt now t))
        (apart (truth t) (truth now))

    by : (o : Option ℕ) → v.next ≡ o → IsFirstFrom (now + 1) (λ s. truth s ≢ truth now) o
        → Foretells truth t v
    by None is first =
        let same = still (λ s from upto differs. first s from differs) in
        record {
          holds = told.holds ∙ sym same;
          next = subst (λ o. IsFirstFrom (t + 1) (λ s. truth s ≢ truth t) o) (sym is)
              (λ s after differs.
              let from : now + 1 ≤ s = omega arith in first s from (λ is. differs (is ∙ sym same)));
        }
    by (Some u) is first =
        let beyond : t < u = not_come t u (sym (ap (has_come t) is) ∙ quiet) in
        let same = still (λ s from upto differs. let before : s < u = omega arith in
        first.not_before s from before differs) in
        record {
          holds = told.holds ∙ sym same;
          next = subst (λ o. IsFirstFrom (t + 1) (λ s. truth s ≢ truth t) o) (sym is) (record {
            since = omega arith;
            holds = λ is. first.holds (is ∙ same);
            not_before = λ s after before differs. let from : now + 1 ≤ s = omega arith in
                first.not_before s from before (λ is. differs (is ∙ sym same));
          });
        }

-- ---- values that are the same from now on

told_ahead : (truth other : ℕ → Bool) (now : ℕ) (v : Verdict)
    → ((t : ℕ) → now ≤ t → other t ≡ truth t) → Foretells truth now v → Foretells other now v
told_ahead truth other now v same told = by v.next refl told.next
  where
    here : other now ≡ truth now
    here = same now (omega arith)

    later : (s : ℕ) → now + 1 ≤ s → other s ≡ truth s
    later s since = same s (omega arith)

    by : (o : Option ℕ) → v.next ≡ o → IsFirstFrom (now + 1) (λ s. truth s ≢ truth now) o
        → Foretells other now v
    by None is first = record {
      holds = told.holds ∙ sym here;
      next = subst (λ o. IsFirstFrom (now + 1) (λ s. other s ≢ other now) o) (sym is)
          (λ s since differs. first s since (λ is. differs (later s since ∙ is ∙ sym here)));
    }
    by (Some u) is first = record {
      holds = told.holds ∙ sym here;
      next = subst (λ o. IsFirstFrom (now + 1) (λ s. other s ≢ other now) o) (sym is) (record {
        since = first.since;
        holds = λ is. first.holds (sym (later u first.since) ∙ is ∙ here);
        not_before = λ s since before differs. first.not_before s since before
            (λ is. differs (later s since ∙ is ∙ sym here));
      });
    }

pub moment_keeps_verdicts : MomentKeepsVerdicts
moment_keeps_verdicts before after living lives now t old new since same verdicts turn key =
    subst (λ f. IsVerdict after lives f t key (verdict_at new.kept key)) (sym turn.filter) (⊎_elim
    (λ comes. turn.judged key comes)
    (λ stays. subst (λ v. IsVerdict after lives old.filter t key v) (sym (turn.others key stays))
    (told_ahead (λ s. holds_at before living old.filter key s)
    (λ s. holds_at after lives old.filter key s) t (verdict_at old.kept key) (same key)
    (told_later (λ s. holds_at before living old.filter key s) now t (verdict_at old.kept key) since
    stays (verdicts key))))
    (cases_Bool (is_due t (verdict_at old.kept key))))

-- ---- an added filter

none_told : (truth : ℕ → Bool) (now : ℕ) → ((t : ℕ) → now ≤ t → truth t ≡ false)
    → Foretells truth now out
none_told truth now never = record {
  holds = sym (never now (omega arith));
  next = λ s since differs. let from : now ≤ s = omega arith in let same : now ≤ now =
      omega arith in differs (never s from ∙ sym (never now same));
}

pub adding_begins : AddingBegins
adding_begins summed living now filter keys falls dead = record {
  judged = λ key apart. none_told (λ t. holds_at summed living filter key t) now
      (λ t later. dead_never (living filter.table key)
      (λ t. list_all (λ cond. op_holds cond.op (summed filter.table key cond.col t) cond.bound)
      filter.conds) now t (dead key apart) (falls key t later));
  unjudged = λ key among. refl;
}

pub adding_goes_on : AddingGoesOn
adding_goes_on summed living now key ahead old new once but touched = record {
  judged = λ q apart. by q apart (same_key q key) refl;
  unjudged = λ q among. touched.others q (λ is. false≢true (sym (ap (is_among ahead) is ∙ once)
      ∙ among)) ∙ but.unjudged q (or_right (same_key q key) (is_among ahead q) among);
}
  where
    or_right : (a b : Bool) → b ≡ true → (a || b) ≡ true
    or_right true b is = refl
    or_right false b is = is

    by : (q : List ℕ) → is_among ahead q ≡ false → (b : Bool) → same_key q key ≡ b
        → IsVerdict summed living new.filter now q (verdict_at new.kept q)
    by q apart true same = subst (λ k. IsVerdict summed living new.filter now k
        (verdict_at new.kept k)) (sym (one_key q key same))
        (subst (λ f. IsVerdict summed living f now key (verdict_at new.kept key))
        (sym touched.filter) (touched.judged refl))
    by q apart false differs =
        let other : q ≢ key = λ is. false≢true (sym differs ∙ ap (λ k. same_key k key) is
        ∙ key_itself key) in
        subst (λ f. IsVerdict summed living f now q (verdict_at new.kept q)) (sym touched.filter)
        (subst (λ v. IsVerdict summed living old.filter now q v) (sym (touched.others q other))
        (but.judged q (ap (λ b. b || is_among ahead q) differs ∙ apart)))
