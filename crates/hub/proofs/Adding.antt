-- The exchange that adds what happened keeps the rule.
use Rattle.std.proofs.Common.{◌≡◌, ◌≢◌, ℕ, ◌+◌, ◌<◌, ◌≤◌, ◌==◌, MatchBool, Bool, true, false, List}
use Rattle.std.proofs.Common.{[], ◌∷◌, ◌++◌, length, refl, ap, sym, subst, arith, inl, ◌∙◌}
use Rattle.std.proofs.Common.{length-append, None, append-nil}
use Rattle.std.proofs.lemmas.Bool.Decides.{nat_tests}
use mathlib.Core.List.{IsPrefix}
use prog.Atomic.{either}
use Rattle.logbook.specs.Pages.{Book, Cell, cell, keeps, no_nib, step, Moves, Goes}
use Rattle.agg_types.specs.declared.event.Event.{Event}
use Rattle.fleet_model.specs.State.{state_of}
use Rattle.hub.specs.declared.entry.Entry.{Entry}
use Rattle.hub.specs.declared.entry.Entry.TheVariants.{Happened}
use Rattle.hub.specs.History.{Beginning, IsLonger, all_count}
use Rattle.hub.specs.Law.{Adds, IsHistory, IsKept, begun, events_of}
use Rattle.hub.proofs.Fronts.{prefix_length, prefix_self, prefix_whole}
use Rattle.hub.proofs.Histories.{begins, events-prefix, events_of-append, history-more, state_begun}

abbrev pub shown : List Entry → List Entry
shown log = []

abbrev pub moved : List Entry → List Entry → ℕ → Type 0
moved xs ys n = Unit {0}

events-more : (log : List Entry) (es : List Event)
    → events_of (log ++ Happened es ∷ []) ≡ events_of log ++ es
events-more log es =
    events_of-append log (Happened es ∷ []) ∙ ap (λ fs. events_of log ++ fs) (append-nil es)

length-more : (log : List Entry) (es : List Event)
    → length (events_of (log ++ Happened es ∷ [])) ≡ length (events_of log) + length es
length-more log es = ap length (events-more log es) ∙ length-append (events_of log) es

-- a log with as many events as what was seen of it has the same ones
same_events : (v log : List Entry) → IsPrefix v log
    → length (events_of log) ≡ length (events_of v) → events_of v ≡ events_of log
same_events v log pre len =
    prefix_whole (events_of v) (events_of log) (events-prefix v log pre) (omega arith)

-- and so it is the same beginning
same_begun : (of : Book) (v log : List Entry) → IsHistory v → IsHistory log → IsPrefix v log
    → length (events_of log) ≡ length (events_of v) → begun of v ≡ begun of log
same_begun of v log h k pre len =
    let both = begins of of v log log h k pre (prefix_self log) (omega arith) in
    let same = same_events v log pre len in
    λ i. record {
      of = of;
      config = (sym both.config) i;
      opening = (sym both.opening) i;
      events = same i;
    }

pub adds_goes : (of : Book) (log v : List Entry) (es : List Event) (old : ℕ)
    → length (events_of v) ≡ old
    → IsHistory v → all_count (state_begun of v) es ≡ true → IsHistory log
    → IsPrefix v log
    → (b : Bool) → (length (events_of log) == old) ≡ b
    → Goes IsKept shown moved 0 (v, (no_nib, None))
    (λ n. either (n == old) (old + length es) n)
    (Adds (step 0 old (old + length es) (Happened es)) (v, (no_nib, None)))
    ((length (events_of log), true) ∷ []) log
adds_goes of log v es old len h may k pre true is =
    let here : length (events_of log) ≡ old = grind (arith, nat_tests) in
    let long : length (events_of log) ≡ length (events_of v) = here ∙ sym len in
    let may' : all_count (state_begun of log) es ≡ true =
    subst (λ (b : Beginning). all_count (state_of b.config b.opening b.events) es ≡ true)
    (same_begun of v log h k pre long) may in
    let more : IsHistory (log ++ Happened es ∷ []) = history-more of log es k may' in
    let n : either (length (events_of log) == old) (old + length es) (length (events_of log))
    ≡ length (events_of (log ++ Happened es ∷ [])) =
    rw is (omega (arith, length-more log es)) in
    let told : events_of (log ++ Happened es ∷ []) ≡ events_of v ++ events_of (Happened es ∷ []) =
    events_of-append log (Happened es ∷ [])
    ∙ ap (λ fs. fs ++ events_of (Happened es ∷ [])) (sym (same_events v log pre long)) in (
      keeps,
      Happened es ∷ [],
      None,
      tt,
      record { words = ap (λ (k : ℕ). (k, true) ∷ []) n; history = more },
      inl (refl, refl),
      rw is (told, more),
    )
adds_goes of log v es old len h may k pre false is =
    let all : log ++ [] ≡ log = append-nil log in
    let k' : IsHistory (log ++ []) = subst IsHistory (sym all) k in
    let n : either (length (events_of log) == old) (old + length es) (length (events_of log))
    ≡ length (events_of (log ++ [])) = rw is (ap (λ l. length (events_of l)) (sym all)) in (
      keeps,
      [],
      None,
      tt,
      record { words = ap (λ (k : ℕ). (k, true) ∷ []) n; history = k' },
      inl (refl, refl),
      rw is (ap (λ l. length (events_of l)) all, k'),
    )

-- whatever the log is, the exchange adds the events to all that was seen, or finds that the history
-- is longer
pub adds_moves : (of : Book) (v : List Entry) (es : List Event) (old : ℕ)
    → length (events_of v) ≡ old
    → IsHistory v → all_count (state_begun of v) es ≡ true
    → Moves IsKept shown moved 0 (v, (no_nib, None))
    (λ n. either (n == old) (old + length es) n)
    (Adds (step 0 old (old + length es) (Happened es)) (v, (no_nib, None)))
adds_moves of v es old len h may cs log kept pre away =
    let P : List Cell → Type 0 = λ c. (0 < length c) × ((cell c 0).1 ≡ true)
    × Goes IsKept shown moved 0 (v, (no_nib, None)) (λ n. either (n == old) (old + length es) n)
    (Adds (step 0 old (old + length es) (Happened es)) (v, (no_nib, None))) c log in
    subst P (sym kept.words) (
      omega arith,
      refl,
      adds_goes of log v es old len h may kept.history pre
          (length (events_of log) == old) refl,
    )

-- what an exchange told
abbrev pub ToldOf : List Entry → List Event → ℕ → List Entry → Bool → Type 0
ToldOf v es found w b =
    MatchBool b ((events_of w ≡ events_of v ++ events_of (Happened es ∷ [])) × IsHistory w)
    ((length (events_of w) ≡ found) × IsHistory w)

pub added : (of of' : Book) (v w : List Entry) (es : List Event) (found old : ℕ) → IsHistory v
    → length (events_of v) ≡ old → IsPrefix v w
    → (b : Bool) → (found == old) ≡ b → ToldOf v es found w b
    → MatchBool b ((begun of' w).events ≡ (begun of v).events ++ es)
    (IsLonger (begun of v).events (begun of' w).events)
added of of' v w es found old h len pre true is told =
    told.0 ∙ ap (λ fs. events_of v ++ fs) (append-nil es)
added of of' v w es found old h len pre false is told =
    let ne : found ≢ old = grind (arith, nat_tests) in
    let seen = events-prefix v w pre in
    let long : length (events_of v) ≤ length (events_of w) =
    prefix_length (events_of v) (events_of w) seen in (
      seen,
      (let total = told.0 in omega arith),
    )

pub recounted : (v w : List Entry) (es : List Event) (found old : ℕ) → IsHistory v
    → length (events_of v) ≡ old
    → ToldOf v es found w (found == old)
    → (n : ℕ) → (found ≡ old → n ≡ old + length es) → (found ≢ old → n ≡ found)
    → (n ≡ length (events_of w)) × IsHistory w
recounted v w es found old h len told n same other = by_test (found == old) refl told
  where
    by_test : (b : Bool) → (found == old) ≡ b → ToldOf v es found w b
        → (n ≡ length (events_of w)) × IsHistory w
    by_test true is told =
        let eq : found ≡ old = grind (arith, nat_tests) in
        let all : events_of w ≡ events_of v ++ es = told.0
        ∙ ap (λ fs. events_of v ++ fs) (append-nil es) in
        (same eq ∙ (omega (arith, ap length all, length-append (events_of v) es)), told.1)
    by_test false is told =
        let ne : found ≢ old = grind (arith, nat_tests) in
        (other ne ∙ sym told.0, told.1)
