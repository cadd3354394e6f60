-- The minute that is found of a source.
use Rattle.std.proofs.Common.{◌≡◌, ◌≢◌, ℕ, zero, suc, ◌+◌, ◌-◌, ◌<◌, nat_lt, Bool, true, false, cond, not}
use Rattle.std.proofs.Common.{List, [], ◌∷◌, ◌++◌, ◌&&◌, length, get_or, set, position}
use Rattle.std.proofs.Common.{Some, None, refl, sym, ap, ◌∙◌, arith}
use Rattle.std.proofs.lemmas.Bool.Decides.{nat_tests}
use Rattle.std.proofs.lemmas.Iterator.Adapters.{position_from-zero}
use Rattle.std.proofs.lemmas.Slice.Eq.{bytes_eq-Decides}
use Rattle.std.specs.List.{position_from}
use Rattle.std.specs.Prelude.{if◌then◌else◌}
use Rattle.std.specs.Str.{bytes_eq}
use Rattle.throttle.specs.Minutes.{fresh, is_of, is_on, minute_in, one_more}
use Rattle.throttle.specs.declared.flow.Flow.{Flow}
use Rattle.throttle.specs.declared.minute.Minute.{Minute}

-- ---- whether a flow is of a source

-- a flow of another source isn't
of_other : (flow : Flow) (other : List ℕ) (now : ℕ) (b : Bool)
    → bytes_eq flow.source.items other ≡ b → other ≢ flow.source.items
    → (b && is_on flow.minute now) ≡ false
of_other flow other now true e not_it =
    absurd (not_it (sym ((bytes_eq-Decides flow.source.items other).0 e)))
of_other flow other now false e not_it = refl

pub is_of-other : (flow : Flow) (other : List ℕ) (now : ℕ) → other ≢ flow.source.items
    → is_of other now flow ≡ false
is_of-other flow other now not_it =
    of_other flow other now (bytes_eq flow.source.items other) refl not_it

-- nor is one whose minute is over
and_over : (b on : Bool) → not on ≡ true → (b && on) ≡ false
and_over true true e = absurd cc
and_over true false e = refl
and_over false on e = refl

pub is_of-over : (flow : Flow) (other : List ℕ) (now : ℕ) → not (is_on flow.minute now) ≡ true
    → is_of other now flow ≡ false
is_of-over flow other now over =
    and_over (bytes_eq flow.source.items other) (is_on flow.minute now) over

-- one of the source itself is, while its minute isn't over
pub is_of-own : (flow : Flow) (source : List ℕ) (now : ℕ) → flow.source.items ≡ source
    → is_on flow.minute now ≡ true → is_of source now flow ≡ true
is_of-own flow source now same on =
    rw ((bytes_eq-Decides flow.source.items source).1 same, on) refl

-- the source of such a flow
both_true : (a b : Bool) → (a && b) ≡ true → a ≡ true
both_true true b e = refl
both_true false b e = absurd cc

pub source_is : (flow : Flow) (source : List ℕ) (now : ℕ) → is_of source now flow ≡ true
    → flow.source.items ≡ source
source_is flow source now e = (bytes_eq-Decides flow.source.items source).0
    (both_true (bytes_eq flow.source.items source) (is_on flow.minute now) e)

module _ (source : List ℕ) (now : ℕ) where
  -- ---- what is found

  pub found : (flows : List Flow) (i : ℕ) (d : Flow) → i < length flows
      → is_of source now (get_or flows i d) ≡ true
      → ((k : ℕ) → k < i → is_of source now (get_or flows k d) ≡ false)
      → minute_in flows source now ≡ (get_or flows i d).minute
  found [] i d within here before = absurd (omega (arith, within))
  found (flow ∷ flows) zero d within here before = rw here refl
  found (flow ∷ flows) (suc i) d within here before =
      rw (before 0 (omega arith))
      (found flows i d (omega (arith, within)) here (λ k b. before (suc k) (omega (arith, b))))

  not_found : (flows : List Flow) (i : ℕ) → position_from (is_of source now) i flows ≡ None
      → minute_in flows source now ≡ fresh now
  not_found [] i e = refl
  not_found (flow ∷ flows) i e = by (not_found flows (i + 1)) (is_of source now flow) e
    where
      by : (position_from (is_of source now) (i + 1) flows ≡ None
          → minute_in flows source now ≡ fresh now)
          → (b : Bool) → cond b (Some i) (position_from (is_of source now) (i + 1) flows) ≡ None
          → (if b then flow.minute else minute_in flows source now) ≡ fresh now
      by rest true e = absurd cc
      by rest false e = rest e

  pub none_found : (flows : List Flow) → position (is_of source now) flows ≡ None
      → minute_in flows source now ≡ fresh now
  none_found flows e = not_found flows 0 (sym (position_from-zero (is_of source now) flows) ∙ e)

  none_at : (flows : List Flow) (i : ℕ) (d : Flow)
      → position_from (is_of source now) i flows ≡ None
      → (k : ℕ) → k < length flows → is_of source now (get_or flows k d) ≡ false
  none_at [] i d e k within = absurd (omega (arith, within))
  none_at (flow ∷ flows) i d e k within =
      by (none_at flows (i + 1) d) (is_of source now flow) refl e k within
    where
      by : (position_from (is_of source now) (i + 1) flows ≡ None
          → (k : ℕ) → k < length flows → is_of source now (get_or flows k d) ≡ false)
          → (b : Bool) → is_of source now flow ≡ b
          → cond b (Some i) (position_from (is_of source now) (i + 1) flows) ≡ None
          → (k : ℕ) → k < length (flow ∷ flows)
          → is_of source now (get_or (flow ∷ flows) k d) ≡ false
      by rest true is e k within = absurd cc
      by rest false is e zero within = is
      by rest false is e (suc k) within = rest e k (omega (arith, within))

  pub none_before : (flows : List Flow) (d : Flow) → position (is_of source now) flows ≡ None
      → (k : ℕ) → k < length flows → is_of source now (get_or flows k d) ≡ false
  none_before flows d e =
      none_at flows 0 d (sym (position_from-zero (is_of source now) flows) ∙ e)

  -- ---- behind a change at a place, and behind one more

  pub set_other : (flows : List Flow) (k : ℕ) (flow d : Flow) → k < length flows
      → is_of source now (get_or flows k d) ≡ false → is_of source now flow ≡ false
      → minute_in (set flows k flow) source now ≡ minute_in flows source now
  set_other [] k flow d within old new = absurd (omega (arith, within))
  set_other (first ∷ flows) zero flow d within old new = rw (old, new) refl
  set_other (first ∷ flows) (suc k) flow d within old new =
      ap (λ (m : Minute). if is_of source now first then first.minute else m)
      (set_other flows k flow d (omega (arith, within)) old new)

  pub set_own : (flows : List Flow) (k : ℕ) (flow d : Flow) → k < length flows
      → ((i : ℕ) → i < k → is_of source now (get_or flows i d) ≡ false)
      → is_of source now flow ≡ true → minute_in (set flows k flow) source now ≡ flow.minute
  set_own [] k flow d within before new = absurd (omega (arith, within))
  set_own (first ∷ flows) zero flow d within before new = rw new refl
  set_own (first ∷ flows) (suc k) flow d within before new =
      rw (before 0 (omega arith)) (set_own flows k flow d (omega (arith, within))
      (λ i b. before (suc i) (omega (arith, b))) new)

  pub push_other : (flows : List Flow) (flow : Flow) → is_of source now flow ≡ false
      → minute_in (flows ++ flow ∷ []) source now ≡ minute_in flows source now
  push_other [] flow new = rw new refl
  push_other (first ∷ flows) flow new =
      ap (λ (m : Minute). if is_of source now first then first.minute else m)
      (push_other flows flow new)

  pushed_own : (flows : List Flow) (flow : Flow) (i : ℕ)
      → position_from (is_of source now) i flows ≡ None → is_of source now flow ≡ true
      → minute_in (flows ++ flow ∷ []) source now ≡ flow.minute
  pushed_own [] flow i e new = rw new refl
  pushed_own (first ∷ flows) flow i e new =
      by (λ none. pushed_own flows flow (i + 1) none new) (is_of source now first) e
    where
      by : (position_from (is_of source now) (i + 1) flows ≡ None
          → minute_in (flows ++ flow ∷ []) source now ≡ flow.minute)
          → (b : Bool) → cond b (Some i) (position_from (is_of source now) (i + 1) flows) ≡ None
          → (if b then first.minute else minute_in (flows ++ flow ∷ []) source now)
          ≡ flow.minute
      by rest true e = absurd cc
      by rest false e = rest e

  pub push_own : (flows : List Flow) (flow : Flow) → position (is_of source now) flows ≡ None
      → is_of source now flow ≡ true
      → minute_in (flows ++ flow ∷ []) source now ≡ flow.minute
  push_own flows flow e new =
      pushed_own flows flow 0 (sym (position_from-zero (is_of source now) flows) ∙ e) new

  -- ---- one more line in a minute that is found

  right_true : (a b : Bool) → (a && b) ≡ true → b ≡ true
  right_true true b e = e
  right_true false b e = absurd cc

  one_on : (minute : Minute) → is_on minute now ≡ true → is_on (one_more minute) now ≡ true
  one_on minute on =
      let within : nat_lt (now - minute.began) 60000 ≡ true =
      right_true (nat_lt 0 minute.told) (nat_lt (now - minute.began) 60000) on in
      let some : nat_lt 0 (minute.told + 1) ≡ true = grind (arith, nat_tests) in
      rw (some, within) refl

  pub more_on : (flows : List Flow) → is_on (one_more (minute_in flows source now)) now ≡ true
  more_on [] =
      let none : nat_lt (now - now) 60000 ≡ true = grind (arith, nat_tests) in
      rw none refl
  more_on (flow ∷ flows) = by (is_of source now flow) refl (more_on flows)
    where
      by : (b : Bool) → is_of source now flow ≡ b
          → is_on (one_more (minute_in flows source now)) now ≡ true
          → is_on (one_more (if b then flow.minute else minute_in flows source now)) now ≡ true
      by true is rest = one_on flow.minute
          (right_true (bytes_eq flow.source.items source) (is_on flow.minute now) is)
      by false is rest = rest
