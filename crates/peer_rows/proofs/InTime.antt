-- Rows that are looked at in time.
use Rattle.std.proofs.Common.{◌≡◌, ◌≢◌, ℕ, zero, suc, ◌<◌, ◌≤◌, Bool, true, false, ◌||◌, cond, List}
use Rattle.std.proofs.Common.{[], ◌∷◌, length, Option, Some, None, Ordering, refl, ap, sym, ◌∙◌}
use Rattle.std.proofs.Common.{Result, Ok, Err}
use Rattle.std.proofs.Common.{subst, arith, inl, inr, ◌-◌, take, drop}
use Rattle.std.proofs.lemmas.Bool.{cases_eq, cases_lt, leb-true, lt-ltb, ltb-true}
use Rattle.std.proofs.lemmas.Bool.{true≢false, false≢true}
use Rattle.std.proofs.lemmas.List.{get_or-set_same, get_or-set_other, get_or_past, length-set}
use Rattle.std.proofs.lemmas.Map.Lookups.{exact_unsigned}
use Rattle.std.proofs.lemmas.Option.{none-some, same_Some}
use Rattle.std.specs.BTreeMap.{insert_entry, is_at}
use Rattle.std.specs.List.Sorted.{IsStrictlySortedBy}
use Rattle.std.specs.Map.{keys_of, lookup}
use Rattle.std.specs.Option.{option_map}
use Rattle.std.specs.Ordering.{match_ordering, nat_cmp, is_eq}
use Rattle.std.specs.Prelude.{MatchBool, OnOk, OnErr, is_some, min, unwrap_or, slice_set}
use Rattle.std.specs.Prelude.{slice_index_or}
use Rattle.agg_types.specs.declared.no_memory.NoMemory.{NoMemory}
use Rattle.std.specs.declared.cmp.Ordering.TheVariants.{Less, Equal, Greater}
use Rattle.place_index.specs.Places.{item_at, laid, revalued, value_at}
use Rattle.place_plans.specs.Plans.{is_due, plan_at}
use Rattle.peer_rows.specs.Ends.{end_of, any_ends, sooner, rows_at, IsFrom, EndFrom, IsLeast}
use Rattle.peer_rows.specs.Ends.{IsInTime, IsPlanned, ArePlanned, AreElse}
use Rattle.peer_rows.specs.Ends.{IsEndBy, HasEnded, is_behind}
use Rattle.peer_rows.specs.Places.{Places}
use Rattle.peer_rows.specs.declared.ends.Ends.{Ends}
use Rattle.peer_rows.specs.declared.row.Row.{Row}
use Rattle.place_index.proofs.Sorted.{above_first, lookup-above}

abbrev pub PeerRows : Type 0
PeerRows = List (ℕ × Row)

from_earlier : (o : Option ℕ) (m e : ℕ) → m ≤ e → IsFrom e o → IsFrom m o
from_earlier None m e within from = tt
from_earlier (Some end) m e within from = omega arith

pub end_earlier : (rows : PeerRows) (m e : ℕ) → m ≤ e → EndFrom e rows → EndFrom m rows
end_earlier [] m e within from = tt
end_earlier (r ∷ rows) m e within from =
    (from_earlier (end_of r.1) m e within from.0, end_earlier rows m e within from.1)

-- rows of which none ends end at any time
none_from : (o : Option ℕ) (rest : Bool) (m : ℕ) → (is_some o || rest) ≡ false
    → (rest ≡ false) × IsFrom m o
none_from None rest m none = (none, tt)
none_from (Some end) rest m none = absurd (true≢false none)

end_nowhere : (rows : PeerRows) (m : ℕ) → any_ends rows ≡ false → EndFrom m rows
end_nowhere [] m none = tt
end_nowhere (r ∷ rows) m none =
    let both = none_from (end_of r.1) (any_ends rows) m none in
    (both.1, end_nowhere rows m both.0)

-- the least of one row more
pub least_more : (r : ℕ × Row) (rows : PeerRows) (a b : Option ℕ) → a ≡ end_of r.1
    → IsLeast rows b → IsLeast (r ∷ rows) (sooner a b)
least_more r rows None None e least = ap (λ o. is_some o || any_ends rows) (sym e) ∙ least
least_more r rows None (Some b) e least =
    (ap (λ o. is_some o || any_ends rows) (sym e) ∙ least.0, (subst (IsFrom b) e tt, least.1))
least_more r rows (Some a) None e least = (
  ap (λ o. is_some o || any_ends rows) (sym e),
  (subst (IsFrom a) e (omega arith), end_nowhere rows a least),
)
least_more r rows (Some a) (Some b) e least = (
  ap (λ o. is_some o || any_ends rows) (sym e),
  (subst (IsFrom (min a b)) e (omega arith), end_earlier rows (min a b) b (omega arith) least.1),
)

-- a plan by the least end is in time
in_time_by : (rows : PeerRows) (e : ℕ) (plan : Option ℕ) → is_due e plan ≡ true → EndFrom e rows
    → IsInTime rows plan
in_time_by rows e None due from = absurd (false≢true due)
in_time_by rows e (Some at) due from = end_earlier rows at e (leb-true at e due) from

pub planned_by : (missed : Bool) (rows : PeerRows) (e : ℕ) (plan : Option ℕ)
    → IsLeast rows (Some e) → is_due e plan ≡ true → IsPlanned missed rows plan
planned_by missed rows e plan least due = record {
  none = λ n. absurd (true≢false (sym least.0 ∙ n));
  in_time = λ m some. in_time_by rows e plan due least.1;
}

pub planned_missed : (rows : PeerRows) (e : ℕ) (plan : Option ℕ) → IsLeast rows (Some e)
    → IsPlanned true rows plan
planned_missed rows e plan least = record {
  none = λ n. absurd (true≢false (sym least.0 ∙ n));
  in_time = λ m some. absurd (true≢false m);
}

pub planned_none : (missed : Bool) (rows : PeerRows) (plan : Option ℕ) → any_ends rows ≡ false
    → plan ≡ None → IsPlanned missed rows plan
planned_none missed rows plan least none = record {
  none = λ n. none;
  in_time = λ m some. absurd (true≢false (sym some ∙ least));
}

-- what was planned is so still
pub planned_still : (m n : Bool) (rows later : PeerRows) (plan new : Option ℕ)
    → (n ≡ false → m ≡ false) → later ≡ rows → new ≡ plan → IsPlanned m rows plan
    → IsPlanned n later new
planned_still m n rows later plan new weaker same stays was =
    subst (λ rs. IsPlanned n rs new) (sym same) (subst (IsPlanned n rows) (sym stays) (record {
      none = was.none;
      in_time = λ kept some. was.in_time (weaker kept) some;
    }))

-- a row in another's place that ends no earlier
end_found : (rows : PeerRows) (test : ℕ → Bool) (old : Row) (m : ℕ) → lookup test rows ≡ Some old
    → EndFrom m rows → IsFrom m (end_of old)
end_found [] test old m found from = absurd (none-some old found)
end_found (r ∷ rows) test old m found from = by (end_found rows test old m) (test r.0) found
  where
    by : (lookup test rows ≡ Some old → EndFrom m rows → IsFrom m (end_of old)) → (b : Bool)
        → cond b (Some r.1) (lookup test rows) ≡ Some old → IsFrom m (end_of old)
    by more true is = subst (λ row. IsFrom m (end_of row)) (same_Some r.1 old is) from.0
    by more false is = more is from.1

any_found : (rows : PeerRows) (test : ℕ → Bool) (old : Row) (a : ℕ) → lookup test rows ≡ Some old
    → end_of old ≡ Some a → any_ends rows ≡ true
any_found [] test old a found ends = absurd (none-some old found)
any_found (r ∷ rows) test old a found ends = by (any_found rows test old a) (test r.0) found
  where
    more_true : (b : Bool) → (b || true) ≡ true
    more_true true = refl
    more_true false = refl

    by : (lookup test rows ≡ Some old → end_of old ≡ Some a → any_ends rows ≡ true) → (b : Bool)
        → cond b (Some r.1) (lookup test rows) ≡ Some old
        → (is_some (end_of r.1) || any_ends rows) ≡ true
    by more true is =
        ap (λ o. is_some o || any_ends rows)
        (ap end_of (same_Some r.1 old is) ∙ ends)
    by more false is =
        ap (λ b. is_some (end_of r.1) || b) (more is ends) ∙ more_true (is_some (end_of r.1))

end_put : (rows : PeerRows) (peer : ℕ) (new : Row) (m : ℕ) → EndFrom m rows
    → IsFrom m (end_of new) → EndFrom m (insert_entry nat_cmp rows peer new)
end_put [] peer new m from own = (own, tt)
end_put (r ∷ rows) peer new m from own =
    by (end_put rows peer new m from.1 own) (nat_cmp peer r.0)
  where
    by : EndFrom m (insert_entry nat_cmp rows peer new) → (o : Ordering)
        → EndFrom m (match_ordering o ((peer, new) ∷ r ∷ rows) ((r.0, new) ∷ rows)
        (r ∷ insert_entry nat_cmp rows peer new))
    by more Less = (own, from)
    by more Equal = (own, from.1)
    by more Greater = (from.0, more)

any_put : (rows : PeerRows) (peer : ℕ) (new : Row) (b : ℕ) → end_of new ≡ Some b
    → any_ends (insert_entry nat_cmp rows peer new) ≡ true
any_put [] peer new b ends = ap (λ o. is_some o || false) ends
any_put (r ∷ rows) peer new b ends = by (any_put rows peer new b ends) (nat_cmp peer r.0)
  where
    more_true : (c : Bool) → (c || true) ≡ true
    more_true true = refl
    more_true false = refl

    by : any_ends (insert_entry nat_cmp rows peer new) ≡ true → (o : Ordering)
        → any_ends (match_ordering o ((peer, new) ∷ r ∷ rows) ((r.0, new) ∷ rows)
        (r ∷ insert_entry nat_cmp rows peer new)) ≡ true
    by more Less = ap (λ o. is_some o || any_ends (r ∷ rows)) ends
    by more Equal = ap (λ o. is_some o || any_ends rows) ends
    by more Greater =
        ap (λ c. is_some (end_of r.1) || c) more ∙ more_true (is_some (end_of r.1))

pub planned_longer : (missed : Bool) (rows : PeerRows) (plan : Option ℕ) (peer : ℕ)
    (old new : Row) (a b : ℕ) → IsPlanned missed rows plan
    → lookup (is_at (nat_cmp peer)) rows ≡ Some old → end_of old ≡ Some a → end_of new ≡ Some b
    → a ≤ b → IsPlanned missed (insert_entry nat_cmp rows peer new) plan
planned_longer missed rows plan peer old new a b was found ends later within = record {
  none = λ n. absurd (true≢false (sym (any_put rows peer new b later) ∙ n));
  in_time = λ kept some. by plan (was.in_time kept
      (any_found rows (is_at (nat_cmp peer)) old a found ends));
}
  where
    by : (plan : Option ℕ) → IsInTime rows plan
        → IsInTime (insert_entry nat_cmp rows peer new) plan
    by None from = from
    by (Some m) from =
        let first : m ≤ a = subst (IsFrom m) ends
        (end_found rows (is_at (nat_cmp peer)) old m found from) in
        let own : m ≤ b = omega arith in
        end_put rows peer new m from (subst (IsFrom m) (sym later) own)

-- a row more that ends no earlier than is planned
planned_joined : (missed : Bool) (rows : PeerRows) (plan : Option ℕ) (peer : ℕ) (new : Row)
    (end : Option ℕ) → IsPlanned missed rows plan → end_of new ≡ end → IsEndBy plan end
    → IsPlanned missed (insert_entry nat_cmp rows peer new) plan
planned_joined missed rows None peer new end was ends by = absurd by
planned_joined missed rows (Some m) peer new None was ends by = absurd by
planned_joined missed rows (Some m) peer new (Some b) was ends within = record {
  none = λ n. absurd (true≢false (sym (any_put rows peer new b ends) ∙ n));
  in_time = λ kept some. end_put rows peer new m (from kept (any_ends rows) refl)
      (subst (IsFrom m) (sym ends) within);
}
  where
    from : missed ≡ false → (b : Bool) → any_ends rows ≡ b → EndFrom m rows
    from kept true is = was.in_time kept is
    from kept false is = end_nowhere rows m is

-- ---- places
pub within_value : (places : Places) (at : ℕ) (rows : PeerRows) → value_at places at ≡ Some rows
    → at < length places
within_value places at rows value = elim (cases_lt at (length places)) [
  | inl below ↦ below
  | inr past ↦ absurd (none-some rows (sym (ap (option_map (λ i. i.1))
      (get_or_past places at None past)) ∙ value))
]

pub rows_value : (places : Places) (at : ℕ) (rows : PeerRows) → value_at places at ≡ Some rows
    → rows_at places at ≡ rows
rows_value places at rows value = ap (λ o. unwrap_or o []) value

pub rows_none : (places : Places) (at : ℕ) → value_at places at ≡ None → rows_at places at ≡ []
rows_none places at none = ap (λ o. unwrap_or o []) none

rows_set_else : (places : Places) (at : ℕ) (item : Option (List ℕ × PeerRows)) (p : ℕ) → p ≢ at
    → rows_at (slice_set places at item) p ≡ rows_at places p
rows_set_else places at item p other =
    ap (λ i. unwrap_or (option_map (λ (i : List ℕ × PeerRows). i.1) i) [])
    (get_or-set_other places at p item None other)

pub rows_changed_else : (places : Places) (at : ℕ) (later : PeerRows) (p : ℕ) → p ≢ at
    → rows_at (revalued places at later) p ≡ rows_at places p
rows_changed_else places at later p other =
    rows_set_else places at (option_map (λ i. (i.0, later)) (item_at places at)) p other

pub rows_gone_else : (places : Places) (at p : ℕ) → p ≢ at
    → rows_at (slice_set places at None) p ≡ rows_at places p
rows_gone_else places at p other = rows_set_else places at None p other

pub rows_gone : (places : Places) (at : ℕ) → rows_at (slice_set places at None) at ≡ []
rows_gone places at = elim (cases_lt at (length places)) [
  | inl below ↦ ap (λ i. unwrap_or (option_map (λ (i : List ℕ × PeerRows). i.1) i) [])
      (get_or-set_same places at None None below)
  | inr past ↦
      let m = length-set places at None in
      ap (λ i. unwrap_or (option_map (λ (i : List ℕ × PeerRows). i.1) i) [])
      (get_or_past (slice_set places at None) at None (omega arith))
]

pub rows_changed : (places : Places) (at : ℕ) (rows later : PeerRows)
    → value_at places at ≡ Some rows → rows_at (revalued places at later) at ≡ later
rows_changed places at rows later value =
    ap (λ i. unwrap_or (option_map (λ (i : List ℕ × PeerRows). i.1) i) [])
    (get_or-set_same places at (option_map (λ i. (i.0, later)) (item_at places at)) None
    (within_value places at rows value))
    ∙ by (item_at places at) value
  where
    by : (item : Option (List ℕ × PeerRows)) → option_map (λ i. i.1) item ≡ Some rows
        → unwrap_or (option_map (λ (i : List ℕ × PeerRows). i.1)
        (option_map (λ (i : List ℕ × PeerRows). (i.0, later)) item)) [] ≡ later
    by None is = absurd (none-some rows is)
    by (Some i) is = refl

laid_here : {X : Type 0} (xs : List X) (at : ℕ) (x d : X) → at ≤ length xs
    → slice_index_or (laid xs at x) at d ≡ x
laid_here [] zero x d within = refl
laid_here [] (suc at) x d within = absurd (omega arith)
laid_here (y ∷ xs) zero x d within = refl
laid_here (y ∷ xs) (suc at) x d within = laid_here xs at x d (omega arith)

laid_else : {X : Type 0} (xs : List X) (at q : ℕ) (x d : X) → at ≤ length xs → (q ≡ at → ⊥)
    → slice_index_or (laid xs at x) q d ≡ slice_index_or xs q d
laid_else [] zero zero x d within other = absurd (other refl)
laid_else [] zero (suc q) x d within other =
    get_or_past (x ∷ []) (suc q) d (omega arith) ∙ sym (get_or_past [] (suc q) d (omega arith))
laid_else [] (suc at) q x d within other = absurd (omega arith)
laid_else (y ∷ xs) zero zero x d within other = absurd (other refl)
laid_else (y ∷ xs) zero (suc q) x d within other = refl
laid_else (y ∷ xs) (suc at) zero x d within other = refl
laid_else (y ∷ xs) (suc at) (suc q) x d within other =
    laid_else xs at q x d (omega arith) (λ e. other (ap suc e))

pub rows_laid : (places : Places) (at : ℕ) (key : List ℕ) (rows : PeerRows) → at ≤ length places
    → rows_at (laid places at (Some (key, rows))) at ≡ rows
rows_laid places at key rows within =
    ap (λ i. unwrap_or (option_map (λ (i : List ℕ × PeerRows). i.1) i) [])
    (laid_here places at (Some (key, rows)) None within)

pub rows_laid_else : (places : Places) (at : ℕ) (key : List ℕ) (rows : PeerRows) (p : ℕ)
    → at ≤ length places → p ≢ at
    → rows_at (laid places at (Some (key, rows))) p ≡ rows_at places p
rows_laid_else places at key rows p within other =
    ap (λ i. unwrap_or (option_map (λ (i : List ℕ × PeerRows). i.1) i) [])
    (laid_else places at p (Some (key, rows)) None within other)

-- each other place is planned as it was, since it has the rows that it had
pub else_stays : (old new : Places) (at : ℕ) (ends : Ends)
    → ((p : ℕ) → p ≢ at → rows_at new p ≡ rows_at old p) → ArePlanned old ends
    → AreElse at new ends
else_stays old new at ends same was = λ p other.
    planned_still ends.missed ends.missed (rows_at old p) (rows_at new p)
    (plan_at ends.plans p) (plan_at ends.plans p) (λ e. e) (same p other) refl (was p)

-- and a place that was looked after is planned as well
pub planned_all : (places : Places) (at : ℕ) (old new : Ends) → AreElse at places old
    → (new.missed ≡ false → old.missed ≡ false)
    → ((p : ℕ) → p ≢ at → plan_at new.plans p ≡ plan_at old.plans p)
    → IsPlanned new.missed (rows_at places at) (plan_at new.plans at) → ArePlanned places new
planned_all places at old new else weaker same own = λ p. elim (cases_eq p at) [
  | inl e ↦ subst (λ q. IsPlanned new.missed (rows_at places q) (plan_at new.plans q)) (sym e) own
  | inr other ↦ planned_still old.missed new.missed (rows_at places p) (rows_at places p)
      (plan_at old.plans p) (plan_at new.plans p) weaker refl (same p other) (else p other)
]

-- a row was exchanged for one that ends no earlier, or there was none
pub exchanged_planned : (places : Places) (at : ℕ) (rows later : PeerRows) (peer : ℕ)
    (new back : Row) (found : Bool) (ends : Ends) → ArePlanned places ends
    → value_at places at ≡ Some rows
    → MatchBool found (later ≡ insert_entry nat_cmp rows peer new) (later ≡ rows)
    → MatchBool found (lookup (is_at (nat_cmp peer)) rows ≡ Some back) (back ≡ new)
    → IsEndBy (end_of back) (end_of new) → ArePlanned (revalued places at later) ends
exchanged_planned places at rows later peer new back found ends was value after came by = λ p.
    elim (cases_eq p at) [
      | inl e ↦ subst (λ q. IsPlanned ends.missed (rows_at (revalued places at later) q)
          (plan_at ends.plans q)) (sym e)
          (subst (λ rs. IsPlanned ends.missed rs (plan_at ends.plans at))
          (sym (rows_changed places at rows later value)) (own found after came))
      | inr other ↦ planned_still ends.missed ends.missed (rows_at places p)
          (rows_at (revalued places at later) p) (plan_at ends.plans p) (plan_at ends.plans p)
          (λ e. e) (rows_changed_else places at later p other) refl (was p)
    ]
  where
    before : IsPlanned ends.missed rows (plan_at ends.plans at)
    before = subst (λ rs. IsPlanned ends.missed rs (plan_at ends.plans at))
        (rows_value places at rows value) (was at)

    longer : lookup (is_at (nat_cmp peer)) rows ≡ Some back → (a b : Option ℕ)
        → end_of back ≡ a → end_of new ≡ b → IsEndBy a b
        → IsPlanned ends.missed (insert_entry nat_cmp rows peer new) (plan_at ends.plans at)
    longer held None b e f within = absurd within
    longer held (Some a) None e f within = absurd within
    longer held (Some a) (Some b) e f within =
        planned_longer ends.missed rows (plan_at ends.plans at) peer back new a b before held e f
        within

    own : (found : Bool) → MatchBool found (later ≡ insert_entry nat_cmp rows peer new)
        (later ≡ rows)
        → MatchBool found (lookup (is_at (nat_cmp peer)) rows ≡ Some back) (back ≡ new)
        → IsPlanned ends.missed later (plan_at ends.plans at)
    own true put held = subst (λ rs. IsPlanned ends.missed rs (plan_at ends.plans at)) (sym put)
        (longer held (end_of back) (end_of new) refl refl by)
    own false same back = subst (λ rs. IsPlanned ends.missed rs (plan_at ends.plans at)) (sym same)
        before

-- a row was put that ends no earlier than its place is looked at, or an allocation failed
pub put_planned : (places : Places) (at : ℕ) (rows later : PeerRows) (peer : ℕ) (new : Row)
    (result : Result (Option Row) NoMemory) (ends : Ends) → ArePlanned places ends
    → value_at places at ≡ Some rows
    → OnOk result (later ≡ insert_entry nat_cmp rows peer new) → OnErr result (later ≡ rows)
    → IsEndBy (plan_at ends.plans at) (end_of new) → ArePlanned (revalued places at later) ends
put_planned places at rows later peer new result ends was value ok err by = λ p.
    elim (cases_eq p at) [
      | inl e ↦ subst (λ q. IsPlanned ends.missed (rows_at (revalued places at later) q)
          (plan_at ends.plans q)) (sym e)
          (subst (λ rs. IsPlanned ends.missed rs (plan_at ends.plans at))
          (sym (rows_changed places at rows later value)) (own result ok err))
      | inr other ↦ planned_still ends.missed ends.missed (rows_at places p)
          (rows_at (revalued places at later) p) (plan_at ends.plans p) (plan_at ends.plans p)
          (λ e. e) (rows_changed_else places at later p other) refl (was p)
    ]
  where
    before : IsPlanned ends.missed rows (plan_at ends.plans at)
    before = subst (λ rs. IsPlanned ends.missed rs (plan_at ends.plans at))
        (rows_value places at rows value) (was at)

    own : (result : Result (Option Row) NoMemory)
        → OnOk result (later ≡ insert_entry nat_cmp rows peer new)
        → OnErr result (later ≡ rows) → IsPlanned ends.missed later (plan_at ends.plans at)
    own (Ok old) put same = subst (λ rs. IsPlanned ends.missed rs (plan_at ends.plans at)) (sym put)
        (planned_joined ends.missed rows (plan_at ends.plans at) peer new (end_of new) before refl
        by)
    own (Err fault) put same =
        subst (λ rs. IsPlanned ends.missed rs (plan_at ends.plans at)) (sym same) before

-- ---- parts of a slice
take_all : {X : Type 0} (xs : List X) → take (length xs) xs ≡ xs
take_all [] = refl
take_all (x ∷ xs) = ap (λ ys. x ∷ ys) (take_all xs)

pub first_rest : {X : Type 0} (xs : List X) (x : X) → 1 ≤ length xs → x ≡ slice_index_or xs 0 x
    → xs ≡ x ∷ take (length xs - 1) (drop 1 xs)
first_rest [] x some is = absurd (omega arith)
first_rest {X} (y ∷ ys) x some is =
    let less : length (y ∷ ys) - 1 ≡ length ys = omega arith in
    ap (λ (z : X). z ∷ ys) (sym is)
    ∙ ap (λ zs. x ∷ zs) (sym (ap (λ n. take n ys) less ∙ take_all ys))

pub behind_sooner : (t : ℕ) (a b : Option ℕ) → is_behind t a ≡ true → is_behind t b ≡ true
    → is_behind t (sooner a b) ≡ true
behind_sooner t None b first other = other
behind_sooner t (Some a) None first other = first
behind_sooner t (Some a) (Some b) first other =
    let c = ltb-true t a first in
    let d = ltb-true t b other in
    lt-ltb t (min a b) (omega arith)

-- a peer that stands behind another in order
pub ended_more : (t : ℕ) (r : ℕ × Row) (rows : PeerRows) (peer : ℕ)
    → IsStrictlySortedBy nat_cmp (r.0 ∷ keys_of rows) → HasEnded t rows peer
    → HasEnded t (r ∷ rows) peer
ended_more t r rows peer sorted h = record {
  row = h.row;
  found = by (is_at (nat_cmp peer) r.0) refl;
  ended = h.ended;
}
  where
    equal : (o : Ordering) → is_eq o ≡ true → o ≡ Equal
    equal Less e = cc
    equal Equal e = refl
    equal Greater e = cc

    by : (b : Bool) → is_at (nat_cmp peer) r.0 ≡ b
        → cond b (Some r.1) (lookup (is_at (nat_cmp peer)) rows) ≡ Some h.row
    by false e = h.found
    by true e =
        let same : peer ≡ r.0 = exact_unsigned peer r.0 (equal (nat_cmp peer r.0) e) in
        let none : lookup (is_at (nat_cmp peer)) rows ≡ None =
        ap (λ k. lookup (is_at (nat_cmp k)) rows) same
        ∙ lookup-above nat_cmp r.0 rows (above_first nat_cmp r.0 rows sorted) in
        absurd (none-some h.row (sym none ∙ h.found))
