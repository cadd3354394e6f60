-- Marks that a turn leaves as they are.
use Rattle.std.proofs.Common.{◌≡◌, ◌≤◌, ◌<◌, ◌&&◌, ◌||◌, ℕ, Bool, true, false, List, [], ◌∷◌, ◌++◌}
use Rattle.std.proofs.Common.{length, map, Option, None, Some, MatchOption, refl, sym, ap, subst}
use Rattle.std.proofs.Common.{◌∙◌, arith}
use Rattle.std.proofs.lemmas.Map.Lookups.{exact_bytes}
use Rattle.std.proofs.lemmas.Map.Text.{is_eq-slice_cmp}
use Rattle.std.proofs.lemmas.Bool.Decides.{nat_tests}
use Rattle.std.proofs.lemmas.List.Concat.{flat_map-append}
use Rattle.std.specs.Bool.{then_some}
use Rattle.std.specs.List.{AllByRecursion}
use Rattle.std.specs.Option.{option_map}
use Rattle.std.specs.Prelude.{bytes_eq, if◌then◌else◌, is_some, nat_lt, not, option_to_list}
use Rattle.std.specs.Cmp.{Equal-is}
use Rattle.std.specs.Cmp.Lexicographic.{slice_cmp}
use Rattle.std.specs.Ordering.{nat_cmp}
use Rattle.std.specs.declared.cmp.Ordering.TheVariants.{Equal}
use Rattle.pushed_keys.specs.Moves.{unmoved}
use Rattle.pushed_keys.specs.Passed.{AreAbove, IsBehindQuiet, IsKept, IsUndue}
use Rattle.pushed_keys.specs.Rules.{IsStillFrom, change_of, is_held, is_left, is_written, put_after}
use Rattle.pushed_keys.specs.Stands.{Stand, by_order, in_set, only_told, placed, stands}
use Rattle.pushed_keys.specs.Turns.{AreQuiet, changes, key_change, key_mark, marks_after}
use Rattle.pushed_keys.specs.declared.change.Change.TheVariants.{Put, TakeAway}
use Rattle.pushed_keys.specs.declared.change.Turn.{Turn}
use Rattle.pushed_keys.specs.declared.pushed.Pushed.{Pushed}
use Rattle.pushed_keys.specs.declared.told.Mark.{Mark}

-- ---- one key

not_before : (from put : ℕ) → from ≤ put → nat_lt put from ≡ false
not_before from put late = grind (arith, nat_tests)

not_loose : (holds told : Bool) → (holds && told) ≡ true → (not holds && told) ≡ false
not_loose true told held = refl
not_loose false told held = absurd (cc held)

-- nothing is written of it
silent_by : (p : Pushed) (turn : Turn) (key : List ℕ) (side : Bool) (put : ℕ)
    → (side || is_held p turn put) ≡ true → (side && is_written p turn (Some put)) ≡ false
    → key_change p turn (record { key = key; is_in = side; put = Some put }) ≡ []
unfolding change_of
silent_by p turn key true put kept undue =
    ap (λ b. option_to_list (option_map (λ change. (key, change)) (then_some b Put))) undue
silent_by p turn key false put kept undue =
    ap (λ b. option_to_list (option_map (λ change. (key, change)) (then_some b TakeAway)))
    (not_loose p.holds (is_left p turn (Some put)) kept)

-- and its mark stays
same_by : (p : Pushed) (turn : Turn) (key : List ℕ) (side : Bool) (put : ℕ)
    → (side || is_held p turn put) ≡ true → (side && is_written p turn (Some put)) ≡ false
    → key_mark p turn (record { key = key; is_in = side; put = Some put })
    ≡ record { key = key; put = put; is_in = side } ∷ []
unfolding put_after
same_by p turn key true put kept undue =
    ap (λ b. option_to_list (option_map (λ at. record { key = key; put = at; is_in = true })
    (if b then Some turn.now else Some put))) undue
same_by p turn key false put kept undue =
    ap (λ b. option_to_list (option_map (λ at. record { key = key; put = at; is_in = false })
    (if b then Some put else None))) kept

-- ---- all keys

pub none_quiet : (p : Pushed) (turn : Turn) → AreQuiet p turn [] []
none_quiet p turn = record { silent = refl; same = refl }

pub quiet_more : (p : Pushed) (turn : Turn) (mark : Mark) (keys : List Stand) (marks : List Mark)
    → IsKept p turn mark → IsUndue p turn mark → AreQuiet p turn keys marks
    → AreQuiet p turn (unmoved mark ∷ keys) (mark ∷ marks)
quiet_more p turn mark keys marks kept undue quiet = record {
  silent = λ i. silent_by p turn mark.key mark.is_in mark.put kept undue i ++ quiet.silent i;
  same = λ i. same_by p turn mark.key mark.is_in mark.put kept undue i ++ quiet.same i;
}

-- a part is quiet if each of its marks is kept, and none is due
pub quiet_part : (p : Pushed) (turn : Turn) (part : List Mark)
    → AllByRecursion (λ mark. IsKept p turn mark) part
    → AllByRecursion (λ mark. IsUndue p turn mark) part → AreQuiet p turn (map unmoved part) part
quiet_part p turn [] kept undue = none_quiet p turn
quiet_part p turn (mark ∷ part) kept undue =
    quiet_more p turn mark (map unmoved part) part kept.0 undue.0
    (quiet_part p turn part kept.1 undue.1)

-- and so are parts, one behind the other
pub quiet_then : (p : Pushed) (turn : Turn) (part rest : List Mark)
    → AreQuiet p turn (map unmoved part) part → AreQuiet p turn (map unmoved rest) rest
    → AreQuiet p turn (map unmoved (part ++ rest)) (part ++ rest)
quiet_then p turn part rest first behind =
    let split : map unmoved (part ++ rest) ≡ map unmoved part ++ map unmoved rest =
    map_both part rest in
    record {
      silent = ap (changes p turn) split
          ∙ flat_map-append (key_change p turn) (map unmoved part) (map unmoved rest)
          ∙ (λ i. first.silent i ++ behind.silent i);
      same = ap (marks_after p turn) split
          ∙ flat_map-append (key_mark p turn) (map unmoved part) (map unmoved rest)
          ∙ (λ i. first.same i ++ behind.same i);
    }
  where
    map_both : (xs ys : List Mark) → map unmoved (xs ++ ys) ≡ map unmoved xs ++ map unmoved ys
    map_both [] ys = refl
    map_both (x ∷ xs) ys = ap (λ (ss : List Stand). unmoved x ∷ ss) (map_both xs ys)

-- ---- beside a set

-- all keys are quiet if those behind a quiet one are
pub quiet_behind : (p : Pushed) (turn : Turn) (all left : List Stand) (marks rest : List Mark)
    → IsBehindQuiet p turn all left marks rest → AreQuiet p turn left rest
    → AreQuiet p turn all marks
quiet_behind p turn all left marks rest behind quiet =
    subst (λ (ms : List Mark). AreQuiet p turn all ms) (sym behind.marks_are)
    (subst (λ (ss : List Stand). AreQuiet p turn ss (behind.mark ∷ rest)) (sym behind.stands)
    (quiet_more p turn behind.mark left rest behind.kept behind.undue quiet))

pub fewer_behind : (p : Pushed) (turn : Turn) (all left : List Stand) (marks rest : List Mark)
    → IsBehindQuiet p turn all left marks rest → length rest < length marks
fewer_behind p turn all left marks rest behind =
    let is : length marks ≡ length (behind.mark ∷ rest) = ap length behind.marks_are in
    omega (arith, is)

both_first : (key : List ℕ) (keys : List (List ℕ)) (mark : Mark) (marks : List Mark)
    → mark.is_in ≡ true → slice_cmp nat_cmp key mark.key ≡ Equal
    → stands (key ∷ keys) (mark ∷ marks) ≡ unmoved mark ∷ stands keys marks
unfolding stands
both_first key keys mark marks side same =
    let first : Stand → List Stand = λ s. s ∷ stands keys marks in
    ap (λ order. by_order order (in_set key None ∷ stands keys (mark ∷ marks))
    (in_set key (Some mark.put) ∷ stands keys marks)
    (only_told mark ∷ placed key (stands keys) marks)) same
    ∙ ap first (λ i. record {
      key = exact_bytes key mark.key same i;
      is_in = sym side i;
      put = Some mark.put;
    })

left_first : (set : List (List ℕ)) (mark : Mark) (marks : List Mark) → AreAbove mark.key set
    → stands set (mark ∷ marks) ≡ only_told mark ∷ stands set marks
unfolding stands
left_first [] mark marks above = refl
left_first (key ∷ keys) mark marks above =
    ap (λ order. by_order order (in_set key None ∷ stands keys (mark ∷ marks))
    (in_set key (Some mark.put) ∷ stands keys marks)
    (only_told mark ∷ placed key (stands keys) marks)) above

-- a key that is first in the set and first among the marks
pub still_first : (p : Pushed) (turn : Turn) (from : ℕ) (key : List ℕ) (mark : Mark)
    (set keys others : List (List ℕ)) (marks rest : List Mark) → IsStillFrom p turn from
    → set ≡ key ∷ keys → others ≡ keys → marks ≡ mark ∷ rest → mark.is_in ≡ true
    → from ≤ mark.put → bytes_eq key mark.key ≡ true
    → IsBehindQuiet p turn (stands set marks) (stands others rest) marks rest
still_first p turn from key mark set keys others marks rest limit s o m side late same = record {
  mark = mark;
  stands = (λ i. stands (s i) (m i)) ∙ both_first key keys mark rest side
      ((Equal-is (slice_cmp nat_cmp key mark.key)).0 (is_eq-slice_cmp key mark.key ∙ same))
      ∙ (λ i. unmoved mark ∷ stands (sym o i) rest);
  marks_are = m;
  kept = ap (λ b. b || is_held p turn mark.put) side;
  undue = ap (λ b. b && is_written p turn (Some mark.put)) side ∙ limit mark.put
      ∙ not_before from mark.put late;
}

-- a key that isn't in the set, and is first among the marks
pub held_first : (p : Pushed) (turn : Turn) (mark : Mark) (set : List (List ℕ))
    (marks rest : List Mark) → marks ≡ mark ∷ rest → mark.is_in ≡ false
    → is_held p turn mark.put ≡ true → AreAbove mark.key set
    → IsBehindQuiet p turn (stands set marks) (stands set rest) marks rest
held_first p turn mark set marks rest m side held above = record {
  mark = mark;
  stands = ap (stands set) m ∙ left_first set mark rest above
      ∙ (λ i. record { key = mark.key; is_in = sym side i; put = Some mark.put }
      ∷ stands set rest);
  marks_are = m;
  kept = ap (λ b. b || is_held p turn mark.put) side ∙ held;
  undue = ap (λ b. b && is_written p turn (Some mark.put)) side;
}

pub none_first : {A : Type 0} (first : Option A) (empty : Bool) (P : Type 0) (Q : A → Type 0)
    → MatchOption first P Q → is_some first ≡ not empty → empty ≡ true → P
none_first None empty P Q is found h = is
none_first (Some x) true P Q is found h = absurd (cc found)
none_first (Some x) false P Q is found h = absurd (cc h)

-- where neither keys nor marks are left
pub quiet_end : (p : Pushed) (turn : Turn) (set : List (List ℕ)) (marks : List Mark) → set ≡ []
    → marks ≡ [] → AreQuiet p turn (stands set marks) marks
unfolding stands
quiet_end p turn set marks s m =
    subst (λ (ms : List Mark). AreQuiet p turn (stands set ms) ms) (sym m)
    (subst (λ (keys : List (List ℕ)). AreQuiet p turn (stands keys []) []) (sym s)
    (none_quiet p turn))
