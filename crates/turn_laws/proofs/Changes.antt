-- Changes, their updates, and the rule for one key.
use Rattle.std.proofs.Common.{◌≡◌, ◌⊎◌, ℕ, suc, ◌+◌, ◌-◌, ◌*◌, ◌%◌, ◌^◌, ◌<◌, ◌≤◌, Bool, true}
use Rattle.std.proofs.Common.{false, cond, ◌&&◌, ◌||◌, List, [], ◌∷◌, length, map, Option, None}
use Rattle.std.proofs.Common.{Some, refl, sym, ap, subst, ◌∙◌, inl, inr, arith}
use Rattle.std.specs.Prelude.{Contains, not}
use Rattle.std.specs.Bool.{then_some}
use Rattle.std.specs.List.{enumerate_from}
use Rattle.std.specs.List.Sorted.{IsStrictlySortedBy}
use Rattle.std.specs.Str.{bytes_eq}
use Rattle.std.proofs.Math.Nat.{mod-add-mod}
use Rattle.std.proofs.lemmas.Bool.{cases_Bool}
use Rattle.std.proofs.lemmas.Bool.Decides.{nat_tests}
use Rattle.std.proofs.lemmas.Slice.Eq.{bytes_eq-Decides}
use Rattle.peers_msg.specs.declared.message.Message.{Message}
use Rattle.pushed_keys.specs.Rules.{change_of, is_due, is_told, is_written, put_after}
use Rattle.pushed_keys.specs.Turns.{next_id}
use Rattle.pushed_keys.specs.declared.change.TheConstants.{REFRESH_AHEAD}
use Rattle.pushed_keys.specs.declared.change.Change.{Change}
use Rattle.pushed_keys.specs.declared.change.Change.TheVariants.{Put, TakeAway}
use Rattle.pushed_keys.specs.declared.change.Turn.{Turn}
use Rattle.pushed_keys.specs.declared.pushed.Pushed.{Pushed}
use Rattle.pushed_keys.specs.declared.told.Mark.{Mark}
use Rattle.telling.specs.Among.{IsAmong, IsMarkOf, IsMarked}
use Rattle.telling.specs.Telling.{update_of, updates}
use Rattle.turn_laws.specs.Keys.{AreInOrder, change_for, is_in, keys_of, put_of}
use Rattle.turn_laws.specs.Written.{Has, numbered}
use Rattle.turn_laws.proofs.Sides.{Each, IsBelow, alike, unlike}

-- ---- ids

abbrev numbered_update : Pushed → ℕ → ℕ × (List ℕ × Change) → Message
numbered_update table last n = update_of table ((last + n.0) % 2 ^ 32) n.1.0 n.1.1

numbered_from : (table : Pushed) (last x k : ℕ) (cs : List (List ℕ × Change))
    → (x + 1) % 2 ^ 32 ≡ (last + k) % 2 ^ 32
    → updates table x cs ≡ map (numbered_update table last) (enumerate_from k cs)
numbered_from table last x k [] e = refl
numbered_from table last x k (c ∷ cs) e =
    let next : (next_id x + 1) % 2 ^ 32 ≡ (last + (k + 1)) % 2 ^ 32 =
    ap (λ (n : ℕ). (n + 1) % 2 ^ 32) e ∙ mod-add-mod (last + k) (2 ^ 32) 1
    ∙ ap (λ (n : ℕ). n % 2 ^ 32) (let s : (last + k) + 1 ≡ last + (k + 1) = omega arith in s) in
    λ i. update_of table (e i) c.0 c.1 ∷ numbered_from table last (next_id x) (k + 1) cs next i

pub are_numbered : (table : Pushed) (last : ℕ) (cs : List (List ℕ × Change))
    → updates table last cs ≡ numbered table last cs
are_numbered table last cs = numbered_from table last last 1 cs refl

pub length_updates : (table : Pushed) (last : ℕ) (cs : List (List ℕ × Change))
    → length (updates table last cs) ≡ length cs
length_updates table last [] = refl
length_updates table last (c ∷ cs) = ap suc (length_updates table (next_id last) cs)

-- ---- among

later : {A : Type 0} (x y : A) (xs : List A) → Contains xs y → Contains (x ∷ xs) y
later x y xs h = (suc h.0, omega (arith, h.1), h.2)

-- a change of a key is among the updates
pub has_change : (table : Pushed) (last : ℕ) (cs : List (List ℕ × Change)) (key : List ℕ)
    (change : Change) → change_for key cs ≡ Some change
    → Has (updates table last cs) table key change
has_change table last [] key change e = absurd (cc e)
has_change table last (c ∷ cs) key change e =
    by (bytes_eq key c.0) refl e (λ more. has_change table (next_id last) cs key change more)
  where
    by : (b : Bool) → bytes_eq key c.0 ≡ b
        → cond b (Some c.1) (change_for key cs) ≡ Some change
        → (change_for key cs ≡ Some change
        → Has (updates table (next_id last) cs) table key change)
        → Has (updates table last (c ∷ cs)) table key change
    by true is e rest =
        let same : key ≡ c.0 = alike key c.0 is in
        let what : c.1 ≡ change = cc e in (
          next_id last,
          (0, omega arith, λ i. update_of table (next_id last) (sym same i) (what i)),
        )
    by false is e rest =
        let more = rest e in
        (more.0, later _ _ _ more.1)

pub among_in : (key : List ℕ) (set : List (List ℕ)) → IsAmong key set → is_in key set ≡ true
among_in key [] h = absurd h
among_in key (other ∷ set) (inl same) =
    ap (λ (b : Bool). b || is_in key set) ((bytes_eq-Decides key other).1 (sym same))
among_in key (other ∷ set) (inr h) = by (bytes_eq key other) (among_in key set h)
  where
    by : (b : Bool) → is_in key set ≡ true → (b || is_in key set) ≡ true
    by true e = refl
    by false e = e

pub in_among : (key : List ℕ) (set : List (List ℕ)) → is_in key set ≡ true → IsAmong key set
in_among key [] e = absurd (cc e)
in_among key (other ∷ set) e = by (bytes_eq key other) refl e (λ more. in_among key set more)
  where
    by : (b : Bool) → bytes_eq key other ≡ b → (b || is_in key set) ≡ true
        → (is_in key set ≡ true → IsAmong key set) → IsAmong key (other ∷ set)
    by true is e rest = inl (sym (alike key other is))
    by false is e rest = inr (rest e)

pub not_among : (key : List ℕ) (set : List (List ℕ)) → (IsAmong key set → ⊥)
    → is_in key set ≡ false
not_among key set h =
    elim (cases_Bool (is_in key set)) [
      | inl is ↦ absurd (h (in_among key set is))
      | inr isnt ↦ isnt
    ]

of_each : (P : List ℕ → Type 0) (key : List ℕ) (put : ℕ) (marks : List Mark)
    → Each P (keys_of marks) → IsMarkOf marks key put → P key
of_each P key put [] h there = absurd there
of_each P key put (mark ∷ marks) h (inl is) = subst P is.0 h.0
of_each P key put (mark ∷ marks) h (inr more) = of_each P key put marks h.1 more

-- in order, a mark of a key is the key's mark
pub mark_put : (key : List ℕ) (put : ℕ) (marks : List Mark) → AreInOrder (keys_of marks)
    → IsMarkOf marks key put → put_of key marks ≡ Some put
unfolding IsStrictlySortedBy
mark_put key put [] h there = absurd there
mark_put key put (mark ∷ marks) h (inl is) =
    ap (λ (b : Bool). cond b (Some mark.put) (put_of key marks))
    ((bytes_eq-Decides key mark.key).1 (sym is.0)) ∙ ap Some is.1
mark_put key put (mark ∷ marks) h (inr more) =
    by (bytes_eq key mark.key) refl (mark_put key put marks h.1 more)
  where
    by : (b : Bool) → bytes_eq key mark.key ≡ b → put_of key marks ≡ Some put
        → cond b (Some mark.put) (put_of key marks) ≡ Some put
    by true is e =
        let same : key ≡ mark.key = alike key mark.key is in
        let below : IsBelow mark.key key = of_each (IsBelow mark.key) key put marks h.0 more in
        let no : bytes_eq mark.key key ≡ false = unlike mark.key key below in
        let yes : bytes_eq mark.key key ≡ true = (bytes_eq-Decides mark.key key).1 (sym same) in
        absurd (cc)
    by false is e = e

pub put_mark : (key : List ℕ) (put : ℕ) (marks : List Mark) → put_of key marks ≡ Some put
    → IsMarkOf marks key put
put_mark key put [] e = absurd (cc e)
put_mark key put (mark ∷ marks) e =
    by (bytes_eq key mark.key) refl e (λ more. put_mark key put marks more)
  where
    by : (b : Bool) → bytes_eq key mark.key ≡ b
        → cond b (Some mark.put) (put_of key marks) ≡ Some put
        → (put_of key marks ≡ Some put → IsMarkOf marks key put)
        → IsMarkOf (mark ∷ marks) key put
    by true is e rest = inl (sym (alike key mark.key is), cc e)
    by false is e rest = inr (rest e)

pub marked_put : (table : Pushed) (now : ℕ) (key : List ℕ) (marks : List Mark)
    → IsMarked table now key marks
    → (put : ℕ) × IsMarkOf marks key put × (is_told table now put ≡ true)
marked_put table now key [] h = absurd h
marked_put table now key (mark ∷ marks) (inl h) = (mark.put, inl (h.0, refl), h.1)
marked_put table now key (mark ∷ marks) (inr h) =
    let more = marked_put table now key marks h in
    (more.0, inr more.1, more.2)

-- ---- the rule for one key

-- asked for all, each key of the set is put
pub put_anew : (table : Pushed) (turn : Turn) (put : Option ℕ) → turn.anew ≡ true
    → change_of table turn true put ≡ Some Put
unfolding change_of
put_anew table turn None anew = refl
put_anew table turn (Some put) anew =
    ap (λ (b : Bool). then_some (b || is_due table turn.now put) Put) anew

-- so is one that was never put
pub put_new : (table : Pushed) (turn : Turn) → change_of table turn true None ≡ Some Put
unfolding change_of
put_new table turn = refl

-- and one that is due
pub put_due : (table : Pushed) (turn : Turn) (put : ℕ)
    → table.life ≤ 2 * (turn.now - put + REFRESH_AHEAD)
    → change_of table turn true (Some put) ≡ Some Put
unfolding change_of
put_due table turn put due =
    let is : is_due table turn.now put ≡ true = grind (arith, nat_tests) in
    by turn.anew (is_due table turn.now put) is
  where
    by : (a b : Bool) → b ≡ true → then_some (a || b) Put ≡ Some Put
    by true b e = refl
    by false b e = ap (λ (x : Bool). then_some x Put) e

-- one that left is taken away
pub taken : (table : Pushed) (turn : Turn) (put : ℕ) → table.holds ≡ false
    → is_told table turn.now put ≡ true
    → change_of table turn false (Some put) ≡ Some TakeAway
unfolding change_of
taken table turn put loose told =
    λ i. then_some (not (loose i) && told i) TakeAway

-- and has no mark
pub unmarked : (table : Pushed) (turn : Turn) (put : Option ℕ) → table.holds ≡ false
    → put_after table turn false put ≡ None
unfolding put_after
unmarked table turn None loose =
    ap (λ (b : Bool). cond {A = Option ℕ} (b && false) None None) loose
unmarked table turn (Some put) loose =
    ap (λ (b : Bool). cond {A = Option ℕ} (b && is_told table turn.now put) (Some put) None) loose

-- a key of the set was put, now or so late that it isn't due
pub fresh : (table : Pushed) (turn : Turn) (put : Option ℕ) → (at : ℕ)
    × (put_after table turn true put ≡ Some at)
    × ((at ≡ turn.now) ⊎ (2 * (turn.now - at + REFRESH_AHEAD) < table.life))
unfolding put_after
fresh table turn None = (turn.now, refl, inl refl)
fresh table turn (Some put) =
    elim (cases_Bool (is_written table turn (Some put))) [
      | inl is ↦ (turn.now, rw is refl, inl refl)
      | inr isnt ↦ (
        put,
        rw isnt refl,
        inr (early (undue turn.anew
            (is_due table turn.now put) isnt)),
      )
    ]
  where
    undue : (a b : Bool) → (a || b) ≡ false → b ≡ false
    undue true b is = absurd (cc is)
    undue false b is = is

    early : is_due table turn.now put ≡ false
        → 2 * (turn.now - put + REFRESH_AHEAD) < table.life
    early e = grind (arith, nat_tests)
