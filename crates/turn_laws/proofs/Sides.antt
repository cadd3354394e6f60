-- What stands side by side, key by key.
use Rattle.std.proofs.Common.{◌≡◌, ℕ, Bool, true, false, cond, ◌&&◌, ◌||◌, List, [], ◌∷◌, ◌++◌}
use Rattle.std.proofs.Common.{map, Option, None, Some, refl, sym, ap, subst, ◌∙◌}
use Rattle.std.specs.Prelude.{option_to_list}
use Rattle.std.specs.Cmp.Lexicographic.{slice_cmp}
use Rattle.std.specs.List.Sorted.{IsStrictlySortedBy}
use Rattle.std.specs.Option.{option_map}
use Rattle.std.specs.Ordering.{nat_cmp}
use Rattle.std.specs.Str.{bytes_eq}
use Rattle.std.specs.declared.cmp.Ordering.{Ordering}
use Rattle.std.specs.declared.cmp.Ordering.TheVariants.{Less, Equal, Greater}
use Rattle.std.proofs.lemmas.Map.Lookups.{exact_bytes}
use Rattle.pushed_keys.specs.Rules.{change_of, put_after}
use Rattle.pushed_keys.specs.Stands.{Stand, by_order, in_set, only_told, placed, stands}
use Rattle.pushed_keys.specs.Turns.{changes, marks_after}
use Rattle.pushed_keys.specs.declared.change.Change.{Change}
use Rattle.pushed_keys.specs.declared.change.Turn.{Turn}
use Rattle.pushed_keys.specs.declared.pushed.Pushed.{Pushed}
use Rattle.pushed_keys.specs.declared.told.Mark.{Mark}
pub use Rattle.pushed_keys.proofs.Order.{Each, IsBelow, alike, unlike}
use Rattle.pushed_keys.proofs.Order.{below_above, each_above, not_in}
use Rattle.pushed_keys.proofs.Turned.{no_change}
pub use Rattle.telling.proofs.InOrder.{each_marked, each_stand, order_marked, order_stands}
use Rattle.telling.proofs.InOrder.{stand_keys}
use Rattle.turn_laws.specs.Keys.{AreInOrder, change_for, is_in, keys_of, put_of}

-- ---- keys in order

pub not_put : (key : List ℕ) (marks : List Mark) → Each (IsBelow key) (keys_of marks)
    → put_of key marks ≡ None
not_put key [] h = refl
not_put key (mark ∷ marks) h = rw (unlike key mark.key h.0) (not_put key marks h.1)

pub not_changed : (key : List ℕ) (cs : List (List ℕ × Change))
    → Each (IsBelow key) (map (λ c. c.0) cs) → change_for key cs ≡ None
not_changed key [] h = refl
not_changed key (c ∷ cs) h = rw (unlike key c.0 h.0) (not_changed key cs h.1)

-- ---- what stands of one key

-- whether the set has a key, and when it was put
abbrev pub at_key : List ℕ → List Stand → Bool × Option ℕ
at_key key [] = (false, None)
at_key key (stand ∷ standing) =
    cond (bytes_eq key stand.key) (stand.is_in, stand.put) (at_key key standing)

out_side : (b i : Bool) (put later : Option ℕ) (rest : Bool × Option ℕ) → rest ≡ (i, later)
    → (b ≡ true → i ≡ false) → cond b (false, put) rest ≡ (i, cond b put later)
out_side true i put later rest e t = ap (λ (x : Bool). (x, put)) (sym (t refl))
out_side false i put later rest e t = e

in_side : (b i : Bool) (put later all : Option ℕ) (rest : Bool × Option ℕ) → rest ≡ (i, later)
    → (b ≡ true → put ≡ all) → (b ≡ false → later ≡ all)
    → cond b (true, put) rest ≡ (b || i, all)
in_side true i put later all rest e t f = ap (λ (x : Option ℕ). (true, x)) (t refl)
in_side false i put later all rest e t f = e ∙ ap (λ (x : Option ℕ). (i, x)) (f refl)

told_side : (key : List ℕ) (marks : List Mark)
    → at_key key (map only_told marks) ≡ (false, put_of key marks)
told_side key [] = refl
told_side key (mark ∷ marks) =
    out_side (bytes_eq key mark.key) false (Some mark.put) (put_of key marks)
    (at_key key (map only_told marks)) (told_side key marks) (λ _. refl)

placed_side : (key first : List ℕ) (set : List (List ℕ)) (marks : List Mark)
    → Each (IsBelow first) set
    → ((ms : List Mark) → AreInOrder (keys_of ms)
    → at_key key (stands set ms) ≡ (is_in key set, put_of key ms))
    → AreInOrder (keys_of marks)
    → at_key key (placed first (stands set) marks)
    ≡ (bytes_eq key first || is_in key set, put_of key marks)
unfolding IsStrictlySortedBy
placed_side key first set [] below f h =
    in_side (bytes_eq key first) (is_in key set) None None None (at_key key (stands set []))
    (f [] tt) (λ _. refl) (λ _. refl)
placed_side key first set (mark ∷ marks) below f h =
    by (slice_cmp nat_cmp first mark.key) refl (placed_side key first set marks below f h.1)
  where
    all : Option ℕ
    all = put_of key (mark ∷ marks)

    by : (o : Ordering) → slice_cmp nat_cmp first mark.key ≡ o
        → at_key key (placed first (stands set) marks)
        ≡ (bytes_eq key first || is_in key set, put_of key marks)
        → at_key key (by_order o (in_set first None ∷ stands set (mark ∷ marks))
        (in_set first (Some mark.put) ∷ stands set marks)
        (only_told mark ∷ placed first (stands set) marks))
        ≡ (bytes_eq key first || is_in key set, put_of key (mark ∷ marks))
    by Less is later =
        in_side (bytes_eq key first) (is_in key set) None (put_of key (mark ∷ marks))
        (put_of key (mark ∷ marks)) (at_key key (stands set (mark ∷ marks))) (f (mark ∷ marks) h)
        (λ same. sym (not_put key (mark ∷ marks)
        (subst (λ (k : List ℕ). Each (IsBelow k) (mark.key ∷ keys_of marks))
        (sym (alike key first same)) (is, each_above first mark.key (keys_of marks) is h.0))))
        (λ _. refl)
    by Equal is later =
        let same : bytes_eq key first ≡ bytes_eq key mark.key =
        ap (bytes_eq key) (exact_bytes first mark.key is) in
        in_side (bytes_eq key first) (is_in key set) (Some mark.put) (put_of key marks)
        (put_of key (mark ∷ marks)) (at_key key (stands set marks)) (f marks h.1)
        (λ e. ap (λ (b : Bool). cond b (Some mark.put) (put_of key marks)) (sym e ∙ same))
        (λ e. ap (λ (b : Bool). cond b (Some mark.put) (put_of key marks)) (sym e ∙ same))
    by Greater is later =
        let under : IsBelow mark.key first = below_above first mark.key is in
        out_side (bytes_eq key mark.key) (bytes_eq key first || is_in key set) (Some mark.put)
        (put_of key marks) (at_key key (placed first (stands set) marks)) later
        (λ same. not_in key (first ∷ set)
        (subst (λ (k : List ℕ). Each (IsBelow k) (first ∷ set)) (sym (alike key mark.key same))
        (under, each_above mark.key first set under below)))

-- of a key stand whether the set has it, and when it was put
pub sides : (key : List ℕ) (set : List (List ℕ)) (marks : List Mark) → AreInOrder set
    → AreInOrder (keys_of marks)
    → at_key key (stands set marks) ≡ (is_in key set, put_of key marks)
unfolding stands IsStrictlySortedBy
sides key [] marks s h = told_side key marks
sides key (first ∷ set) marks s h =
    placed_side key first set marks s.0 (λ ms m. sides key set ms s.1 m) h

-- ---- changes

each_change : (P : List ℕ → Type 0) (key : List ℕ) (o : Option Change)
    (cs : List (List ℕ × Change)) → P key → Each P (map (λ c. c.0) cs)
    → Each P (map (λ c. c.0) (option_to_list (option_map (λ change. (key, change)) o) ++ cs))
each_change P key None cs k h = h
each_change P key (Some change) cs k h = (k, h)

-- what holds of each key that stands holds of each that is changed
pub each_changed : (P : List ℕ → Type 0) (table : Pushed) (turn : Turn) (standing : List Stand)
    → Each P (stand_keys standing) → Each P (map (λ c. c.0) (changes table turn standing))
each_changed P table turn [] h = tt
each_changed P table turn (s ∷ standing) h =
    each_change P s.key (change_of table turn s.is_in s.put) (changes table turn standing) h.0
    (each_changed P table turn standing h.1)

order_change : (key : List ℕ) (o : Option Change) (cs : List (List ℕ × Change))
    → Each (IsBelow key) (map (λ c. c.0) cs) → AreInOrder (map (λ c. c.0) cs)
    → AreInOrder
    (map (λ c. c.0) (option_to_list (option_map (λ change. (key, change)) o) ++ cs))
unfolding IsStrictlySortedBy
order_change key None cs k h = h
order_change key (Some change) cs k h = (k, h)

-- keys are changed in order
pub order_changed : (table : Pushed) (turn : Turn) (standing : List Stand)
    → AreInOrder (stand_keys standing)
    → AreInOrder (map (λ c. c.0) (changes table turn standing))
unfolding IsStrictlySortedBy
order_changed table turn [] h = tt
order_changed table turn (s ∷ standing) h =
    order_change s.key (change_of table turn s.is_in s.put) (changes table turn standing)
    (each_changed (IsBelow s.key) table turn standing h.0)
    (order_changed table turn standing h.1)

change_here : (key own : List ℕ) (o : Option Change) (cs : List (List ℕ × Change)) (b : Bool)
    → bytes_eq key own ≡ b → (b ≡ true → change_for key cs ≡ None)
    → change_for key (option_to_list (option_map (λ change. (own, change)) o) ++ cs)
    ≡ cond b o (change_for key cs)
change_here key own None cs true e h = h refl
change_here key own None cs false e h = refl
change_here key own (Some change) cs b e h =
    ap (λ (x : Bool). cond x (Some change) (change_for key cs)) e

-- a key is changed as it stands
pub changed_at : (key : List ℕ) (table : Pushed) (turn : Turn) (standing : List Stand)
    → AreInOrder (stand_keys standing)
    → change_for key (changes table turn standing)
    ≡ change_of table turn (at_key key standing).0 (at_key key standing).1
unfolding IsStrictlySortedBy
changed_at key table turn [] h = sym (no_change table turn)
changed_at key table turn (s ∷ standing) h =
    change_here key s.key (change_of table turn s.is_in s.put) (changes table turn standing)
    (bytes_eq key s.key) refl none
    ∙ by (bytes_eq key s.key) (changed_at key table turn standing h.1)
  where
    none : bytes_eq key s.key ≡ true → change_for key (changes table turn standing) ≡ None
    none same = not_changed key (changes table turn standing)
        (subst (λ (k : List ℕ). Each (IsBelow k) (map (λ c. c.0) (changes table turn standing)))
        (sym (alike key s.key same)) (each_changed (IsBelow s.key) table turn standing h.0))

    by : (b : Bool) → change_for key (changes table turn standing)
        ≡ change_of table turn (at_key key standing).0 (at_key key standing).1
        → cond b (change_of table turn s.is_in s.put)
        (change_for key (changes table turn standing))
        ≡ change_of table turn (cond b (s.is_in, s.put) (at_key key standing)).0
        (cond b (s.is_in, s.put) (at_key key standing)).1
    by true later = refl
    by false later = later

-- ---- marks

put_here : (key own : List ℕ) (side : Bool) (o : Option ℕ) (ms : List Mark) (b : Bool)
    → bytes_eq key own ≡ b → (b ≡ true → put_of key ms ≡ None)
    → put_of key (option_to_list
    (option_map (λ put. record { key = own; put = put; is_in = side }) o) ++ ms)
    ≡ cond b o (put_of key ms)
put_here key own side None ms true e h = h refl
put_here key own side None ms false e h = refl
put_here key own side (Some put) ms b e h =
    ap (λ (x : Bool). cond x (Some put) (put_of key ms)) e

no_put : (table : Pushed) (turn : Turn) → put_after table turn false None ≡ None
unfolding put_after
no_put table turn = by table.holds
  where
    by : (holds : Bool) → cond {A = Option ℕ} (holds && false) None None ≡ None
    by true = refl
    by false = refl

-- a key's mark behind a turn is as it stands
pub marked_at : (key : List ℕ) (table : Pushed) (turn : Turn) (standing : List Stand)
    → AreInOrder (stand_keys standing)
    → put_of key (marks_after table turn standing)
    ≡ put_after table turn (at_key key standing).0 (at_key key standing).1
unfolding IsStrictlySortedBy
marked_at key table turn [] h = sym (no_put table turn)
marked_at key table turn (s ∷ standing) h =
    put_here key s.key s.is_in (put_after table turn s.is_in s.put)
    (marks_after table turn standing) (bytes_eq key s.key) refl none
    ∙ by (bytes_eq key s.key) (marked_at key table turn standing h.1)
  where
    none : bytes_eq key s.key ≡ true → put_of key (marks_after table turn standing) ≡ None
    none same = not_put key (marks_after table turn standing)
        (subst (λ (k : List ℕ). Each (IsBelow k) (keys_of (marks_after table turn standing)))
        (sym (alike key s.key same)) (each_marked (IsBelow s.key) table turn standing h.0))

    by : (b : Bool) → put_of key (marks_after table turn standing)
        ≡ put_after table turn (at_key key standing).0 (at_key key standing).1
        → cond b (put_after table turn s.is_in s.put) (put_of key (marks_after table turn standing))
        ≡ put_after table turn (cond b (s.is_in, s.put) (at_key key standing)).0
        (cond b (s.is_in, s.put) (at_key key standing)).1
    by true later = refl
    by false later = later
