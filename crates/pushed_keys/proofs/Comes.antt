-- What moved beside marks, against the set that it comes to.
use Rattle.std.proofs.Common.{◌≡◌, ℕ, Bool, true, false, cond, ◌||◌, List, [], ◌∷◌}
use Rattle.std.proofs.Common.{refl, sym, ap, subst, ◌∙◌}
use Rattle.std.specs.Cmp.Lexicographic.{slice_cmp}
use Rattle.std.specs.List.Sorted.{IsStrictlySortedBy}
use Rattle.std.specs.Ordering.{nat_cmp}
use Rattle.std.specs.Prelude.{filter, if◌then◌else◌}
use Rattle.std.specs.Str.{bytes_eq}
use Rattle.std.specs.declared.cmp.Ordering.{Ordering}
use Rattle.std.specs.declared.cmp.Ordering.TheVariants.{Less, Equal, Greater}
use Rattle.std.proofs.lemmas.Map.Lookups.{exact_bytes}
use Rattle.pushed_keys.specs.Moves.{AreInOrder, is_in, marked, moved_keys, said_of, set_of}
use Rattle.pushed_keys.specs.Stands.{by_order}
use Rattle.pushed_keys.specs.declared.moved.Moved.{Moved}
use Rattle.pushed_keys.specs.declared.told.Mark.{Mark}
use Rattle.pushed_keys.proofs.Order.{Each, IsBelow, alike, below_above, each_above, like, not_in}
use Rattle.pushed_keys.proofs.Order.{unlike, unlike_above}

-- ---- the set that moves come to

-- with a key that came, and without one that left
abbrev pub kept : Bool → List ℕ → List (List ℕ) → List (List ℕ)
kept true key keys = key ∷ keys
kept false key keys = keys

abbrev pub set_among : Moved → (List Mark → List (List ℕ)) → List Mark → List (List ℕ)
set_among move behind [] = kept move.is_in move.key.now (behind [])
set_among move behind (mark ∷ marks) =
    by_order (slice_cmp nat_cmp move.key.now mark.key)
    (kept move.is_in move.key.now (behind (mark ∷ marks)))
    (kept move.is_in move.key.now (behind marks))
    (kept mark.is_in mark.key (set_among move behind marks))

abbrev pub set_by : List Moved → List Mark → List (List ℕ)
set_by [] marks = set_of marks
set_by (move ∷ moves) marks = set_among move (set_by moves) marks

-- the set of marks, by the first
pub set_first : (mark : Mark) (marks : List Mark)
    → set_of (mark ∷ marks) ≡ kept mark.is_in mark.key (set_of marks)
set_first mark marks = by mark.is_in
  where
    by : (b : Bool) → marked (cond b (mark ∷ filter (λ m. m.is_in) marks)
        (filter (λ m. m.is_in) marks)) ≡ kept b mark.key (set_of marks)
    by true = refl
    by false = refl

-- ---- each of its keys

each_kept : (P : List ℕ → Type 0) (b : Bool) (key : List ℕ) (keys : List (List ℕ)) → P key
    → Each P keys → Each P (kept b key keys)
each_kept P true key keys k h = (k, h)
each_kept P false key keys k h = h

each_of_set : (P : List ℕ → Type 0) (marks : List Mark) → Each P (marked marks)
    → Each P (set_of marks)
each_of_set P [] h = tt
each_of_set P (mark ∷ marks) h =
    subst (Each P) (sym (set_first mark marks))
    (each_kept P mark.is_in mark.key (set_of marks) h.0 (each_of_set P marks h.1))

each_among : (P : List ℕ → Type 0) (move : Moved) (behind : List Mark → List (List ℕ))
    → P move.key.now → ((marks : List Mark) → Each P (marked marks) → Each P (behind marks))
    → (marks : List Mark) → Each P (marked marks) → Each P (set_among move behind marks)
each_among P move behind k f [] h = each_kept P move.is_in move.key.now (behind []) k (f [] h)
each_among P move behind k f (mark ∷ marks) h =
    by (slice_cmp nat_cmp move.key.now mark.key) (each_among P move behind k f marks h.1)
  where
    by : (o : Ordering) → Each P (set_among move behind marks) → Each P (by_order o
        (kept move.is_in move.key.now (behind (mark ∷ marks)))
        (kept move.is_in move.key.now (behind marks))
        (kept mark.is_in mark.key (set_among move behind marks)))
    by Less rest =
        each_kept P move.is_in move.key.now (behind (mark ∷ marks)) k (f (mark ∷ marks) h)
    by Equal rest = each_kept P move.is_in move.key.now (behind marks) k (f marks h.1)
    by Greater rest = each_kept P mark.is_in mark.key (set_among move behind marks) h.0 rest

pub each_set : (P : List ℕ → Type 0) (moves : List Moved) → Each P (moved_keys moves)
    → (marks : List Mark) → Each P (marked marks) → Each P (set_by moves marks)
each_set P [] m marks h = each_of_set P marks h
each_set P (move ∷ moves) m marks h =
    each_among P move (set_by moves) m.0 (λ ms h. each_set P moves m.1 ms h) marks h

-- ---- its order

order_kept : (b : Bool) (key : List ℕ) (keys : List (List ℕ)) → Each (IsBelow key) keys
    → AreInOrder keys → AreInOrder (kept b key keys)
unfolding IsStrictlySortedBy
order_kept true key keys below h = (below, h)
order_kept false key keys below h = h

-- the keys of marks behind one that a key is below, the same, or above
behind_less : (key : List ℕ) (mark : Mark) (marks : List Mark) → AreInOrder (marked (mark ∷ marks))
    → slice_cmp nat_cmp key mark.key ≡ Less → Each (IsBelow key) (marked (mark ∷ marks))
unfolding IsStrictlySortedBy
behind_less key mark marks h is = (is, each_above key mark.key (marked marks) is h.0)

pub behind_same : (key : List ℕ) (mark : Mark) (marks : List Mark)
    → AreInOrder (marked (mark ∷ marks)) → slice_cmp nat_cmp key mark.key ≡ Equal
    → Each (IsBelow key) (marked marks)
unfolding IsStrictlySortedBy
behind_same key mark marks h is =
    subst (λ (k : List ℕ). Each (IsBelow k) (marked marks)) (sym (exact_bytes key mark.key is)) h.0

-- the keys that stand behind a mark below the moves
pub each_behind : (move : Moved) (moves : List Moved)
    → Each (IsBelow move.key.now) (moved_keys moves) → (mark : Mark) (marks : List Mark)
    → Each (IsBelow mark.key) (marked marks) → IsBelow mark.key move.key.now
    → Each (IsBelow mark.key) (set_among move (set_by moves) marks)
each_behind move moves m mark marks h under =
    each_set (IsBelow mark.key) (move ∷ moves)
    (under, each_above mark.key move.key.now (moved_keys moves) under m) marks h

order_of_set : (marks : List Mark) → AreInOrder (marked marks) → AreInOrder (set_of marks)
unfolding IsStrictlySortedBy
order_of_set [] h = tt
order_of_set (mark ∷ marks) h =
    subst AreInOrder (sym (set_first mark marks))
    (order_kept mark.is_in mark.key (set_of marks)
    (each_of_set (IsBelow mark.key) marks h.0) (order_of_set marks h.1))

pub order_set : (moves : List Moved) → AreInOrder (moved_keys moves) → (marks : List Mark)
    → AreInOrder (marked marks) → AreInOrder (set_by moves marks)
unfolding IsStrictlySortedBy
order_set [] m marks h = order_of_set marks h
order_set (move ∷ moves) m [] h =
    order_kept move.is_in move.key.now (set_by moves [])
    (each_set (IsBelow move.key.now) moves m.0 [] tt) (order_set moves m.1 [] h)
order_set (move ∷ moves) m (mark ∷ marks) h =
    by (slice_cmp nat_cmp move.key.now mark.key) refl (λ ms o. order_set moves m.1 ms o)
    (order_set (move ∷ moves) m marks h.1)
  where
    by : (o : Ordering) → slice_cmp nat_cmp move.key.now mark.key ≡ o
        → ((ms : List Mark) → AreInOrder (marked ms) → AreInOrder (set_by moves ms))
        → AreInOrder (set_among move (set_by moves) marks) → AreInOrder (by_order o
        (kept move.is_in move.key.now (set_by moves (mark ∷ marks)))
        (kept move.is_in move.key.now (set_by moves marks))
        (kept mark.is_in mark.key (set_among move (set_by moves) marks)))
    by Less is f rest =
        order_kept move.is_in move.key.now (set_by moves (mark ∷ marks))
        (each_set (IsBelow move.key.now) moves m.0 (mark ∷ marks)
        (behind_less move.key.now mark marks h is)) (f (mark ∷ marks) h)
    by Equal is f rest =
        order_kept move.is_in move.key.now (set_by moves marks)
        (each_set (IsBelow move.key.now) moves m.0 marks (behind_same move.key.now mark marks h is))
        (f marks h.1)
    by Greater is f rest =
        order_kept mark.is_in mark.key (set_among move (set_by moves) marks)
        (each_behind move moves m.0 mark marks h.0 (below_above move.key.now mark.key is)) rest

-- ---- which keys it has

said_none : (key : List ℕ) (moves : List Moved) (was : Bool)
    → Each (IsBelow key) (moved_keys moves) → said_of key moves was ≡ was
said_none key [] was h = refl
said_none key (move ∷ moves) was h =
    ap (λ (b : Bool). said_of key moves (if b then move.is_in else was))
    (unlike key move.key.now h.0) ∙ said_none key moves was h.1

kept_own : (b : Bool) (key : List ℕ) (keys : List (List ℕ)) → Each (IsBelow key) keys
    → is_in key (kept b key keys) ≡ b
kept_own true key keys h = ap (λ (b : Bool). b || is_in key keys) (like key key refl)
kept_own false key keys h = not_in key keys h

kept_other : (b : Bool) (key own : List ℕ) (keys : List (List ℕ)) → bytes_eq key own ≡ false
    → is_in key (kept b own keys) ≡ is_in key keys
kept_other true key own keys isnt = ap (λ (b : Bool). b || is_in key keys) isnt
kept_other false key own keys isnt = refl

-- the key that moved first
own_in : (move : Moved) (moves : List Moved) → Each (IsBelow move.key.now) (moved_keys moves)
    → (marks : List Mark) → AreInOrder (marked marks)
    → is_in move.key.now (set_among move (set_by moves) marks) ≡ move.is_in
unfolding IsStrictlySortedBy
own_in move moves m [] h =
    kept_own move.is_in move.key.now (set_by moves [])
    (each_set (IsBelow move.key.now) moves m [] tt)
own_in move moves m (mark ∷ marks) h =
    by (slice_cmp nat_cmp move.key.now mark.key) refl (own_in move moves m marks h.1)
  where
    by : (o : Ordering) → slice_cmp nat_cmp move.key.now mark.key ≡ o
        → is_in move.key.now (set_among move (set_by moves) marks) ≡ move.is_in
        → is_in move.key.now (by_order o
        (kept move.is_in move.key.now (set_by moves (mark ∷ marks)))
        (kept move.is_in move.key.now (set_by moves marks))
        (kept mark.is_in mark.key (set_among move (set_by moves) marks))) ≡ move.is_in
    by Less is rest =
        kept_own move.is_in move.key.now (set_by moves (mark ∷ marks))
        (each_set (IsBelow move.key.now) moves m (mark ∷ marks)
        (behind_less move.key.now mark marks h is))
    by Equal is rest =
        kept_own move.is_in move.key.now (set_by moves marks)
        (each_set (IsBelow move.key.now) moves m marks (behind_same move.key.now mark marks h is))
    by Greater is rest =
        kept_other mark.is_in move.key.now mark.key (set_among move (set_by moves) marks)
        (unlike_above move.key.now mark.key is) ∙ rest

own_kept : (b : Bool) {key : List ℕ} (own : List ℕ) (keys : List (List ℕ)) → key ≡ own
    → Each (IsBelow key) keys → is_in key (kept b own keys) ≡ b
own_kept b {key} own keys same h =
    subst (λ (k : List ℕ). is_in key (kept b k keys) ≡ b) same (kept_own b key keys h)

-- another key
other_in : (key : List ℕ) (move : Moved) (moves : List Moved)
    → Each (IsBelow move.key.now) (moved_keys moves) → bytes_eq key move.key.now ≡ false
    → ((marks : List Mark) → AreInOrder (marked marks)
    → is_in key (set_by moves marks) ≡ said_of key moves (is_in key (set_of marks)))
    → (marks : List Mark) → AreInOrder (marked marks)
    → is_in key (set_among move (set_by moves) marks)
    ≡ said_of key moves (is_in key (set_of marks))
unfolding IsStrictlySortedBy
other_in key move moves m isnt f [] h =
    kept_other move.is_in key move.key.now (set_by moves []) isnt ∙ f [] h
other_in key move moves m isnt f (mark ∷ marks) h =
    by (slice_cmp nat_cmp move.key.now mark.key) refl
    (other_in key move moves m isnt f marks h.1)
  where
    -- the key of the mark, which stands first where it is in the set
    own : (side : Bool) → key ≡ mark.key → IsBelow mark.key move.key.now
        → is_in key (kept side mark.key (set_among move (set_by moves) marks))
        ≡ said_of key moves (is_in key (kept side mark.key (set_of marks)))
    own side same under =
        let behind : Each (IsBelow key) (set_among move (set_by moves) marks) =
        subst (λ (k : List ℕ). Each (IsBelow k) (set_among move (set_by moves) marks)) (sym same)
        (each_behind move moves m mark marks h.0 under) in
        let rest : Each (IsBelow key) (set_of marks) =
        subst (λ (k : List ℕ). Each (IsBelow k) (set_of marks)) (sym same)
        (each_of_set (IsBelow mark.key) marks h.0) in
        let others : Each (IsBelow key) (moved_keys moves) =
        subst (λ (k : List ℕ). Each (IsBelow k) (moved_keys moves)) (sym same)
        (each_above mark.key move.key.now (moved_keys moves) under m) in
        own_kept side mark.key (set_among move (set_by moves) marks) same behind
        ∙ sym (said_none key moves (is_in key (kept side mark.key (set_of marks))) others
        ∙ own_kept side mark.key (set_of marks) same rest)

    above : (b : Bool) → bytes_eq key mark.key ≡ b → IsBelow mark.key move.key.now
        → is_in key (set_among move (set_by moves) marks)
        ≡ said_of key moves (is_in key (set_of marks))
        → is_in key (kept mark.is_in mark.key (set_among move (set_by moves) marks))
        ≡ said_of key moves (is_in key (kept mark.is_in mark.key (set_of marks)))
    above true is under rest = own mark.is_in (alike key mark.key is) under
    above false is under rest =
        kept_other mark.is_in key mark.key (set_among move (set_by moves) marks) is ∙ rest
        ∙ sym (ap (λ (b : Bool). said_of key moves b)
        (kept_other mark.is_in key mark.key (set_of marks) is))

    by : (o : Ordering) → slice_cmp nat_cmp move.key.now mark.key ≡ o
        → is_in key (set_among move (set_by moves) marks)
        ≡ said_of key moves (is_in key (set_of marks))
        → is_in key (by_order o
        (kept move.is_in move.key.now (set_by moves (mark ∷ marks)))
        (kept move.is_in move.key.now (set_by moves marks))
        (kept mark.is_in mark.key (set_among move (set_by moves) marks)))
        ≡ said_of key moves (is_in key (set_of (mark ∷ marks)))
    by Less is rest =
        kept_other move.is_in key move.key.now (set_by moves (mark ∷ marks)) isnt
        ∙ f (mark ∷ marks) h
    by Equal is rest =
        let apart : bytes_eq key mark.key ≡ false =
        subst (λ (k : List ℕ). bytes_eq key k ≡ false) (exact_bytes move.key.now mark.key is)
        isnt in
        kept_other move.is_in key move.key.now (set_by moves marks) isnt ∙ f marks h.1
        ∙ sym (ap (λ (keys : List (List ℕ)). said_of key moves (is_in key keys))
        (set_first mark marks) ∙ ap (λ (b : Bool). said_of key moves b)
        (kept_other mark.is_in key mark.key (set_of marks) apart))
    by Greater is rest =
        above (bytes_eq key mark.key) refl (below_above move.key.now mark.key is) rest
        ∙ sym (ap (λ (keys : List (List ℕ)). said_of key moves (is_in key keys))
        (set_first mark marks))

-- its keys are what the moves say
pub in_set_by : (key : List ℕ) (moves : List Moved) → AreInOrder (moved_keys moves)
    → (marks : List Mark) → AreInOrder (marked marks)
    → is_in key (set_by moves marks) ≡ said_of key moves (is_in key (set_of marks))
unfolding IsStrictlySortedBy
in_set_by key [] m marks h = refl
in_set_by key (move ∷ moves) m marks h =
    by (bytes_eq key move.key.now) refl (λ ms o. in_set_by key moves m.1 ms o)
  where
    by : (b : Bool) → bytes_eq key move.key.now ≡ b
        → ((ms : List Mark) → AreInOrder (marked ms)
        → is_in key (set_by moves ms) ≡ said_of key moves (is_in key (set_of ms)))
        → is_in key (set_among move (set_by moves) marks)
        ≡ said_of key moves (if b then move.is_in else is_in key (set_of marks))
    by true is f =
        let same : key ≡ move.key.now = alike key move.key.now is in
        subst (λ (k : List ℕ). is_in k (set_among move (set_by moves) marks)
        ≡ said_of k moves move.is_in) (sym same)
        (own_in move moves m.0 marks h ∙ sym (said_none move.key.now moves move.is_in m.0))
    by false is f = other_in key move moves m.0 is f marks h
