-- What stands beside marks by moves, and by the set that they come to.
use Rattle.std.proofs.Common.{◌≡◌, ℕ, Bool, true, false, List, [], ◌∷◌, ◌++◌}
use Rattle.std.proofs.Common.{map, Option, None, Some, refl, sym, ap, subst, ◌∙◌}
use Rattle.std.specs.Cmp.Lexicographic.{slice_cmp}
use Rattle.std.specs.List.{flat_map}
use Rattle.std.specs.List.Sorted.{IsStrictlySortedBy}
use Rattle.std.specs.Ordering.{nat_cmp}
use Rattle.std.specs.declared.cmp.Ordering.{Ordering}
use Rattle.std.specs.declared.cmp.Ordering.TheVariants.{Less, Equal, Greater}
use Rattle.std.proofs.lemmas.Map.Lookups.{exact_bytes}
use Rattle.pushed_keys.specs.Moves.{AreInOrder, BringsTo, marked, moved_among, moved_keys}
use Rattle.pushed_keys.specs.Moves.{moved_stands, moved_to, said_of, set_of, unmoved}
use Rattle.pushed_keys.specs.Stands.{Stand, by_order, in_set, only_told, placed, stands}
use Rattle.pushed_keys.specs.declared.moved.Moved.{Moved}
use Rattle.pushed_keys.specs.declared.told.Mark.{Mark}
use Rattle.pushed_keys.proofs.Comes.{each_set, in_set_by, kept, order_set, set_among, set_by}
use Rattle.pushed_keys.proofs.Comes.{behind_same, each_behind, set_first}
use Rattle.pushed_keys.proofs.Order.{Each, IsBelow, above_below, below_above, same_keys}
use Rattle.pushed_keys.proofs.Order.{with_itself}

-- a key that came or left
abbrev pub moving : List ℕ → Bool → Option ℕ → Stand
moving key is_in put = record { key = key; is_in = is_in; put = put }

-- of a key that is neither in the set nor told nothing is made
abbrev pub SkipsNone : {X : Type 0} → (Stand → List X) → Type 0
SkipsNone {X} f = (key : List ℕ) → f (moving key false None) ≡ []

-- a mark that is first in the set too
stands_same : (mark : Mark) (set : List (List ℕ)) (marks : List Mark)
    → stands (mark.key ∷ set) (mark ∷ marks) ≡ in_set mark.key (Some mark.put) ∷ stands set marks
unfolding stands
stands_same mark set marks =
    ap (λ order. by_order order (in_set mark.key None ∷ stands set (mark ∷ marks))
    (in_set mark.key (Some mark.put) ∷ stands set marks)
    (only_told mark ∷ placed mark.key (stands set) marks)) (with_itself mark.key)

-- a mark below the set
stands_above : (mark : Mark) (set : List (List ℕ)) (marks : List Mark)
    → Each (IsBelow mark.key) set
    → stands set (mark ∷ marks) ≡ only_told mark ∷ stands set marks
unfolding stands
stands_above mark [] marks h = refl
stands_above mark (key ∷ set) marks h =
    ap (λ order. by_order order (in_set key None ∷ stands set (mark ∷ marks))
    (in_set key (Some mark.put) ∷ stands set marks)
    (only_told mark ∷ placed key (stands set) marks)) (above_below mark.key key h.0)

-- a key that is first in the set, and above no mark
stands_none : (key : List ℕ) (set : List (List ℕ)) → stands (key ∷ set) []
    ≡ in_set key None ∷ stands set []
unfolding stands
stands_none key set = refl

stands_less : (key : List ℕ) (set : List (List ℕ)) (mark : Mark) (marks : List Mark)
    → slice_cmp nat_cmp key mark.key ≡ Less
    → stands (key ∷ set) (mark ∷ marks) ≡ in_set key None ∷ stands set (mark ∷ marks)
unfolding stands
stands_less key set mark marks is =
    ap (λ order. by_order order (in_set key None ∷ stands set (mark ∷ marks))
    (in_set key (Some mark.put) ∷ stands set marks)
    (only_told mark ∷ placed key (stands set) marks)) is

stands_equal : (key : List ℕ) (set : List (List ℕ)) (mark : Mark) (marks : List Mark)
    → slice_cmp nat_cmp key mark.key ≡ Equal
    → stands (key ∷ set) (mark ∷ marks) ≡ in_set key (Some mark.put) ∷ stands set marks
unfolding stands
stands_equal key set mark marks is =
    ap (λ order. by_order order (in_set key None ∷ stands set (mark ∷ marks))
    (in_set key (Some mark.put) ∷ stands set marks)
    (only_told mark ∷ placed key (stands set) marks)) is

-- a mark that didn't move, where it is first: it is in the set as it was
unmoved_first : (mark : Mark) (set : List (List ℕ)) (marks : List Mark)
    → Each (IsBelow mark.key) set
    → stands (kept mark.is_in mark.key set) (mark ∷ marks) ≡ unmoved mark ∷ stands set marks
unmoved_first mark set marks below = by mark.is_in
  where
    by : (b : Bool) → stands (kept b mark.key set) (mark ∷ marks)
        ≡ moving mark.key b (Some mark.put) ∷ stands set marks
    by true = stands_same mark set marks
    by false = stands_above mark set marks below

none_moved : (marks : List Mark) → AreInOrder (marked marks)
    → map unmoved marks ≡ stands (set_of marks) marks
unfolding stands IsStrictlySortedBy
none_moved [] h = refl
none_moved (mark ∷ marks) h =
    ap (λ (ss : List Stand). unmoved mark ∷ ss) (none_moved marks h.1)
    ∙ sym (ap (λ (keys : List (List ℕ)). stands keys (mark ∷ marks)) (set_first mark marks)
    ∙ unmoved_first mark (set_of marks) marks (each_set (IsBelow mark.key) [] tt marks h.0))

-- the first key, where it isn't told
first_new : {X : Type 0} (f : Stand → List X) → SkipsNone f → (b : Bool) (key : List ℕ)
    (set : List (List ℕ)) (marks : List Mark) (rest : List X)
    → stands (key ∷ set) marks ≡ in_set key None ∷ stands set marks
    → rest ≡ flat_map f (stands set marks)
    → f (moving key b None) ++ rest ≡ flat_map f (stands (kept b key set) marks)
first_new f skips true key set marks rest is r =
    ap (λ xs. f (in_set key None) ++ xs) r ∙ sym (ap (flat_map f) is)
first_new f skips false key set marks rest is r = ap (λ xs. xs ++ rest) (skips key) ∙ r

-- and where it is
first_old : {X : Type 0} (f : Stand → List X) (b : Bool) (key : List ℕ) (set : List (List ℕ))
    (mark : Mark) (marks : List Mark) (rest : List X) → slice_cmp nat_cmp key mark.key ≡ Equal
    → Each (IsBelow key) set → rest ≡ flat_map f (stands set marks)
    → f (moving key b (Some mark.put)) ++ rest ≡ flat_map f (stands (kept b key set) (mark ∷ marks))
first_old f true key set mark marks rest is below r =
    ap (λ xs. f (in_set key (Some mark.put)) ++ xs) r
    ∙ sym (ap (flat_map f) (stands_equal key set mark marks is))
first_old f false key set mark marks rest is below r =
    let same : key ≡ mark.key = exact_bytes key mark.key is in
    (λ i. f (moving (same i) false (Some mark.put)) ++ r i)
    ∙ sym (ap (flat_map f) (stands_above mark set marks
    (subst (λ (k : List ℕ). Each (IsBelow k) set) same below)))

-- what is made of the keys that stand by moves is made of those that stand by their set
by_set : {X : Type 0} (f : Stand → List X) → SkipsNone f → (moves : List Moved)
    → AreInOrder (moved_keys moves) → (marks : List Mark) → AreInOrder (marked marks)
    → flat_map f (moved_stands moves marks) ≡ flat_map f (stands (set_by moves marks) marks)
unfolding moved_stands IsStrictlySortedBy
by_set f skips [] m marks h = ap (flat_map f) (none_moved marks h)
by_set f skips (move ∷ moves) m [] h =
    first_new f skips move.is_in move.key.now (set_by moves []) []
    (flat_map f (moved_stands moves [])) (stands_none move.key.now (set_by moves []))
    (by_set f skips moves m.1 [] h)
by_set f skips (move ∷ moves) m (mark ∷ marks) h =
    by (slice_cmp nat_cmp move.key.now mark.key) refl (λ ms o. by_set f skips moves m.1 ms o)
    (by_set f skips (move ∷ moves) m marks h.1)
  where
    by : (o : Ordering) → slice_cmp nat_cmp move.key.now mark.key ≡ o
        → ((ms : List Mark) → AreInOrder (marked ms)
        → flat_map f (moved_stands moves ms) ≡ flat_map f (stands (set_by moves ms) ms))
        → flat_map f (moved_among move (moved_stands moves) marks)
        ≡ flat_map f (stands (set_among move (set_by moves) marks) marks)
        → flat_map f (by_order o (moved_to move None ∷ moved_stands moves (mark ∷ marks))
        (moved_to move (Some mark.put) ∷ moved_stands moves marks)
        (unmoved mark ∷ moved_among move (moved_stands moves) marks))
        ≡ flat_map f (stands (by_order o
        (kept move.is_in move.key.now (set_by moves (mark ∷ marks)))
        (kept move.is_in move.key.now (set_by moves marks))
        (kept mark.is_in mark.key (set_among move (set_by moves) marks))) (mark ∷ marks))
    by Less is g rest =
        first_new f skips move.is_in move.key.now (set_by moves (mark ∷ marks)) (mark ∷ marks)
        (flat_map f (moved_stands moves (mark ∷ marks)))
        (stands_less move.key.now (set_by moves (mark ∷ marks)) mark marks is)
        (g (mark ∷ marks) h)
    by Equal is g rest =
        first_old f move.is_in move.key.now (set_by moves marks) mark marks
        (flat_map f (moved_stands moves marks)) is
        (each_set (IsBelow move.key.now) moves m.0 marks (behind_same move.key.now mark marks h is))
        (g marks h.1)
    by Greater is g rest =
        ap (λ xs. f (unmoved mark) ++ xs) rest
        ∙ sym (ap (flat_map f) (unmoved_first mark (set_among move (set_by moves) marks) marks
        (each_behind move moves m.0 mark marks h.0 (below_above move.key.now mark.key is))))

-- so it is of any set that the moves, put in order, come to
pub by_moves : {X : Type 0} (f : Stand → List X) → SkipsNone f → (moves ordered : List Moved)
    (marks : List Mark) (set : List (List ℕ)) → AreInOrder (moved_keys ordered)
    → ((key : List ℕ) (was : Bool) → said_of key ordered was ≡ said_of key moves was)
    → BringsTo moves marks set
    → flat_map f (moved_stands ordered marks) ≡ flat_map f (stands set marks)
by_moves f skips moves ordered marks set m same to =
    by_set f skips ordered m marks to.ordered
    ∙ ap (λ (s : List (List ℕ)). flat_map f (stands s marks))
    (sym (same_keys set (set_by ordered marks) to.moved.is (order_set ordered m marks to.ordered)
    (λ key. to.moved.moved key ∙ sym (in_set_by key ordered m marks to.ordered ∙ same key _))))
