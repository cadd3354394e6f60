-- Parts that a turn by moves tells whole.
use Rattle.std.proofs.Common.{◌≡◌, ◌||◌, ℕ, Bool, true, false, List, [], ◌∷◌, ◌++◌}
use Rattle.std.proofs.Common.{append_assoc, append-nil}
use Rattle.std.proofs.Common.{map, length, None, Some, inl, inr, refl, sym, ap, subst, ◌∙◌}
use Rattle.std.proofs.lemmas.Bool.{cases_Bool}
use Rattle.std.proofs.lemmas.List.Concat.{flat_map-append}
use Rattle.std.proofs.lemmas.List.{length-map, map-append}
use Rattle.std.specs.List.{AllByRecursion, flat_map}
use Rattle.std.specs.List.Sorted.{IsStrictlySortedBy}
use Rattle.std.specs.Prelude.{if◌then◌else◌, option_to_list}
use Rattle.std.specs.Option.{option_map}
use Rattle.pushed_keys.specs.Moves.{AreInOrder, marked, moved_among, moved_stands, moved_to}
use Rattle.pushed_keys.specs.Moves.{unmoved}
use Rattle.pushed_keys.specs.Packed.{IsFrom, IsLast, least_with, with_puts}
use Rattle.pushed_keys.specs.Passed.{AreBelow, ArePassed, IsDone, IsKept}
use Rattle.pushed_keys.specs.Rules.{is_held, is_written, put_after, put_again}
use Rattle.pushed_keys.specs.Stands.{Stand, by_order}
use Rattle.pushed_keys.specs.Turns.{AreQuiet, changes, key_change, marks_after}
use Rattle.pushed_keys.specs.declared.change.Change.{Change}
use Rattle.pushed_keys.specs.declared.change.Turn.{Turn}
use Rattle.pushed_keys.specs.declared.done.Done.{Done}
use Rattle.pushed_keys.specs.declared.least.Least.{Least}
use Rattle.pushed_keys.specs.declared.moved.Moved.{Moved}
use Rattle.pushed_keys.specs.declared.pushed.Pushed.{Pushed}
use Rattle.pushed_keys.specs.declared.told.Mark.{Mark}
use Rattle.pushed_keys.proofs.Left.{done_by, done_then, none_done}
use Rattle.pushed_keys.proofs.Order.{IsBelow, above_below, below_all, order_behind, order_front}
use Rattle.pushed_keys.proofs.Packing.{late_more}

-- each of these marks is below a key
abbrev pub AreUnder : List ℕ → List Mark → Type 0
AreUnder key marks = AllByRecursion (λ mark. IsBelow mark.key key) marks

-- in order, each mark is below what the last is below
each_under : (key last : List ℕ) (marks : List Mark) → AreInOrder (marked marks)
    → IsLast last marks → IsBelow last key → AreUnder key marks
unfolding IsStrictlySortedBy
each_under key last [] o l b = tt
each_under key last (mark ∷ []) o l b = (subst (λ (k : List ℕ). IsBelow k key) (sym l) b, tt)
each_under key last (mark ∷ next ∷ marks) o l b =
    let rest = each_under key last (next ∷ marks) o.1 l b in
    (below_all mark.key next.key key o.0.0 rest.0, rest)

-- marks below a key that moved stand before it
under_first : (move : Moved) (behind : List Mark → List Stand) (part rest : List Mark)
    → AreUnder move.key.now part
    → moved_among move behind (part ++ rest) ≡ map unmoved part ++ moved_among move behind rest
under_first move behind [] rest h = refl
under_first move behind (mark ∷ part) rest h =
    ap (λ order. by_order order (moved_to move None ∷ behind (mark ∷ part ++ rest))
    (moved_to move (Some mark.put) ∷ behind (part ++ rest))
    (unmoved mark ∷ moved_among move behind (part ++ rest)))
    (above_below mark.key move.key.now h.0)
    ∙ ap (λ (ss : List Stand). unmoved mark ∷ ss) (under_first move behind part rest h.1)

all_unmoved : (part rest : List Mark) → map unmoved (part ++ rest)
    ≡ map unmoved part ++ map unmoved rest
all_unmoved [] rest = refl
all_unmoved (mark ∷ part) rest =
    ap (λ (ss : List Stand). unmoved mark ∷ ss) (all_unmoved part rest)

-- the marks of a part that is passed stand before the rest
part_first : (moves : List Moved) (part rest : List Mark) → AreInOrder (marked part)
    → AreBelow part moves
    → moved_stands moves (part ++ rest) ≡ map unmoved part ++ moved_stands moves rest
unfolding moved_stands
part_first [] part rest o h = all_unmoved part rest
part_first (move ∷ moves) part rest o h =
    under_first move (moved_stands moves) part rest
    (each_under move.key.now h.0 part o h.1 h.2)

-- a quiet part is told by keeping it
pub done_quiet : (p : Pushed) (turn : Turn) (old new : Done) (part : List Mark)
    → AreQuiet p turn (map unmoved part) part → new.changes ≡ old.changes
    → new.kept ≡ old.kept ++ part → IsDone p turn old (map unmoved part) new
done_quiet p turn old new part quiet c k =
    record {
      said = c ∙ sym (append-nil old.changes)
          ∙ ap (λ (cs : List (List ℕ × Change)). old.changes ++ cs) (sym quiet.silent);
      kept = k ∙ ap (λ (ms : List Mark). old.kept ++ ms) (sym quiet.same);
    }

abbrev concat : List (List Mark) → List Mark
concat parts = flat_map (λ part. part) parts

-- ---- a part, key by key

-- a mark that is kept, behind the turn
abbrev pub again : Pushed → Turn → Mark → Mark
again p turn mark = record {
  key = mark.key;
  put = put_again p turn mark.is_in mark.put;
  is_in = mark.is_in;
}

-- some marks of a part are told, and these are left
pub record AreRenewed (p : Pushed) (turn : Turn) (all left : List Mark) (puts : List ℕ)
    (least : Least) (old new : List (List ℕ × Change)) : Type 0 where
  pub passed : List Mark
  pub are : all ≡ passed ++ left
  pub puts_are : puts ≡ map (λ mark. put_again p turn mark.is_in mark.put) passed
  pub late : AllByRecursion (λ mark. IsFrom least mark) (map (again p turn) passed)
  pub said : new ≡ old ++ changes p turn (map unmoved passed)

pub none_renewed : (p : Pushed) (turn : Turn) (all : List Mark) (least : Least)
    (old : List (List ℕ × Change)) → AreRenewed p turn all all [] least old old
none_renewed p turn all least old = record {
  passed = [];
  are = refl;
  puts_are = refl;
  late = tt;
  said = sym (append-nil old);
}

pub one_renewed : (p : Pushed) (turn : Turn) (all left rest : List Mark) (mark : Mark)
    (puts new_puts : List ℕ) (least new_least : Least) (old said new : List (List ℕ × Change))
    → AreRenewed p turn all left puts least old said → left ≡ mark ∷ rest
    → new_puts ≡ puts ++ put_again p turn mark.is_in mark.put ∷ []
    → new_least ≡ least_with least mark.is_in (put_again p turn mark.is_in mark.put)
    → new ≡ said ++ key_change p turn (unmoved mark)
    → AreRenewed p turn all rest new_puts new_least old new
one_renewed p turn all left rest mark puts new_puts least new_least old said new before l ps ls c =
    let keys : List Stand = map unmoved before.passed in
    let more : map unmoved (before.passed ++ mark ∷ []) ≡ keys ++ unmoved mark ∷ [] =
    all_unmoved before.passed (mark ∷ []) in
    let one : changes p turn (unmoved mark ∷ []) ≡ key_change p turn (unmoved mark) =
    append-nil (key_change p turn (unmoved mark)) in
    record {
      passed = before.passed ++ mark ∷ [];
      are = before.are ∙ ap (λ (ms : List Mark). before.passed ++ ms) l
          ∙ sym (append_assoc before.passed (mark ∷ []) rest);
      puts_are = ps
          ∙ ap (λ (qs : List ℕ). qs ++ put_again p turn mark.is_in mark.put ∷ []) before.puts_are
          ∙ sym (map-append (λ (m : Mark). put_again p turn m.is_in m.put) before.passed
          (mark ∷ []));
      late = rw (ls, map-append (again p turn) before.passed (mark ∷ []))
          (late_more least (again p turn mark) (map (again p turn) before.passed) before.late);
      said = c ∙ ap (λ (cs : List (List ℕ × Change)). cs ++ key_change p turn (unmoved mark))
          before.said
          ∙ append_assoc old (changes p turn keys) (key_change p turn (unmoved mark))
          ∙ ap (λ (cs : List (List ℕ × Change)). old ++ (changes p turn keys ++ cs)) (sym one)
          ∙ ap (λ (cs : List (List ℕ × Change)). old ++ cs)
          (sym (flat_map-append (key_change p turn) keys (unmoved mark ∷ [])))
          ∙ ap (λ (ks : List Stand). old ++ changes p turn ks) (sym more);
    }

put_some : (p : Pushed) (turn : Turn) (side : Bool) (put : ℕ)
    → (side || is_held p turn put) ≡ true
    → put_after p turn side (Some put) ≡ Some (put_again p turn side put)
unfolding put_after
put_some p turn true put kept =
    elim (cases_Bool (is_written p turn (Some put))) [
      | inl is ↦ rw is refl
      | inr isnt ↦ rw isnt refl
    ]
put_some p turn false put kept = ap (λ b. if b then Some put else None) kept

-- marks with other moments are those of their puts
with_again : (p : Pushed) (turn : Turn) (marks : List Mark)
    → with_puts marks (map (λ mark. put_again p turn mark.is_in mark.put) marks)
    ≡ map (again p turn) marks
with_again p turn [] = refl
with_again p turn (mark ∷ marks) =
    ap (λ (ms : List Mark). again p turn mark ∷ ms) (with_again p turn marks)

-- and those behind the turn where none is dropped
renewed_marks : (p : Pushed) (turn : Turn) (marks : List Mark)
    → AllByRecursion (λ mark. IsKept p turn mark) marks
    → map (again p turn) marks ≡ marks_after p turn (map unmoved marks)
renewed_marks p turn [] kept = refl
renewed_marks p turn (mark ∷ marks) kept =
    ap (λ (ms : List Mark). again p turn mark ∷ ms) (renewed_marks p turn marks kept.1)
    ∙ sym (ap (λ o. option_to_list (option_map (λ put. record {
      key = mark.key;
      put = put;
      is_in = mark.is_in;
    }) o) ++ marks_after p turn (map unmoved marks))
    (put_some p turn mark.is_in mark.put kept.0))

passed_all : (p : Pushed) (turn : Turn) (all left : List Mark) (puts : List ℕ) (least : Least)
    (old new : List (List ℕ × Change)) → (h : AreRenewed p turn all left puts least old new)
    → left ≡ [] → all ≡ h.passed
passed_all p turn all left puts least old new h none =
    h.are ∙ ap (λ (ms : List Mark). h.passed ++ ms) none ∙ append-nil h.passed

-- as many moments as marks
pub many_renewed : (p : Pushed) (turn : Turn) (all left : List Mark) (puts : List ℕ)
    (least : Least) (old new : List (List ℕ × Change))
    → AreRenewed p turn all left puts least old new → left ≡ [] → length puts ≡ length all
many_renewed p turn all left puts least old new h none =
    rw (h.puts_are, passed_all p turn all left puts least old new h none)
    (length-map h.passed (λ (mark : Mark). put_again p turn mark.is_in mark.put))

-- and none is before the least
pub late_renewed : (p : Pushed) (turn : Turn) (all left : List Mark) (puts : List ℕ)
    (least : Least) (old new : List (List ℕ × Change))
    → AreRenewed p turn all left puts least old new → left ≡ []
    → AllByRecursion (λ mark. IsFrom least mark) (with_puts all puts)
late_renewed p turn all left puts least old new h none =
    rw (
      h.puts_are,
      passed_all p turn all left puts least old new h none,
      with_again p turn h.passed,
    ) h.late

-- the part is told where no mark is left
pub all_renewed : (p : Pushed) (turn : Turn) (all left : List Mark) (puts : List ℕ)
    (least : Least) (old new : Done) (part : List Mark)
    → AllByRecursion (λ mark. IsKept p turn mark) all
    → AreRenewed p turn all left puts least old.changes new.changes → left ≡ []
    → part ≡ with_puts all puts → new.kept ≡ old.kept ++ part
    → IsDone p turn old (map unmoved all) new
all_renewed p turn all left puts least old new part stays h none is k =
    let passed : all ≡ h.passed =
    passed_all p turn all left puts least old.changes new.changes h none in
    let each : AllByRecursion (λ mark. IsKept p turn mark) h.passed =
    subst (λ (ms : List Mark). AllByRecursion (λ mark. IsKept p turn mark) ms) passed stays in
    let marks : part ≡ marks_after p turn (map unmoved h.passed) =
    is ∙ rw (h.puts_are, passed) (with_again p turn h.passed
    ∙ renewed_marks p turn h.passed each) in
    record {
      said = h.said
          ∙ ap (λ (ms : List Mark). old.changes ++ changes p turn (map unmoved ms)) (sym passed);
      kept = k ∙ ap (λ (ms : List Mark). old.kept ++ ms) marks
          ∙ ap (λ (ms : List Mark). old.kept ++ marks_after p turn (map unmoved ms)) (sym passed);
    }

-- ---- parts, one after the other

pub none_passed : (p : Pushed) (turn : Turn) (moves : List Moved) (all : List Mark) (old : Done)
    → ArePassed p turn moves all all old old
none_passed p turn moves all old = record {
  parts = [];
  each = tt;
  are = refl;
  done = none_done p turn old;
}

each_more : (moves : List Moved) (parts : List (List Mark)) (part : List Mark)
    → AllByRecursion (λ ms. AreBelow ms moves) parts → AreBelow part moves
    → AllByRecursion (λ ms. AreBelow ms moves) (parts ++ part ∷ [])
each_more moves [] part h one = (one, tt)
each_more moves (first ∷ parts) part h one = (h.0, each_more moves parts part h.1 one)

concat_more : (parts : List (List Mark)) (part : List Mark)
    → concat (parts ++ part ∷ []) ≡ concat parts ++ part
concat_more parts part =
    flat_map-append (λ (ms : List Mark). ms) parts (part ∷ [])
    ∙ ap (λ (ms : List Mark). concat parts ++ ms) (append-nil part)

pub one_passed : (p : Pushed) (turn : Turn) (moves : List Moved) (all mid left part : List Mark)
    (old at new : Done) → ArePassed p turn moves all mid old at → AreBelow part moves
    → mid ≡ part ++ left → IsDone p turn at (map unmoved part) new
    → ArePassed p turn moves all left old new
one_passed p turn moves all mid left part old at new before below m done = record {
  parts = before.parts ++ part ∷ [];
  each = each_more moves before.parts part before.each below;
  are = before.are ∙ rw (m, concat_more before.parts part)
      (sym (append_assoc (concat before.parts) part left));
  done = subst (λ (keys : List Stand). IsDone p turn old keys new)
      (sym (ap (map unmoved) (concat_more before.parts part)
      ∙ all_unmoved (concat before.parts) part))
      (done_then p turn old at new (map unmoved (concat before.parts)) (map unmoved part)
      before.done done);
}

-- the marks of parts below the moves stand first
parts_first : (moves : List Moved) (parts : List (List Mark)) (left : List Mark)
    → AllByRecursion (λ part. AreBelow part moves) parts
    → AreInOrder (marked (concat parts ++ left))
    → moved_stands moves (concat parts ++ left)
    ≡ map unmoved (concat parts) ++ moved_stands moves left
parts_first moves [] left each o = refl
parts_first moves (part ∷ parts) left each o =
    let rest : List Mark = concat parts ++ left in
    let is : concat (part ∷ parts) ++ left ≡ part ++ rest =
    append_assoc part (concat parts) left in
    let order : AreInOrder (marked (part ++ rest)) =
    subst (λ (ms : List Mark). AreInOrder (marked ms)) is o in
    ap (moved_stands moves) is
    ∙ part_first moves part rest (order_front part rest order) each.0
    ∙ ap (λ (ss : List Stand). map unmoved part ++ ss)
    (parts_first moves parts left each.1 (order_behind part rest order))
    ∙ sym (append_assoc (map unmoved part) (map unmoved (concat parts)) (moved_stands moves left))
    ∙ ap (λ (ss : List Stand). ss ++ moved_stands moves left)
    (sym (all_unmoved part (concat parts)))

-- what is left of a table's moves and marks: they make of what is done what all made of what was
pub record AreLeft (p : Pushed) (turn : Turn) (moves : List Moved) (marks : List Mark) (at : Done)
    (all_moves : List Moved) (all : List Mark) (old : Done) : Type 0 where
  pub order : AreInOrder (marked marks)
  pub done : (new : Done) → IsDone p turn at (moved_stands moves marks) new
      → IsDone p turn old (moved_stands all_moves all) new

-- so it is behind parts that are passed
pub left_passed : (p : Pushed) (turn : Turn) (moves : List Moved) (marks left : List Mark)
    (at new : Done) (all_moves : List Moved) (all : List Mark) (start : Done)
    → ArePassed p turn moves marks left at new
    → AreLeft p turn moves marks at all_moves all start
    → AreLeft p turn moves left new all_moves all start
left_passed p turn moves marks left at new all_moves all start passed before =
    let order : AreInOrder (marked (concat passed.parts ++ left)) =
    subst (λ (ms : List Mark). AreInOrder (marked ms)) passed.are before.order in
    record {
      order = order_behind (concat passed.parts) left order;
      done = λ end h. before.done end (subst (λ (keys : List Stand). IsDone p turn at keys end)
          (sym (ap (moved_stands moves) passed.are
          ∙ parts_first moves passed.parts left passed.each order))
          (done_then p turn at new end (map unmoved (concat passed.parts))
          (moved_stands moves left) passed.done h));
    }

-- and behind the first key
pub left_first : (p : Pushed) (turn : Turn) (moves others : List Moved) (marks rest : List Mark)
    (at mid : Done) (s : Stand) (all_moves : List Moved) (all : List Mark) (start : Done)
    → moved_stands moves marks ≡ s ∷ moved_stands others rest
    → (AreInOrder (marked marks) → AreInOrder (marked rest)) → IsDone p turn at (s ∷ []) mid
    → AreLeft p turn moves marks at all_moves all start
    → AreLeft p turn others rest mid all_moves all start
left_first p turn moves others marks rest at mid s all_moves all start is order first before =
    record {
      order = order before.order;
      done = λ new h. before.done new (subst (λ (keys : List Stand). IsDone p turn at keys new)
          (sym is) (done_then p turn at mid new (s ∷ []) (moved_stands others rest) first h));
    }

-- all is done where no key is left
pub left_done : (p : Pushed) (turn : Turn) (moves : List Moved) (marks : List Mark) (at : Done)
    (all_moves : List Moved) (all : List Mark) (start : Done) → moved_stands moves marks ≡ []
    → AreLeft p turn moves marks at all_moves all start
    → IsDone p turn start (moved_stands all_moves all) at
left_done p turn moves marks at all_moves all start none before =
    done_by p turn start at (moved_stands all_moves all) (moved_stands moves marks) none
    before.done

pub all_left : (p : Pushed) (turn : Turn) (moves : List Moved) (marks : List Mark) (at : Done)
    → AreInOrder (marked marks) → AreLeft p turn moves marks at moves marks at
all_left p turn moves marks at order = record { order = order; done = λ new h. h }
