-- What a way down a tree makes of it.
use Rattle.std.proofs.Common.{◌≡◌, ◌≤◌, ◌+◌, ◌-◌, ℕ, true, false, List, [], ◌∷◌, ◌++◌, length}
use Rattle.std.proofs.Common.{refl, ◌∙◌, ap, sym, subst, arith, append_assoc, length-append}
use Rattle.std.specs.Prelude.{◌≢◌}
use Rattle.std.specs.declared.cmp.Ordering.{Ordering}
use Rattle.std.specs.declared.cmp.Ordering.TheVariants.{Equal, Greater}
use Rattle.std.specs.Ordering.{is_gt}
use Rattle.std.specs.Cmp.{IsTotalOrder}
use Rattle.std.specs.List.{AllByRecursion}
use Rattle.place_order.specs.Chains.{last_of}
use Rattle.place_order.specs.Orders.{AreDistinct, IsApart, IsPlaceIn, placed}
use Rattle.place_order.specs.Trees.{BecomesOne, IsCut, IsJoined, IsMade, IsTreeOf, node_in}
use Rattle.place_order.specs.declared.nodes.Node.{Node}
use Rattle.place_order.proofs.Apart.{AreApart, all_both, all_left, all_right, all_weaker}
use Rattle.place_order.proofs.Apart.{apart_both, apart_flip, apart_left, apart_right}
use Rattle.place_order.proofs.Apart.{between, distinct_apart}
use Rattle.place_order.proofs.Laid.{empty_tree, made_joined, sides, tree_kept}
use Rattle.place_order.proofs.Ranked.{IsInOrder, all_above}
use Rattle.place_order.proofs.Ranked.{above_not_less, greater_before, greater_before_it}
use Rattle.place_order.proofs.Ranked.{not_above_it, not_greater_from, only_less}
use Rattle.place_order.proofs.Ranked.{placed_behind, placed_left, placed_sorted}
use Rattle.place_order.proofs.Ranked.{sorted_behind, sorted_distinct, sorted_left, sorted_right}

-- a tree is there after another one was changed
pub tree_after : (old new : List Node) (other root : ℕ) (touched changed places : List ℕ)
    → IsMade old new other touched changed → AreApart places touched
    → IsTreeOf old root places → IsTreeOf new root places
tree_after old new other root touched changed places made apart t =
    tree_kept old new (omega (arith, made.len)) root places
    (all_weaker (λ q. IsApart q touched) (λ q. node_in new q ≡ node_in old q)
    made.others places apart) t

-- one side of a root was changed, and then both are joined
module _ (old mid new : List Node) (root result : ℕ) (place : IsPlaceIn (length old) root) where
  pub made_at_left : (left right : ℕ) (touched ls rs : List ℕ)
      → (node_in mid root ≡ node_in old root → BecomesOne mid new left root right result)
      → IsMade old mid left touched ls
      → IsTreeOf old right rs → ((q : ℕ) → IsApart q touched → IsApart q ls)
      → AreDistinct (touched ++ root ∷ rs) → AreDistinct (ls ++ root ∷ rs)
      → IsMade old new result (touched ++ root ∷ rs) (ls ++ root ∷ rs)
  made_at_left left right touched ls rs joins made r within was d =
      let behind = all_weaker (λ x. IsApart x (root ∷ rs)) (λ x. IsApart x rs)
      (λ x h. h.1) touched (distinct_apart touched (root ∷ rs) was) in
      let same = made.others root (between touched root rs was).left in
      let joined = joins same ls rs made.tree
      (tree_after old mid left right touched ls rs made (apart_flip touched rs behind) r)
      (subst (λ n. IsPlaceIn n root) (sym made.len) place) d in
      record {
        tree = joined.tree;
        len = joined.len ∙ made.len;
        others = λ q apart.
            let before = apart_left q touched (root ∷ rs) apart in
            joined.others q (apart_both q ls (root ∷ rs) (within q before)
            (apart_right q touched (root ∷ rs) apart)) ∙ made.others q before;
      }

  pub made_at_right : (left right : ℕ) (touched ls rs : List ℕ)
      → (node_in mid root ≡ node_in old root → BecomesOne mid new left root right result)
      → IsMade old mid right touched rs
      → IsTreeOf old left ls → ((q : ℕ) → IsApart q touched → IsApart q rs)
      → AreDistinct (ls ++ root ∷ touched) → AreDistinct (ls ++ root ∷ rs)
      → IsMade old new result (ls ++ root ∷ touched) (ls ++ root ∷ rs)
  made_at_right left right touched ls rs joins made l within was d =
      let before = all_weaker (λ x. IsApart x (root ∷ touched)) (λ x. IsApart x touched)
      (λ x h. h.1) ls (distinct_apart ls (root ∷ touched) was) in
      let same = made.others root (between ls root touched was).right in
      let joined = joins same ls rs
      (tree_after old mid right left touched rs ls made before l) made.tree
      (subst (λ n. IsPlaceIn n root) (sym made.len) place) d in
      record {
        tree = joined.tree;
        len = joined.len ∙ made.len;
        others = λ q apart.
            let behind = apart_right q ls (root ∷ touched) apart in
            joined.others q (apart_both q ls (root ∷ rs)
            (apart_left q ls (root ∷ touched) apart) (behind.0, within q behind.1))
            ∙ made.others q behind.1;
      }

-- how many places are on either side
pub shorter : (ls rs places : List ℕ) (root most : ℕ) → places ≡ ls ++ root ∷ rs
    → length places ≤ most → (length ls ≤ most - 1) × (length rs ≤ most - 1)
shorter ls rs places root most is few =
    let all : length places ≡ length ls + length (root ∷ rs) =
    ap (λ xs. length xs) is ∙ length-append ls (root ∷ rs) in
    (omega arith, omega arith)

pub none_long : (places : List ℕ) → length places ≤ 0 → places ≡ []
none_long [] few = refl
none_long (place ∷ places) few = absurd (omega arith)

-- ---- a place comes
module _ (C : ℕ → ℕ → Ordering) (o : IsTotalOrder C) (at : ℕ) where
  -- where there was none
  pub put_none : (old new : List Node) (places : List ℕ) → places ≡ []
      → IsJoined old new 4294967295 at 4294967295 → IsPlaceIn (length old) at
      → IsMade old new at (placed C at places) (placed C at places)
  put_none old new places none joined place =
      subst (λ xs. IsMade old new at (placed C at xs) (placed C at xs)) (sym none)
      (made_joined old new 4294967295 at 4294967295 joined [] [] (empty_tree old)
      (empty_tree old) place (tt, tt))

  module _ (old mid new : List Node) (root most result : ℕ) (node : Node)
      (is : node ≡ node_in old root) (some : root ≢ 4294967295) (places : List ℕ)
      (t : IsTreeOf old root places) (sorted : IsInOrder C places)
      (own : AllByRecursion (λ x. C at x ≢ Equal) places) (in_at : IsPlaceIn (length old) at)
      (few : length places ≤ most) where
    -- what putting it to one side makes
    abbrev pub Puts : ℕ → ℕ → Type 0
    Puts from to =
        (xs : List ℕ) → IsTreeOf old from xs → IsInOrder C xs
        → AllByRecursion (λ x. C at x ≢ Equal) xs → IsPlaceIn (length old) at
        → length xs ≤ most - 1 → IsMade old mid to (placed C at xs) (placed C at xs)

    pub put_left : (left : ℕ) → C at root ≢ Greater → Puts node.left left
        → (node_in mid root ≡ node → BecomesOne mid new left root node.right result)
        → IsMade old new result (placed C at places) (placed C at places)
    put_left left never puts joins =
        let s = sides old root places some t in
        let in_order : IsInOrder C (s.before ++ root ∷ s.after) =
        subst (IsInOrder C) s.is sorted in
        let own_there = subst (AllByRecursion (λ x. C at x ≢ Equal)) s.is own in
        let less = only_less C o at (C at root) never
        (all_right (λ x. C at x ≢ Equal) s.before (root ∷ s.after) own_there).0 in
        let now : placed C at places ≡ placed C at s.before ++ root ∷ s.after =
        ap (placed C at) s.is ∙ placed_left C o at s.before root s.after less in
        let d : AreDistinct (placed C at s.before ++ root ∷ s.after) =
        subst AreDistinct now
        (sorted_distinct C o (placed C at places) (placed_sorted C o at places sorted own)) in
        let made = puts s.before
        (subst (λ (n : Node). IsTreeOf old n.left s.before) (sym is) s.left)
        (sorted_left C s.before (root ∷ s.after) in_order)
        (all_left (λ x. C at x ≢ Equal) s.before (root ∷ s.after) own_there) in_at
        (shorter s.before s.after places root most s.is few).0 in
        subst (λ xs. IsMade old new result xs xs) (sym now)
        (made_at_left old mid new root result s.place left node.right
        (placed C at s.before) (placed C at s.before) s.after (λ same. joins (same ∙ sym is)) made
        (subst (λ (n : Node). IsTreeOf old n.right s.after) (sym is) s.right)
        (λ q apart. apart) d d)

    pub put_right : (right : ℕ) → C at root ≡ Greater → Puts node.right right
        → (node_in mid root ≡ node → BecomesOne mid new node.left root right result)
        → IsMade old new result (placed C at places) (placed C at places)
    put_right right above puts joins =
        let s = sides old root places some t in
        let in_order : IsInOrder C (s.before ++ root ∷ s.after) =
        subst (IsInOrder C) s.is sorted in
        let own_there = subst (AllByRecursion (λ x. C at x ≢ Equal)) s.is own in
        let now : placed C at places ≡ s.before ++ root ∷ placed C at s.after =
        ap (placed C at) s.is ∙ placed_behind C o at s.before root s.after in_order
        (above_not_less C o at root above) in
        let d : AreDistinct (s.before ++ root ∷ placed C at s.after) =
        subst AreDistinct now
        (sorted_distinct C o (placed C at places) (placed_sorted C o at places sorted own)) in
        let made = puts s.after
        (subst (λ (n : Node). IsTreeOf old n.right s.after) (sym is) s.right)
        (sorted_behind C root s.after (sorted_right C s.before (root ∷ s.after) in_order))
        (all_right (λ x. C at x ≢ Equal) s.before (root ∷ s.after) own_there).1 in_at
        (shorter s.before s.after places root most s.is few).1 in
        subst (λ xs. IsMade old new result xs xs) (sym now)
        (made_at_right old mid new root result s.place node.left right
        (placed C at s.after) s.before (placed C at s.after) (λ same. joins (same ∙ sym is)) made
        (subst (λ (n : Node). IsTreeOf old n.left s.before) (sym is) s.left)
        (λ q apart. apart) d d)

-- ---- the last place below another one
pub last_behind : (none : ℕ) (xs : List ℕ) (y : ℕ) (ys : List ℕ)
    → last_of none (xs ++ y ∷ ys) ≡ last_of y ys
last_behind none [] y ys = refl
last_behind none (x ∷ xs) y ys = last_behind x xs y ys

module _ (C : ℕ → ℕ → Ordering) (o : IsTotalOrder C) (at : ℕ) (nodes : List Node)
    (root most none result : ℕ) (places : List ℕ) where
  pub cut_none : places ≡ [] → IsCut (λ x. is_gt (C at x)) none none places
  cut_none is = record {
    front = [];
    back = [];
    is = is;
    at_end = refl;
    passes = tt;
    fails = tt;
  }

  module _ (node : Node) (is : node ≡ node_in nodes root) (some : root ≢ 4294967295)
      (t : IsTreeOf nodes root places) (sorted : IsInOrder C places)
      (few : length places ≤ most) where
    -- what a look on one side finds
    abbrev pub Cuts : ℕ → ℕ → Type 0
    Cuts from last =
        (xs : List ℕ) → IsTreeOf nodes from xs → IsInOrder C xs → length xs ≤ most - 1
        → IsCut (λ x. is_gt (C at x)) last result xs

    pub cut_right : C at root ≡ Greater → Cuts node.right root
        → IsCut (λ x. is_gt (C at x)) none result places
    cut_right above cuts =
        let s = sides nodes root places some t in
        let in_order : IsInOrder C (s.before ++ root ∷ s.after) =
        subst (IsInOrder C) s.is sorted in
        let u = cuts s.after
        (subst (λ (n : Node). IsTreeOf nodes n.right s.after) (sym is) s.right)
        (sorted_behind C root s.after (sorted_right C s.before (root ∷ s.after) in_order))
        (shorter s.before s.after places root most s.is few).1 in
        record {
          front = s.before ++ root ∷ u.front;
          back = u.back;
          is = s.is ∙ ap (λ xs. s.before ++ root ∷ xs) u.is
              ∙ sym (append_assoc s.before (root ∷ u.front) u.back);
          at_end = u.at_end ∙ sym (last_behind none s.before root u.front);
          passes = all_both (λ x. is_gt (C at x) ≡ true) s.before (root ∷ u.front)
              (greater_before C o at s.before root s.after in_order above)
              (ap is_gt above, u.passes);
          fails = u.fails;
        }

    pub cut_left : C at root ≢ Greater → Cuts node.left none
        → IsCut (λ x. is_gt (C at x)) none result places
    cut_left never cuts =
        let s = sides nodes root places some t in
        let in_order : IsInOrder C (s.before ++ root ∷ s.after) =
        subst (IsInOrder C) s.is sorted in
        let u = cuts s.before
        (subst (λ (n : Node). IsTreeOf nodes n.left s.before) (sym is) s.left)
        (sorted_left C s.before (root ∷ s.after) in_order)
        (shorter s.before s.after places root most s.is few).0 in
        record {
          front = u.front;
          back = u.back ++ root ∷ s.after;
          is = s.is ∙ ap (λ xs. xs ++ root ∷ s.after) u.is
              ∙ append_assoc u.front u.back (root ∷ s.after);
          at_end = u.at_end;
          passes = u.passes;
          fails = all_both (λ x. is_gt (C at x) ≡ false) u.back (root ∷ s.after) u.fails
              (not_greater_from C o at root s.after
              (all_above C s.before root s.after in_order) never);
        }

    -- it is the root, and what is below it is on the left
    pub cut_here : root ≡ at
        → ((xs : List ℕ) → IsTreeOf nodes node.left xs → length xs ≤ most - 1
        → result ≡ last_of none xs)
        → IsCut (λ x. is_gt (C at x)) none result places
    cut_here here finds =
        let s = sides nodes root places some t in
        let in_order : IsInOrder C (s.before ++ root ∷ s.after) =
        subst (IsInOrder C) s.is sorted in
        record {
          front = s.before;
          back = root ∷ s.after;
          is = s.is;
          at_end = finds s.before
              (subst (λ (n : Node). IsTreeOf nodes n.left s.before) (sym is) s.left)
              (shorter s.before s.after places root most s.is few).0;
          passes = greater_before_it C o at s.before root s.after in_order here;
          fails = not_greater_from C o at root s.after
              (all_above C s.before root s.after in_order) (not_above_it C o at root here);
        }

-- the last place of a tree is on the right, if it isn't the root
module _ (nodes : List Node) (root none result : ℕ) (places : List ℕ) where
  pub last_none : places ≡ [] → none ≡ last_of none places
  last_none is = sym (ap (last_of none) is)

  pub last_right : (most : ℕ) (node : Node) → node ≡ node_in nodes root → root ≢ 4294967295
      → IsTreeOf nodes root places → length places ≤ most
      → ((xs : List ℕ) → IsTreeOf nodes node.right xs → length xs ≤ most - 1
      → result ≡ last_of root xs)
      → result ≡ last_of none places
  last_right most node is some t few finds =
      let s = sides nodes root places some t in
      finds s.after (subst (λ (n : Node). IsTreeOf nodes n.right s.after) (sym is) s.right)
      (shorter s.before s.after places root most s.is few).1
      ∙ sym (ap (last_of none) s.is ∙ last_behind none s.before root s.after)
