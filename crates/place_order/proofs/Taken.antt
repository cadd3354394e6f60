-- What a tree becomes as a place is taken out of it.
use Rattle.std.proofs.Common.{◌≡◌, ◌≤◌, ◌+◌, ◌-◌, ℕ, List, [], ◌∷◌, ◌++◌, length, append-nil}
use Rattle.std.proofs.Common.{refl, ◌∙◌, ap, sym, subst, arith, length-append, ◌⊎◌, inl, inr}
use Rattle.std.specs.Prelude.{◌≢◌}
use Rattle.std.specs.declared.cmp.Ordering.{Ordering}
use Rattle.std.specs.declared.cmp.Ordering.TheVariants.{Greater}
use Rattle.std.specs.Cmp.{IsTotalOrder}
use Rattle.place_order.specs.Orders.{AreDistinct, IsApart, IsPlaceIn, without}
use Rattle.place_order.specs.Trees.{BecomesOne, IsMade, IsTreeOf, node_in}
use Rattle.place_order.specs.declared.nodes.Node.{Node}
use Rattle.place_order.proofs.Apart.{apart_both, apart_left, apart_right}
use Rattle.place_order.proofs.Apart.{distinct_apart, distinct_left, distinct_right}
use Rattle.place_order.proofs.Laid.{no_places, sides, tree_within}
use Rattle.place_order.proofs.Ranked.{IsInOrder, above_not_less, all_above, apart_behind}
use Rattle.place_order.proofs.Ranked.{apart_below, apart_without, distinct_without, not_greater}
use Rattle.place_order.proofs.Ranked.{sorted_behind, sorted_distinct}
use Rattle.place_order.proofs.Ranked.{sorted_left, sorted_right, without-append}
use Rattle.place_order.proofs.Ranked.{without_between, without_none, without_other}
use Rattle.place_order.proofs.Ways.{made_at_left, made_at_right, shorter, tree_after}

-- nothing was written
pub unchanged : (nodes : List Node) (root : ℕ) (touched places : List ℕ)
    → IsTreeOf nodes root places → IsMade nodes nodes root touched places
unchanged nodes root touched places t =
    record { tree = t; len = refl; others = λ q apart. refl }

-- a root has places
pub none_there : (nodes : List Node) (root : ℕ) → root ≢ 4294967295 → IsTreeOf nodes root [] → ⊥
none_there nodes root some t =
    let s = sides nodes root [] some t in
    by s.before s.after s.is
  where
    by : (xs ys : List ℕ) → [] ≢ xs ++ root ∷ ys
    by [] ys e = cc
    by (x ∷ xs) ys e = cc

-- ---- the first place
-- what taking the first place out of a tree answers and makes
abbrev pub TakesFirst : List Node → List Node → ℕ → ℕ → ℕ → ℕ → Type 0
TakesFirst old new root first rest most =
    (place : ℕ) (places : List ℕ) → IsTreeOf old root (place ∷ places)
    → AreDistinct (place ∷ places) → length places ≤ most
    → (first ≡ place) × IsMade old new rest (place ∷ places) places

-- a tree with places has a root
pub has_root : (nodes : List Node) (root place : ℕ) (places : List ℕ)
    → IsTreeOf nodes root (place ∷ places) → root ≢ 4294967295
has_root nodes root place places t none =
    let wrong : place ∷ places ≡ [] = no_places nodes root (place ∷ places) none t in cc

module _ (old : List Node) (root most : ℕ) (node : Node) (is : node ≡ node_in old root)
    (place : ℕ) (places : List ℕ) (t : IsTreeOf old root (place ∷ places))
    (d : AreDistinct (place ∷ places)) (few : length places ≤ most) where
  -- it is the root, where nothing is on its left
  pub first_root : (node.left ≡ 4294967295) ⊎ ((node.left ≢ 4294967295) × (most ≡ 0))
      → (root ≡ place) × IsMade old old node.right (place ∷ places) places
  first_root none =
      let s = sides old root (place ∷ places) (has_root old root place places t) t in
      let l : IsTreeOf old node.left s.before =
      subst (λ (n : Node). IsTreeOf old n.left s.before) (sym is) s.left in
      by s.before s.after s.is (elim none [
        | inl e ↦ no_places old node.left s.before e l
        | inr e ↦ short s.before s.after s.is e.1
      ]) (subst (λ (n : Node). IsTreeOf old n.right s.after) (sym is) s.right)
    where
      short : (ls rs : List ℕ) → place ∷ places ≡ ls ++ root ∷ rs → most ≡ 0 → ls ≡ []
      short [] rs parted zero_most = refl
      short (x ∷ ls) rs parted zero_most =
          let all : length (place ∷ places) ≡ length (x ∷ ls) + length (root ∷ rs) =
          ap (λ xs. length xs) parted ∙ length-append (x ∷ ls) (root ∷ rs) in
          absurd (omega arith)

      by : (ls rs : List ℕ) → place ∷ places ≡ ls ++ root ∷ rs → ls ≡ []
          → IsTreeOf old node.right rs
          → (root ≡ place) × IsMade old old node.right (place ∷ places) places
      by [] rs parted empty r =
          let top : place ≡ root = cc in
          let rest : places ≡ rs = cc in (
            sym top,
            unchanged old node.right (place ∷ places) places
                (subst (IsTreeOf old node.right) (sym rest) r),
          )
      by (x ∷ ls) rs parted empty r = cc

  -- it is the first one on the left
  pub first_left : (mid new : List Node) (first rest result : ℕ) → node.left ≢ 4294967295
      → TakesFirst old mid node.left first rest (most - 1)
      → (node_in mid root ≡ node → BecomesOne mid new rest root node.right result)
      → (first ≡ place) × IsMade old new result (place ∷ places) places
  first_left mid new first rest result some takes joins =
      let s = sides old root (place ∷ places) (has_root old root place places t) t in
      by s.before s.after s.place s.is
      (subst (λ (n : Node). IsTreeOf old n.left s.before) (sym is) s.left)
      (subst (λ (n : Node). IsTreeOf old n.right s.after) (sym is) s.right)
    where
      by : (ls rs : List ℕ) → IsPlaceIn (length old) root → place ∷ places ≡ ls ++ root ∷ rs
          → IsTreeOf old node.left ls → IsTreeOf old node.right rs
          → (first ≡ place) × IsMade old new result (place ∷ places) places
      by [] rs within parted l r = absurd (none_there old node.left some l)
      by (x ∷ ls) rs within parted l r =
          let top : place ≡ x = cc in
          let behind : places ≡ ls ++ root ∷ rs = cc in
          let e : AreDistinct (x ∷ (ls ++ root ∷ rs)) = subst AreDistinct parted d in
          let all : length places ≡ length ls + length (root ∷ rs) =
          ap (λ xs. length xs) behind ∙ length-append ls (root ∷ rs) in
          let took = takes x ls l (distinct_left (x ∷ ls) (root ∷ rs) e) (omega arith) in
          let made = made_at_left old mid new root result within rest node.right (x ∷ ls) ls rs
          (λ same. joins (same ∙ sym is)) took.1 r (λ q apart. apart.1) e e.1 in (
            took.0 ∙ sym top,
            subst (λ xs. IsMade old new result (place ∷ places) xs) (sym behind)
                (subst (λ xs. IsMade old new result xs (ls ++ root ∷ rs)) (sym parted) made),
          )

-- ---- two trees become one
module _ (old : List Node) (left right most : ℕ) (ls : List ℕ)
    (l : IsTreeOf old left ls) where
  pub merged_none : (rs : List ℕ) → right ≡ 4294967295 → IsTreeOf old right rs
      → IsMade old old left (ls ++ rs) (ls ++ rs)
  merged_none rs none r =
      let e = no_places old right rs none r in
      unchanged old left (ls ++ rs) (ls ++ rs)
      (subst (IsTreeOf old left) (sym (ap (λ xs. ls ++ xs) e ∙ append-nil ls)) l)

  pub merged_some : (mid new : List Node) (first rest result : ℕ) (rs : List ℕ)
      → right ≢ 4294967295 → IsTreeOf old right rs → AreDistinct (ls ++ rs)
      → length rs ≤ most → TakesFirst old mid right first rest most
      → BecomesOne mid new left first rest result → IsMade old new result (ls ++ rs) (ls ++ rs)
  merged_some mid new first rest result [] some r d few takes joins =
      absurd (none_there old right some r)
  merged_some mid new first rest result (p ∷ ps) some r d few takes joins =
      let took = takes p ps r (distinct_right ls (p ∷ ps) d) (omega arith) in
      let place = tree_within old right (p ∷ ps) r in
      let here : BecomesOne mid new left p rest result =
      subst (λ x. BecomesOne mid new left x rest result) took.0 joins in
      let joined = here ls ps
      (tree_after old mid rest left (p ∷ ps) ps ls took.1 (distinct_apart ls (p ∷ ps) d) l)
      took.1.tree (subst (λ n. IsPlaceIn n p) (sym took.1.len) place.0) d in
      record {
        tree = joined.tree;
        len = joined.len ∙ took.1.len;
        others = λ q apart. joined.others q apart
            ∙ took.1.others q (apart_right q ls (p ∷ ps) apart);
      }

-- ---- a place that knows its rank
module _ (C : ℕ → ℕ → Ordering) (o : IsTotalOrder C) (at : ℕ) where
  pub take_none : (nodes : List Node) (root : ℕ) (places : List ℕ) → places ≡ []
      → IsTreeOf nodes root places → IsMade nodes nodes root places (without at places)
  take_none nodes root places none t =
      unchanged nodes root places (without at places)
      (subst (IsTreeOf nodes root) (none ∙ sym (ap (without at) none)) t)

  module _ (old mid new : List Node) (root most result : ℕ) (node : Node)
      (is : node ≡ node_in old root) (some : root ≢ 4294967295) (places : List ℕ)
      (t : IsTreeOf old root places) (sorted : IsInOrder C places)
      (few : length places ≤ most) where
    -- it is the root, in the stead of which come the two sides
    pub take_root : root ≡ at
        → ((ls rs : List ℕ) → IsTreeOf old node.left ls → IsTreeOf old node.right rs
        → AreDistinct (ls ++ rs) → length rs ≤ most - 1
        → IsMade old new result (ls ++ rs) (ls ++ rs))
        → IsMade old new result places (without at places)
    take_root here merges =
        let s = sides old root places some t in
        let e : AreDistinct (s.before ++ root ∷ s.after) =
        subst AreDistinct s.is (sorted_distinct C o places sorted) in
        let now : without root (s.before ++ root ∷ s.after) ≡ s.before ++ s.after =
        without_between root s.before s.after e in
        let made = merges s.before s.after
        (subst (λ (n : Node). IsTreeOf old n.left s.before) (sym is) s.left)
        (subst (λ (n : Node). IsTreeOf old n.right s.after) (sym is) s.right)
        (subst AreDistinct now (distinct_without root (s.before ++ root ∷ s.after) e))
        (shorter s.before s.after places root most s.is few).1 in
        let is_now : without at places ≡ s.before ++ s.after =
        ap (λ x. without x places) (sym here) ∙ ap (without root) s.is ∙ now in
        record {
          tree = subst (IsTreeOf new result) (sym is_now) made.tree;
          len = made.len;
          others = λ q apart.
              let apart_now : IsApart q (s.before ++ root ∷ s.after) =
              subst (IsApart q) s.is apart in
              made.others q (apart_both q s.before s.after
              (apart_left q s.before (root ∷ s.after) apart_now)
              (apart_right q s.before (root ∷ s.after) apart_now).1);
        }

    -- what taking it from one side makes
    abbrev pub Takes : ℕ → ℕ → Type 0
    Takes from to =
        (xs : List ℕ) → IsTreeOf old from xs → IsInOrder C xs → length xs ≤ most - 1
        → IsMade old mid to xs (without at xs)

    pub take_left : (left : ℕ) → root ≢ at → C at root ≢ Greater → Takes node.left left
        → (node_in mid root ≡ node → BecomesOne mid new left root node.right result)
        → IsMade old new result places (without at places)
    take_left left other never takes joins =
        let s = sides old root places some t in
        let in_order : IsInOrder C (s.before ++ root ∷ s.after) =
        subst (IsInOrder C) s.is sorted in
        let e = sorted_distinct C o (s.before ++ root ∷ s.after) in_order in
        let now : without at places ≡ without at s.before ++ root ∷ s.after =
        ap (without at) s.is ∙ without-append at s.before (root ∷ s.after)
        ∙ ap (λ xs. without at s.before ++ xs) (without_other at root s.after other
        ∙ ap (λ xs. root ∷ xs) (without_none at s.after
        (apart_behind C o at root s.after (all_above C s.before root s.after in_order)
        (not_greater C o at (C at root) never)))) in
        let made = takes s.before
        (subst (λ (n : Node). IsTreeOf old n.left s.before) (sym is) s.left)
        (sorted_left C s.before (root ∷ s.after) in_order)
        (shorter s.before s.after places root most s.is few).0 in
        subst (λ xs. IsMade old new result places xs) (sym now)
        (subst (λ xs. IsMade old new result xs (without at s.before ++ root ∷ s.after))
        (sym s.is)
        (made_at_left old mid new root result s.place left node.right s.before
        (without at s.before) s.after (λ same. joins (same ∙ sym is)) made
        (subst (λ (n : Node). IsTreeOf old n.right s.after) (sym is) s.right)
        (λ q apart. apart_without q at s.before apart) e
        (subst AreDistinct now (distinct_without at places
        (sorted_distinct C o places sorted)))))

    pub take_right : (right : ℕ) → root ≢ at → C at root ≡ Greater → Takes node.right right
        → (node_in mid root ≡ node → BecomesOne mid new node.left root right result)
        → IsMade old new result places (without at places)
    take_right right other above takes joins =
        let s = sides old root places some t in
        let in_order : IsInOrder C (s.before ++ root ∷ s.after) =
        subst (IsInOrder C) s.is sorted in
        let e = sorted_distinct C o (s.before ++ root ∷ s.after) in_order in
        let now : without at places ≡ s.before ++ root ∷ without at s.after =
        ap (without at) s.is ∙ without-append at s.before (root ∷ s.after)
        ∙ ap (λ xs. xs ++ without at (root ∷ s.after)) (without_none at s.before
        (apart_below C o at s.before root s.after in_order (above_not_less C o at root above)))
        ∙ ap (λ xs. s.before ++ xs) (without_other at root s.after other) in
        let made = takes s.after
        (subst (λ (n : Node). IsTreeOf old n.right s.after) (sym is) s.right)
        (sorted_behind C root s.after (sorted_right C s.before (root ∷ s.after) in_order))
        (shorter s.before s.after places root most s.is few).1 in
        subst (λ xs. IsMade old new result places xs) (sym now)
        (subst (λ xs. IsMade old new result xs (s.before ++ root ∷ without at s.after))
        (sym s.is)
        (made_at_right old mid new root result s.place node.left right s.after s.before
        (without at s.after) (λ same. joins (same ∙ sym is)) made
        (subst (λ (n : Node). IsTreeOf old n.left s.before) (sym is) s.left)
        (λ q apart. apart_without q at s.after apart) e
        (subst AreDistinct now (distinct_without at places
        (sorted_distinct C o places sorted)))))
