-- Trees of places in a list of nodes.
use Rattle.std.proofs.Common.{◌≡◌, ℕ, ◌≤◌, List, [], ◌∷◌, ◌++◌, length, sym, ap, subst}
use Rattle.std.proofs.Common.{◌∙◌, refl, arith}
use Rattle.std.specs.Prelude.{◌≢◌}
use Rattle.std.specs.List.{AllByRecursion}
use Rattle.place_order.specs.Orders.{AreDistinct, IsApart, IsPlaceIn}
use Rattle.place_order.specs.Trees.{AreLaid, Empty, Fork, IsJoined, IsMade, IsTreeOf, Shape, listed}
use Rattle.place_order.specs.Trees.{node_in}
use Rattle.place_order.specs.declared.nodes.Node.{Node}
use Rattle.place_order.proofs.Apart.{all_both, all_left, all_right, all_weaker, between}

-- nodes that are the same
abbrev pub AreSame : List Node → List Node → List ℕ → Type 0
AreSame old new places = AllByRecursion (λ q. node_in new q ≡ node_in old q) places

pub all_same : (old new : List Node) → ((q : ℕ) → node_in new q ≡ node_in old q)
    → (places : List ℕ) → AreSame old new places
all_same old new same [] = tt
all_same old new same (place ∷ places) = (same place, all_same old new same places)

module _ (old new : List Node) (more : length old ≤ length new) where
  laid_kept : (root : ℕ) (shape : Shape) → AreSame old new (listed shape)
      → AreLaid old root shape → AreLaid new root shape
  laid_kept root Empty same laid = laid
  laid_kept root (Fork before at after) same laid =
      let after_at = all_right (λ q. node_in new q ≡ node_in old q) (listed before)
      (at ∷ listed after) same in (
        laid.0,
        (omega (arith, laid.1.0), laid.1.1),
        subst (λ (n : Node). AreLaid new n.left before) (sym after_at.0)
            (laid_kept (node_in old at).left before
            (all_left (λ q. node_in new q ≡ node_in old q) (listed before)
            (at ∷ listed after) same) laid.2),
        subst (λ (n : Node). AreLaid new n.right after) (sym after_at.0)
            (laid_kept (node_in old at).right after after_at.1 laid.3),
      )

  -- a tree stays where its nodes do
  pub tree_kept : (root : ℕ) (places : List ℕ) → AreSame old new places
      → IsTreeOf old root places → IsTreeOf new root places
  tree_kept root places same t = record {
    shape = t.shape;
    laid = laid_kept root t.shape (subst (AreSame old new) (sym t.is) same) t.laid;
    is = t.is;
  }

-- the tree without places
pub empty_tree : (nodes : List Node) → IsTreeOf nodes 4294967295 []
empty_tree nodes = record { shape = Empty; laid = refl; is = refl }

-- the root of a tree that has places, and what is on either side
pub record HasSides (nodes : List Node) (root : ℕ) (places : List ℕ) : Type 0 where
  pub before : List ℕ
  pub after : List ℕ
  pub left : IsTreeOf nodes (node_in nodes root).left before
  pub right : IsTreeOf nodes (node_in nodes root).right after
  pub place : IsPlaceIn (length nodes) root
  pub is : places ≡ before ++ root ∷ after

module _ (nodes : List Node) (root : ℕ) (places : List ℕ) where
  sides_of : (shape : Shape) → root ≢ 4294967295 → AreLaid nodes root shape
      → listed shape ≡ places → HasSides nodes root places
  sides_of Empty some laid is = absurd (some laid)
  sides_of (Fork before at after) some laid is = record {
    before = listed before;
    after = listed after;
    left = record {
      shape = before;
      laid = subst (λ p. AreLaid nodes (node_in nodes p).left before) (sym laid.0) laid.2;
      is = refl;
    };
    right = record {
      shape = after;
      laid = subst (λ p. AreLaid nodes (node_in nodes p).right after) (sym laid.0) laid.3;
      is = refl;
    };
    place = subst (IsPlaceIn (length nodes)) (sym laid.0) laid.1;
    is = sym is ∙ ap (λ p. listed before ++ p ∷ listed after) (sym laid.0);
  }

  pub sides : root ≢ 4294967295 → IsTreeOf nodes root places → HasSides nodes root places
  sides some t = sides_of t.shape some t.laid t.is

  none_of : (shape : Shape) → root ≡ 4294967295 → AreLaid nodes root shape
      → listed shape ≡ places → places ≡ []
  none_of Empty none laid is = sym is
  none_of (Fork before at after) none laid is =
      absurd (omega (arith, none, laid.0, laid.1.1))

  -- no root, no places
  pub no_places : root ≡ 4294967295 → IsTreeOf nodes root places → places ≡ []
  no_places none t = none_of t.shape none t.laid t.is

-- each place of a tree has a node
pub tree_within : (nodes : List Node) (root : ℕ) (places : List ℕ) → IsTreeOf nodes root places
    → AllByRecursion (IsPlaceIn (length nodes)) places
tree_within nodes root places t =
    subst (AllByRecursion (IsPlaceIn (length nodes))) t.is (by root t.shape t.laid)
  where
    by : (top : ℕ) (shape : Shape) → AreLaid nodes top shape
        → AllByRecursion (IsPlaceIn (length nodes)) (listed shape)
    by top Empty laid = tt
    by top (Fork before at after) laid =
        all_both (IsPlaceIn (length nodes)) (listed before) (at ∷ listed after)
        (by (node_in nodes at).left before laid.2)
        (laid.1, by (node_in nodes at).right after laid.3)

-- a place got two children
module _ (old new : List Node) (left at right : ℕ) (joined : IsJoined old new left at right) where
  same_apart : (places : List ℕ) → IsApart at places → AreSame old new places
  same_apart places apart =
      all_weaker (λ x. at ≢ x) (λ q. node_in new q ≡ node_in old q)
      (λ x not. joined.others x (λ e. not (sym e))) places apart

  -- a tree that it isn't in is still there
  pub tree_beside : (root : ℕ) (places : List ℕ) → IsApart at places
      → IsTreeOf old root places → IsTreeOf new root places
  tree_beside root places apart t =
      tree_kept old new (omega (arith, joined.len)) root places (same_apart places apart) t

  -- it is the root of a tree
  pub tree_joined : (ls rs : List ℕ) → IsPlaceIn (length old) at → IsApart at ls
      → IsApart at rs → IsTreeOf old left ls → IsTreeOf old right rs
      → IsTreeOf new at (ls ++ at ∷ rs)
  tree_joined ls rs place from_ls from_rs l r =
      let l_now = tree_beside left ls from_ls l in
      let r_now = tree_beside right rs from_rs r in
      record {
        shape = Fork l_now.shape at r_now.shape;
        laid = (
          refl,
          subst (λ n. IsPlaceIn n at) (sym joined.len) place,
          subst (λ p. AreLaid new p l_now.shape) (sym (joined.to_left place.0)) l_now.laid,
          subst (λ p. AreLaid new p r_now.shape) (sym (joined.to_right place.0)) r_now.laid,
        );
        is = ap (λ xs. xs ++ at ∷ listed r_now.shape) l_now.is
            ∙ ap (λ ys. ls ++ at ∷ ys) r_now.is;
      }

  -- the same, and all else stays
  pub made_joined : (ls rs : List ℕ) → IsTreeOf old left ls → IsTreeOf old right rs
      → IsPlaceIn (length old) at → AreDistinct (ls ++ at ∷ rs)
      → IsMade old new at (ls ++ at ∷ rs) (ls ++ at ∷ rs)
  made_joined ls rs l r place d =
      let b = between ls at rs d in
      record {
        tree = tree_joined ls rs place b.left b.right l r;
        len = joined.len;
        others = λ q apart. joined.others q
            (all_right (λ x. q ≢ x) ls (at ∷ rs) apart).0;
      }

-- two children that a place has had
pub already_joined : (nodes : List Node) (node : Node) (left at right : ℕ) → left ≡ node.left
    → right ≡ node.right → node_in nodes at ≡ node → IsJoined nodes nodes left at right
already_joined nodes node left at right on_left on_right is = record {
  len = refl;
  to_left = λ within. ap (λ (n : Node). n.left) is ∙ sym on_left;
  to_right = λ within. ap (λ (n : Node). n.right) is ∙ sym on_right;
  others = λ q other. refl;
}
