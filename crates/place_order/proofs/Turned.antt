-- Trees whose upper nodes change places.
use Rattle.std.proofs.Common.{◌≡◌, ℕ, List, ◌∷◌, ◌++◌, length, sym, ap, subst, ◌∙◌, refl}
use Rattle.std.proofs.Common.{append_assoc}
use Rattle.std.specs.Prelude.{◌≢◌}
use Rattle.place_order.specs.Orders.{AreDistinct, IsApart, IsPlaceIn}
use Rattle.place_order.specs.Trees.{IsJoined, IsMade, IsTreeOf, node_in}
use Rattle.place_order.specs.declared.nodes.Node.{Node}
use Rattle.place_order.proofs.Apart.{all_right, apart_from, apart_left}
use Rattle.place_order.proofs.Apart.{apart_right, between, distinct_apart, distinct_left}
use Rattle.place_order.proofs.Apart.{distinct_right}
use Rattle.place_order.proofs.Laid.{sides, tree_beside, tree_joined}

-- one place gets children, and then another one
module _ (old first second : List Node) (x y xl xr yl yr : ℕ)
    (j : IsJoined old first xl x xr) (k : IsJoined first second yl y yr) where
  pub others_two : (q : ℕ) → q ≢ x → q ≢ y → node_in second q ≡ node_in old q
  others_two q not_x not_y = k.others q not_y ∙ j.others q not_x

  -- the second above the first, which is on its right
  pub made_right : (bs cs rs : List ℕ) → yr ≡ x → AreDistinct (bs ++ y ∷ (cs ++ x ∷ rs))
      → IsPlaceIn (length old) x → IsPlaceIn (length old) y
      → IsTreeOf old yl bs → IsTreeOf old xl cs → IsTreeOf old xr rs
      → IsMade old second y (bs ++ y ∷ (cs ++ x ∷ rs)) (bs ++ y ∷ (cs ++ x ∷ rs))
  made_right bs cs rs top d in_x in_y b c r =
      let upper = between bs y (cs ++ x ∷ rs) d in
      let lower = between cs x rs (distinct_right bs (y ∷ (cs ++ x ∷ rs)) d).1 in
      let x_bs = apart_from x bs (y ∷ cs) rs (distinct_apart bs (y ∷ (cs ++ x ∷ rs)) d) in
      let t : IsTreeOf first yr (cs ++ x ∷ rs) =
      subst (λ p. IsTreeOf first p (cs ++ x ∷ rs)) (sym top)
      (tree_joined old first xl x xr j cs rs in_x lower.left lower.right c r) in
      record {
        tree = tree_joined first second yl y yr k bs (cs ++ x ∷ rs)
            (subst (λ n. IsPlaceIn n y) (sym j.len) in_y) upper.left upper.right
            (tree_beside old first xl x xr j yl bs x_bs b) t;
        len = k.len ∙ j.len;
        others = λ q apart.
            let behind = apart_right q bs (y ∷ (cs ++ x ∷ rs)) apart in
            others_two q (apart_right q cs (x ∷ rs) behind.1).0 behind.0;
      }

  -- the second above the first, which is on its left
  pub made_left : (ls bs cs : List ℕ) → yl ≡ x → AreDistinct ((ls ++ x ∷ bs) ++ y ∷ cs)
      → IsPlaceIn (length old) x → IsPlaceIn (length old) y
      → IsTreeOf old xl ls → IsTreeOf old xr bs → IsTreeOf old yr cs
      → IsMade old second y ((ls ++ x ∷ bs) ++ y ∷ cs) ((ls ++ x ∷ bs) ++ y ∷ cs)
  made_left ls bs cs top d in_x in_y l b c =
      let upper = between (ls ++ x ∷ bs) y cs d in
      let lower = between ls x bs (distinct_left (ls ++ x ∷ bs) (y ∷ cs) d) in
      let x_cs = (all_right (λ p. IsApart p (y ∷ cs)) ls (x ∷ bs)
      (distinct_apart (ls ++ x ∷ bs) (y ∷ cs) d)).0.1 in
      let t : IsTreeOf first yl (ls ++ x ∷ bs) =
      subst (λ p. IsTreeOf first p (ls ++ x ∷ bs)) (sym top)
      (tree_joined old first xl x xr j ls bs in_x lower.left lower.right l b) in
      record {
        tree = tree_joined first second yl y yr k (ls ++ x ∷ bs) cs
            (subst (λ n. IsPlaceIn n y) (sym j.len) in_y) upper.left upper.right t
            (tree_beside old first xl x xr j yr cs x_cs c);
        len = k.len ∙ j.len;
        others = λ q apart. others_two q
            (apart_right q ls (x ∷ bs) (apart_left q (ls ++ x ∷ bs) (y ∷ cs) apart)).0
            (apart_right q (ls ++ x ∷ bs) (y ∷ cs) apart).0;
      }

-- two places get children, and then a third one above both
module _ (old first second third : List Node) (x y z xl xr yl yr : ℕ)
    (j : IsJoined old first xl x xr) (k : IsJoined first second yl y yr)
    (m : IsJoined second third x z y) where
  pub made_both : (hs bs cs ds : List ℕ) → AreDistinct ((hs ++ x ∷ bs) ++ z ∷ (cs ++ y ∷ ds))
      → IsPlaceIn (length old) x → IsPlaceIn (length old) y → IsPlaceIn (length old) z
      → IsTreeOf old xl hs → IsTreeOf old xr bs → IsTreeOf old yl cs → IsTreeOf old yr ds
      → IsMade old third z ((hs ++ x ∷ bs) ++ z ∷ (cs ++ y ∷ ds))
      ((hs ++ x ∷ bs) ++ z ∷ (cs ++ y ∷ ds))
  made_both hs bs cs ds d in_x in_y in_z a b c e =
      let upper = between (hs ++ x ∷ bs) z (cs ++ y ∷ ds) d in
      let to_left = between hs x bs (distinct_left (hs ++ x ∷ bs) (z ∷ (cs ++ y ∷ ds)) d) in
      let to_right = between cs y ds
      (distinct_right (hs ++ x ∷ bs) (z ∷ (cs ++ y ∷ ds)) d).1 in
      let across = distinct_apart (hs ++ x ∷ bs) (z ∷ (cs ++ y ∷ ds)) d in
      let x_across = (all_right (λ p. IsApart p (z ∷ (cs ++ y ∷ ds))) hs (x ∷ bs) across).0.1 in
      let y_across = apart_from y (hs ++ x ∷ bs) (z ∷ cs) ds across in
      let l = tree_joined old first xl x xr j hs bs in_x to_left.left to_left.right a b in
      let r = tree_joined first second yl y yr k cs ds
      (subst (λ n. IsPlaceIn n y) (sym j.len) in_y) to_right.left to_right.right
      (tree_beside old first xl x xr j yl cs (apart_left x cs (y ∷ ds) x_across) c)
      (tree_beside old first xl x xr j yr ds (apart_right x cs (y ∷ ds) x_across).1 e) in
      record {
        tree = tree_joined second third x z y m (hs ++ x ∷ bs) (cs ++ y ∷ ds)
            (subst (λ n. IsPlaceIn n z) (sym (k.len ∙ j.len)) in_z) upper.left upper.right
            (tree_beside first second yl y yr k x (hs ++ x ∷ bs) y_across l) r;
        len = m.len ∙ (k.len ∙ j.len);
        others = λ q apart.
            let before = apart_left q (hs ++ x ∷ bs) (z ∷ (cs ++ y ∷ ds)) apart in
            let behind = apart_right q (hs ++ x ∷ bs) (z ∷ (cs ++ y ∷ ds)) apart in
            m.others q behind.0 ∙ (k.others q (apart_right q cs (y ∷ ds) behind.1).0
            ∙ j.others q (apart_right q hs (x ∷ bs) before).0);
      }

-- what is made of these places is made of those, if they are the same
pub made_of : (old new : List Node) (root : ℕ) (these those : List ℕ) → these ≡ those
    → IsMade old new root these these → IsMade old new root those those
made_of old new root these those is made =
    subst (λ xs. IsMade old new root xs xs) is made

-- the left root goes up, and the upper one goes down to the right
module _ (old first second : List Node) (left at right : ℕ) (top : Node) (ls rs : List ℕ)
    (is : top ≡ node_in old left) (some : left ≢ 4294967295)
    (j : IsJoined old first top.right at right) (k : IsJoined first second top.left left at)
    (l : IsTreeOf old left ls) (r : IsTreeOf old right rs) (place : IsPlaceIn (length old) at)
    (d : AreDistinct (ls ++ at ∷ rs)) where
  pub turned_right : IsMade old second left (ls ++ at ∷ rs) (ls ++ at ∷ rs)
  turned_right =
      let s = sides old left ls some l in
      let same : s.before ++ left ∷ (s.after ++ at ∷ rs) ≡ ls ++ at ∷ rs =
      sym (append_assoc s.before (left ∷ s.after) (at ∷ rs))
      ∙ ap (λ xs. xs ++ at ∷ rs) (sym s.is) in
      made_of old second left (s.before ++ left ∷ (s.after ++ at ∷ rs)) (ls ++ at ∷ rs) same
      (made_right old first second at left top.right right top.left at j k
      s.before s.after rs refl (subst AreDistinct (sym same) d) place s.place
      (subst (λ (n : Node). IsTreeOf old n.left s.before) (sym is) s.left)
      (subst (λ (n : Node). IsTreeOf old n.right s.after) (sym is) s.right) r)

-- the right root goes up, and the upper one goes down to the left
module _ (old first second : List Node) (left at right : ℕ) (top : Node) (ls rs : List ℕ)
    (is : top ≡ node_in old right) (some : right ≢ 4294967295)
    (j : IsJoined old first left at top.left) (k : IsJoined first second at right top.right)
    (l : IsTreeOf old left ls) (r : IsTreeOf old right rs) (place : IsPlaceIn (length old) at)
    (d : AreDistinct (ls ++ at ∷ rs)) where
  pub turned_left : IsMade old second right (ls ++ at ∷ rs) (ls ++ at ∷ rs)
  turned_left =
      let s = sides old right rs some r in
      let same : (ls ++ at ∷ s.before) ++ right ∷ s.after ≡ ls ++ at ∷ rs =
      append_assoc ls (at ∷ s.before) (right ∷ s.after) ∙ ap (λ xs. ls ++ at ∷ xs) (sym s.is) in
      made_of old second right ((ls ++ at ∷ s.before) ++ right ∷ s.after) (ls ++ at ∷ rs) same
      (made_left old first second at right left top.left at top.right j k
      ls s.before s.after refl (subst AreDistinct (sym same) d) place s.place l
      (subst (λ (n : Node). IsTreeOf old n.left s.before) (sym is) s.left)
      (subst (λ (n : Node). IsTreeOf old n.right s.after) (sym is) s.right))

-- what is between the left root and the upper one goes up above both
module _ (old first second third : List Node) (left at right : ℕ) (top middle : Node)
    (ls rs : List ℕ) (is : top ≡ node_in old left) (some : left ≢ 4294967295)
    (inner : middle ≡ node_in old top.right) (more : top.right ≢ 4294967295)
    (j : IsJoined old first top.left left middle.left)
    (k : IsJoined first second middle.right at right)
    (m : IsJoined second third left top.right at)
    (l : IsTreeOf old left ls) (r : IsTreeOf old right rs) (place : IsPlaceIn (length old) at)
    (d : AreDistinct (ls ++ at ∷ rs)) where
  pub raised_right : IsMade old third top.right (ls ++ at ∷ rs) (ls ++ at ∷ rs)
  raised_right =
      let s = sides old left ls some l in
      let b : IsTreeOf old top.left s.before =
      subst (λ (n : Node). IsTreeOf old n.left s.before) (sym is) s.left in
      let t : IsTreeOf old top.right s.after =
      subst (λ (n : Node). IsTreeOf old n.right s.after) (sym is) s.right in
      let u = sides old top.right s.after more t in
      let parted : ls ≡ (s.before ++ left ∷ u.before) ++ top.right ∷ u.after =
      s.is ∙ ap (λ xs. s.before ++ left ∷ xs) u.is
      ∙ sym (append_assoc s.before (left ∷ u.before) (top.right ∷ u.after)) in
      let same : (s.before ++ left ∷ u.before) ++ top.right ∷ (u.after ++ at ∷ rs)
      ≡ ls ++ at ∷ rs =
      sym (append_assoc (s.before ++ left ∷ u.before) (top.right ∷ u.after) (at ∷ rs))
      ∙ ap (λ xs. xs ++ at ∷ rs) (sym parted) in
      made_of old third top.right
      ((s.before ++ left ∷ u.before) ++ top.right ∷ (u.after ++ at ∷ rs)) (ls ++ at ∷ rs) same
      (made_both old first second third left at top.right top.left middle.left middle.right
      right j k m s.before u.before u.after rs (subst AreDistinct (sym same) d) s.place place
      u.place b
      (subst (λ (n : Node). IsTreeOf old n.left u.before) (sym inner) u.left)
      (subst (λ (n : Node). IsTreeOf old n.right u.after) (sym inner) u.right) r)

-- what is between the upper one and the right root goes up above both
module _ (old first second third : List Node) (left at right : ℕ) (top middle : Node)
    (ls rs : List ℕ) (is : top ≡ node_in old right) (some : right ≢ 4294967295)
    (inner : middle ≡ node_in old top.left) (more : top.left ≢ 4294967295)
    (j : IsJoined old first left at middle.left)
    (k : IsJoined first second middle.right right top.right)
    (m : IsJoined second third at top.left right)
    (l : IsTreeOf old left ls) (r : IsTreeOf old right rs) (place : IsPlaceIn (length old) at)
    (d : AreDistinct (ls ++ at ∷ rs)) where
  pub raised_left : IsMade old third top.left (ls ++ at ∷ rs) (ls ++ at ∷ rs)
  raised_left =
      let s = sides old right rs some r in
      let t : IsTreeOf old top.left s.before =
      subst (λ (n : Node). IsTreeOf old n.left s.before) (sym is) s.left in
      let e : IsTreeOf old top.right s.after =
      subst (λ (n : Node). IsTreeOf old n.right s.after) (sym is) s.right in
      let u = sides old top.left s.before more t in
      let parted : rs ≡ u.before ++ top.left ∷ (u.after ++ right ∷ s.after) =
      s.is ∙ ap (λ xs. xs ++ right ∷ s.after) u.is
      ∙ append_assoc u.before (top.left ∷ u.after) (right ∷ s.after) in
      let same : (ls ++ at ∷ u.before) ++ top.left ∷ (u.after ++ right ∷ s.after)
      ≡ ls ++ at ∷ rs =
      append_assoc ls (at ∷ u.before) (top.left ∷ (u.after ++ right ∷ s.after))
      ∙ ap (λ xs. ls ++ at ∷ xs) (sym parted) in
      made_of old third top.left
      ((ls ++ at ∷ u.before) ++ top.left ∷ (u.after ++ right ∷ s.after)) (ls ++ at ∷ rs) same
      (made_both old first second third at right top.left left middle.left middle.right
      top.right j k m ls u.before u.after s.after (subst AreDistinct (sym same) d) place
      s.place u.place l
      (subst (λ (n : Node). IsTreeOf old n.left u.before) (sym inner) u.left)
      (subst (λ (n : Node). IsTreeOf old n.right u.after) (sym inner) u.right) e)
