-- A tree and a chain of the same places, as places come and go.
use Rattle.std.proofs.Common.{◌≡◌, ◌<◌, ◌≤◌, ◌+◌, ℕ, List, [], ◌∷◌, ◌++◌, length, refl, ◌∙◌, ap}
use Rattle.std.proofs.Common.{sym, subst, arith, length-append, true, false, Bool, eqb}
use Rattle.std.specs.Prelude.{◌≢◌}
use Rattle.std.specs.declared.cmp.Ordering.{Ordering}
use Rattle.std.specs.declared.cmp.Ordering.TheVariants.{Equal}
use Rattle.std.specs.Ordering.{is_gt}
use Rattle.std.specs.Cmp.{IsTotalOrder}
use Rattle.std.specs.List.{AllByRecursion, IsDistinct, list_any}
use Rattle.std.specs.List.Sorted.{IsStrictlySortedBy}
use Rattle.std.proofs.lemmas.Map.Steps.{length-le_from_distinct_below}
use borrow.Author.Tests.{eqb-true, ne_eqb}
use Rattle.segments.specs.Segments.{Roomy}
use Rattle.place_order.specs.declared.nodes.Node.{Node}
use Rattle.place_order.specs.Chains.{AreChained, last_of, walked}
use Rattle.place_order.specs.Kept.{AreKept}
use Rattle.place_order.specs.Orders.{AreBelow, AreDistinct, IsApart, IsInserted, placed, without}
use Rattle.place_order.specs.Room.{space_in}
use Rattle.place_order.specs.Trees.{IsCut, IsTreeOf}
use Rattle.place_order.proofs.Apart.{all_right, all_weaker, apart_both}
use Rattle.place_order.proofs.Chained.{length-walked, walked_is}
use Rattle.place_order.proofs.Ranked.{IsInOrder, all_above, all_placed, all_without, apart_behind}
use Rattle.place_order.proofs.Ranked.{apart_own, apart_passing, distinct_without, placed_between}
use Rattle.place_order.proofs.Ranked.{placed_sorted, sorted_distinct, sorted_right, sorted_without}
use Rattle.place_order.proofs.Ranked.{without_between, without_none}

-- ---- how many places there are
distinct_keys : (places : List ℕ) → AreDistinct places → IsDistinct eqb places
unfolding IsDistinct
distinct_keys [] d = tt
distinct_keys (place ∷ places) d = (
  all_weaker (λ x. place ≢ x) (λ x. eqb place x ≡ false) (λ x other. ne_eqb place x other)
      places d.0,
  distinct_keys places d.1,
)

member_below : (room : ℕ) (places : List ℕ) → AreBelow room places → (q : ℕ)
    → list_any (eqb q) places ≡ true → q < room
member_below room [] below q found = cc
member_below room (place ∷ places) below q found =
    by (member_below room places below.1 q) (eqb q place) refl
  where
    by : (list_any (eqb q) places ≡ true → q < room) → (b : Bool) → eqb q place ≡ b → q < room
    by rest true here = subst (λ x. x < room) (sym (eqb-true q place here)) below.0
    by rest false other = rest (rw other at found)

-- places that are below a number, each once, are at most so many
pub few_below : (room : ℕ) (places : List ℕ) → AreDistinct places → AreBelow room places
    → length places ≤ room
few_below room places d below =
    length-le_from_distinct_below places room (distinct_keys places d)
    (member_below room places below)

-- from a number on there is none
pub apart_from_room : (room at : ℕ) (places : List ℕ) → room ≤ at → AreBelow room places
    → IsApart at places
apart_from_room room at places from below =
    all_weaker (λ p. p < room) (λ p. at ≢ p) (λ p less e. omega (arith, from, less, e)) places below

-- a walk is as long as it says
pub few_of : (nexts : List ℕ) (first len : ℕ) (places : List ℕ)
    → walked nexts first len ≡ places → length places ≤ len
few_of nexts first len places is =
    let long = length-walked nexts first len in
    let same = ap (λ xs. length xs) is in omega arith

-- ---- more memory
pub kept_more : (nodes new_nodes : Roomy Node) (root new_root : ℕ) (nexts new_nexts : Roomy ℕ)
    (first new_first len new_len room new_room : ℕ)
    → AreKept nodes root nexts first (walked nexts.items first len) room
    → new_nodes.items ≡ nodes.items → new_root ≡ root → new_nexts.items ≡ nexts.items
    → new_first ≡ first → new_len ≡ len → room ≤ new_room → new_room ≤ space_in new_nodes
    → new_room ≤ space_in new_nexts → new_room ≤ 4294967295
    → AreKept new_nodes new_root new_nexts new_first
    (walked new_nexts.items new_first new_len) new_room
kept_more nodes new_nodes root new_root nexts new_nexts first new_first len new_len room new_room
    kept of_nodes of_root of_nexts of_first of_len more in_nodes in_nexts small =
    let same : walked nexts.items first len ≡ walked new_nexts.items new_first new_len =
    sym (λ i. walked (of_nexts i) (of_first i) (of_len i)) in
    subst (λ xs. AreKept new_nodes new_root new_nexts new_first xs new_room) same record {
      tree = subst (λ ns. IsTreeOf ns new_root (walked nexts.items first len)) (sym of_nodes)
          (subst (λ r. IsTreeOf nodes.items r (walked nexts.items first len)) (sym of_root)
          kept.tree);
      chain = subst (λ ns. AreChained ns new_first (walked nexts.items first len)) (sym of_nexts)
          (subst (λ f. AreChained nexts.items f (walked nexts.items first len)) (sym of_first)
          kept.chain);
      distinct = kept.distinct;
      below = all_weaker (λ p. p < room) (λ p. p < new_room) (λ p less. omega (arith, less, more))
          (walked nexts.items first len) kept.below;
      tree_space = in_nodes;
      chain_space = in_nexts;
      small = small;
    }

-- a place that wasn't there was taken
pub kept_without : (nodes new_nodes : Roomy Node) (root new_root : ℕ) (nexts : Roomy ℕ)
    (first at room : ℕ) (places : List ℕ) → AreKept nodes root nexts first places room
    → IsApart at places → IsTreeOf new_nodes.items new_root (without at places)
    → space_in new_nodes ≡ space_in nodes
    → AreKept new_nodes new_root nexts first places room
kept_without nodes new_nodes root new_root nexts first at room places kept apart tree in_nodes =
    record {
      tree = subst (IsTreeOf new_nodes.items new_root) (without_none at places apart) tree;
      chain = kept.chain;
      distinct = kept.distinct;
      below = kept.below;
      tree_space = omega (arith, kept.tree_space, in_nodes);
      chain_space = kept.chain_space;
      small = kept.small;
    }

-- what comes behind the places below one
module _ (C : ℕ → ℕ → Ordering) (o : IsTotalOrder C) (at : ℕ) (nexts : List ℕ)
    (first before here : ℕ) (places : List ℕ) (chain : AreChained nexts first places)
    (cut : IsCut (λ x. is_gt (C at x)) 4294967295 before places)
    (behind : (front back : List ℕ) → AreChained nexts first (front ++ back)
    → before ≡ last_of 4294967295 front → AreChained nexts here back) where
  pub chain_behind : AreChained nexts here cut.back
  chain_behind =
      behind cut.front cut.back (subst (AreChained nexts first) cut.is chain) cut.at_end

  -- where that is another place, this one isn't there
  pub not_there : IsInOrder C places → here ≢ at → IsApart at places
  not_there sorted other =
      subst (IsApart at) (sym cut.is) (apart_both at cut.front cut.back
      (apart_passing C o at cut.front cut.passes)
      (by cut.back (sorted_right C cut.front cut.back (subst (IsInOrder C) cut.is sorted))
      chain_behind cut.fails))
    where
      by : (back : List ℕ) → IsInOrder C back → AreChained nexts here back
          → AllByRecursion (λ x. is_gt (C at x) ≡ false) back → IsApart at back
      by [] in_order then fails = tt
      by (y ∷ ys) in_order then fails = (
        λ e. other (then.0 ∙ sym e),
        apart_behind C o at y ys (all_above C [] y ys in_order) fails.0,
      )

-- after a change, places are kept in order again, and something holds of them
pub record AreKeptNow (C : ℕ → ℕ → Ordering) (nodes : Roomy Node) (root : ℕ) (nexts : Roomy ℕ)
    (first len room : ℕ) (P : List ℕ → Type 0) : Type 0 where
  pub kept : AreKept nodes root nexts first (walked nexts.items first len) room
  pub changed : P (walked nexts.items first len)
  pub ordered : IsStrictlySortedBy C (walked nexts.items first len)

module _ (C : ℕ → ℕ → Ordering) (o : IsTotalOrder C) (at : ℕ) (nodes new_nodes : Roomy Node)
    (root new_root : ℕ) (nexts new_nexts : Roomy ℕ) (first new_first len new_len room before : ℕ)
    (places : List ℕ) (is : walked nexts.items first len ≡ places)
    (kept : AreKept nodes root nexts first places room) (sorted : IsInOrder C places)
    (cut : IsCut (λ x. is_gt (C at x)) 4294967295 before places)
    (in_nodes : space_in new_nodes ≡ space_in nodes)
    (in_nexts : space_in new_nexts ≡ space_in nexts) where
  len_is : len ≡ length places
  len_is = sym (length-walked nexts.items first len) ∙ ap (λ xs. length xs) is

  cut_length : length places ≡ length cut.front + length cut.back
  cut_length = ap (λ xs. length xs) cut.is ∙ length-append cut.front cut.back

  walk_of : (xs : List ℕ) → AreChained new_nexts.items new_first xs → new_len ≡ length xs
      → walked new_nexts.items new_first new_len ≡ xs
  walk_of xs chain long =
      ap (walked new_nexts.items new_first) long ∙ walked_is new_nexts.items new_first xs chain

  kept_of : (xs : List ℕ) → walked new_nexts.items new_first new_len ≡ xs
      → IsTreeOf new_nodes.items new_root xs → AreChained new_nexts.items new_first xs
      → AreDistinct xs → AreBelow room xs
      → AreKept new_nodes new_root new_nexts new_first
      (walked new_nexts.items new_first new_len) room
  kept_of xs now tree chain d below =
      subst (λ ys. AreKept new_nodes new_root new_nexts new_first ys room) (sym now) record {
        tree = tree;
        chain = chain;
        distinct = d;
        below = below;
        tree_space = omega (arith, kept.tree_space, in_nodes);
        chain_space = omega (arith, kept.chain_space, in_nexts);
        small = kept.small;
      }

  -- a place came
  pub was_put : AllByRecursion (λ x. C at x ≢ Equal) places → at < room
      → IsTreeOf new_nodes.items new_root (placed C at places)
      → ((front back : List ℕ) → AreChained nexts.items first (front ++ back)
      → before ≡ last_of 4294967295 front → AreDistinct (front ++ back)
      → IsApart at (front ++ back)
      → AreChained new_nexts.items new_first (front ++ at ∷ back))
      → new_len ≡ len + 1
      → AreKeptNow C new_nodes new_root new_nexts new_first new_len room (IsInserted at places)
  was_put own within tree links longer =
      let own_there : AllByRecursion (λ x. C at x ≢ Equal) (cut.front ++ cut.back) =
      subst (AllByRecursion (λ x. C at x ≢ Equal)) cut.is own in
      let to_back = all_right (λ x. C at x ≢ Equal) cut.front cut.back own_there in
      let now : placed C at places ≡ cut.front ++ at ∷ cut.back =
      ap (placed C at) cut.is
      ∙ placed_between C o at cut.front cut.back cut.passes cut.fails to_back in
      let chain : AreChained new_nexts.items new_first (cut.front ++ at ∷ cut.back) =
      links cut.front cut.back (subst (AreChained nexts.items first) cut.is kept.chain)
      cut.at_end (subst AreDistinct cut.is kept.distinct)
      (apart_own C o at (cut.front ++ cut.back) own_there) in
      let walk = walk_of (cut.front ++ at ∷ cut.back) chain
      (omega (arith, longer, len_is, cut_length, length-append cut.front (at ∷ cut.back))) in
      let in_order = placed_sorted C o at places sorted own in
      record {
        kept = kept_of (placed C at places) (walk ∙ sym now) tree
            (subst (AreChained new_nexts.items new_first) (sym now) chain)
            (sorted_distinct C o (placed C at places) in_order)
            (all_placed C o at (λ p. p < room) places within kept.below);
        changed = record { before = cut.front; after = cut.back; was = cut.is; is = walk };
        ordered = subst (IsInOrder C) (now ∙ sym walk) in_order;
      }

  -- a place went
  pub was_taken : (here : ℕ) → AreChained nexts.items here cut.back → here ≡ at → at < room
      → IsTreeOf new_nodes.items new_root (without at places)
      → ((front back : List ℕ) → AreChained nexts.items first (front ++ at ∷ back)
      → before ≡ last_of 4294967295 front → AreDistinct (front ++ at ∷ back)
      → AreChained new_nexts.items new_first (front ++ back))
      → new_len + 1 ≡ len
      → AreKeptNow C new_nodes new_root new_nexts new_first new_len room
      (λ xs. xs ≡ without at places)
  was_taken here chain_here found within tree unlinks shorter = by cut.back refl chain_here
    where
      by : (back : List ℕ) → cut.back ≡ back → AreChained nexts.items here back
          → AreKeptNow C new_nodes new_root new_nexts new_first new_len room
          (λ xs. xs ≡ without at places)
      by [] e chain = absurd (omega (arith, kept.small, within, found, chain))
      by (y ∷ rest) e chain =
          let top : y ≡ at = sym chain.0 ∙ found in
          let parted : places ≡ cut.front ++ at ∷ rest =
          cut.is ∙ ap (λ xs. cut.front ++ xs) (e ∙ ap (λ x. x ∷ rest) top) in
          let d : AreDistinct (cut.front ++ at ∷ rest) =
          subst AreDistinct parted kept.distinct in
          let now : without at places ≡ cut.front ++ rest =
          ap (without at) parted ∙ without_between at cut.front rest d in
          let chain_now : AreChained new_nexts.items new_first (cut.front ++ rest) =
          unlinks cut.front rest (subst (AreChained nexts.items first) parted kept.chain)
          cut.at_end d in
          let long : length places ≡ length cut.front + length (at ∷ rest) =
          ap (λ xs. length xs) parted ∙ length-append cut.front (at ∷ rest) in
          let walk = walk_of (cut.front ++ rest) chain_now
          (omega (arith, shorter, len_is, long, length-append cut.front rest)) in
          let removed : walked new_nexts.items new_first new_len ≡ without at places =
          walk ∙ sym now in
          record {
            kept = kept_of (without at places) removed tree
                (subst (AreChained new_nexts.items new_first) (sym now) chain_now)
                (distinct_without at places kept.distinct)
                (all_without (λ p. p < room) at places kept.below);
            changed = removed;
            ordered = subst (IsInOrder C) (sym removed) (sorted_without C at places sorted);
          }
