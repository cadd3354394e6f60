-- Chains of places, and one place more or less in them.
use Rattle.std.proofs.Common.{◌≡◌, ◌<◌, ◌≤◌, ℕ, List, [], ◌∷◌, ◌++◌, length, refl, ◌∙◌, ap, sym}
use Rattle.std.proofs.Common.{subst, arith, zero, suc}
use Rattle.std.specs.Prelude.{◌≢◌}
use Rattle.std.specs.List.{AllByRecursion}
use Rattle.place_order.specs.Chains.{AreChained, IsLed, last_of, next_in, walked}
use Rattle.place_order.specs.Orders.{AreDistinct, IsApart, IsPlaceIn}
use Rattle.place_order.proofs.Apart.{all_weaker, apart_left, apart_right, between}
use Rattle.place_order.proofs.Apart.{distinct_left}

-- the walk from the first place on goes over all of them
pub walked_is : (nexts : List ℕ) (at : ℕ) (places : List ℕ) → AreChained nexts at places
    → walked nexts at (length places) ≡ places
walked_is nexts at [] chain = refl
walked_is nexts at (place ∷ places) chain =
    ap (λ x. x ∷ walked nexts (next_in nexts x) (length places)) chain.0
    ∙ ap (λ xs. place ∷ xs) (walked_is nexts (next_in nexts place) places chain.2)

pub length-walked : (nexts : List ℕ) (at left : ℕ) → length (walked nexts at left) ≡ left
length-walked nexts at zero = refl
length-walked nexts at (suc left) = ap suc (length-walked nexts (next_in nexts at) left)

-- each place of a chain knows what comes next
pub chain_within : (nexts : List ℕ) (at : ℕ) (places : List ℕ) → AreChained nexts at places
    → AllByRecursion (IsPlaceIn (length nexts)) places
chain_within nexts at [] chain = tt
chain_within nexts at (place ∷ places) chain =
    (chain.1, chain_within nexts (next_in nexts place) places chain.2)

-- links that are the same
abbrev pub AreSameLinks : List ℕ → List ℕ → List ℕ → Type 0
AreSameLinks old new places = AllByRecursion (λ q. next_in new q ≡ next_in old q) places

pub chain_kept : (old new : List ℕ) → length old ≤ length new → (at : ℕ) (places : List ℕ)
    → AreSameLinks old new places → AreChained old at places → AreChained new at places
chain_kept old new more at [] same chain = chain
chain_kept old new more at (place ∷ places) same chain = (
  chain.0,
  (omega (arith, chain.1.0, more), chain.1.1),
  subst (λ x. AreChained new x places) (sym same.0)
      (chain_kept old new more (next_in old place) places same.1 chain.2),
)

pub same_links : (old new : List ℕ) → ((q : ℕ) → next_in new q ≡ next_in old q)
    → (places : List ℕ) → AreSameLinks old new places
same_links old new same [] = tt
same_links old new same (place ∷ places) = (same place, same_links old new same places)

-- what comes behind the last of some places
pub behind_last : (nexts : List ℕ) (at place : ℕ) (front back : List ℕ)
    → AreChained nexts at (place ∷ (front ++ back))
    → AreChained nexts (next_in nexts (last_of place front)) back
behind_last nexts at place [] back chain = chain.2
behind_last nexts at place (x ∷ front) back chain =
    behind_last nexts (next_in nexts place) x front back chain.2

pub last_within : (nexts : List ℕ) (at place : ℕ) (front back : List ℕ)
    → AreChained nexts at (place ∷ (front ++ back)) → IsPlaceIn (length nexts) (last_of place front)
last_within nexts at place [] back chain = chain.1
last_within nexts at place (x ∷ front) back chain =
    last_within nexts (next_in nexts place) x front back chain.2

module _ (nexts : List ℕ) (first before : ℕ) where
  pub behind_first : (front back : List ℕ) → AreChained nexts first (front ++ back)
      → before ≡ last_of 4294967295 front → before ≡ 4294967295 → AreChained nexts first back
  behind_first [] back chain is none = chain
  behind_first (x ∷ front) back chain is none =
      let within = last_within nexts first x front back chain in
      absurd (omega (arith, within.1))

  pub behind_other : (front back : List ℕ) → AreChained nexts first (front ++ back)
      → before ≡ last_of 4294967295 front → before ≢ 4294967295
      → AreChained nexts (next_in nexts before) back
  behind_other [] back chain is some = absurd (some is)
  behind_other (x ∷ front) back chain is some =
      subst (λ b. AreChained nexts (next_in nexts b) back) (sym is)
      (behind_last nexts first x front back chain)

pub not_last : (q place : ℕ) (places : List ℕ) → IsApart q (place ∷ places)
    → q ≢ last_of place places
not_last q place [] apart = apart.0
not_last q place (x ∷ places) apart = not_last q x places apart.1

-- up to a place all is as it was, but behind it comes another chain
module _ (old new : List ℕ) (same_len : length new ≡ length old) (at before to : ℕ)
    (next : next_in new before ≡ to)
    (others : (q : ℕ) → q ≢ at → q ≢ before → next_in new q ≡ next_in old q) where
  pub relinked : (start place : ℕ) (front back now : List ℕ)
      → AreChained old start (place ∷ (front ++ back)) → before ≡ last_of place front
      → AreDistinct (place ∷ front) → IsApart at (place ∷ front)
      → AreChained new to now → AreChained new start (place ∷ (front ++ now))
  relinked start place [] back now chain is d apart then = (
    chain.0,
    subst (λ n. IsPlaceIn n place) (sym same_len) chain.1,
    subst (λ p. AreChained new p now) (sym (ap (next_in new) (sym is) ∙ next)) then,
  )
  relinked start place (x ∷ front) back now chain is d apart then = (
    chain.0,
    subst (λ n. IsPlaceIn n place) (sym same_len) chain.1,
    subst (λ p. AreChained new p (x ∷ (front ++ now)))
        (sym (others place (λ e. apart.0 (sym e))
        (λ e. not_last place x front d.0 (e ∙ is))))
        (relinked (next_in old place) x front back now chain.2 is d.1 apart.1 then),
  )

-- a chain where neither of two places is, stays
pub chain_beside : (old new : List ℕ) → length new ≡ length old → (at before : ℕ)
    → ((q : ℕ) → q ≢ at → q ≢ before → next_in new q ≡ next_in old q)
    → (start : ℕ) (places : List ℕ) → IsApart at places → IsApart before places
    → AreChained old start places → AreChained new start places
chain_beside old new len at before others start places from_at from_before chain =
    chain_kept old new (omega (arith, len)) start places
    (by places from_at from_before) chain
  where
    by : (xs : List ℕ) → IsApart at xs → IsApart before xs → AreSameLinks old new xs
    by [] a b = tt
    by (x ∷ xs) a b =
        (others x (λ e. a.0 (sym e)) (λ e. b.0 (sym e)), by xs a.1 b.1)

-- what says that there is no place, is none
pub none_apart : (nexts : List ℕ) (at : ℕ) (places : List ℕ) → AreChained nexts at places
    → IsApart 4294967295 places
none_apart nexts at places chain =
    all_weaker (IsPlaceIn (length nexts)) (λ p. 4294967295 ≢ p)
    (λ p within e. omega (arith, within.1, e)) places (chain_within nexts at places chain)

-- the last of some places is apart from those behind
pub last_apart : (place : ℕ) (front back : List ℕ) → AreDistinct (place ∷ (front ++ back))
    → IsApart (last_of place front) back
last_apart place [] back d = d.0
last_apart place (x ∷ front) back d = last_apart x front back d.1

-- ---- a place comes
module _ (old mid new : List ℕ) (first new_first before at next : ℕ)
    (len : length mid ≡ length old) (set : next_in mid at ≡ next)
    (kept : (q : ℕ) → q ≢ at → next_in mid q ≡ next_in old q)
    (led : IsLed mid new first new_first before at) (within : IsPlaceIn (length old) at) where
  others_linked : (q : ℕ) → q ≢ at → q ≢ before → next_in new q ≡ next_in old q
  others_linked q not_at not_before = led.others q not_before ∙ kept q not_at

  then_linked : (back : List ℕ) → at ≢ before → IsApart at back → IsApart before back
      → AreChained old next back → AreChained new at (at ∷ back)
  then_linked back not_before from_at from_before chain = (
    refl,
    subst (λ n. IsPlaceIn n at) (sym (led.len ∙ len)) within,
    subst (λ p. AreChained new p back) (sym (led.others at not_before ∙ set))
        (chain_beside old new (led.len ∙ len) at before others_linked next back from_at
        from_before chain),
  )

  pub linked : (front back : List ℕ) → AreChained old first (front ++ back)
      → before ≡ last_of 4294967295 front → AreDistinct (front ++ back)
      → IsApart at (front ++ back) → AreChained old next back
      → AreChained new new_first (front ++ at ∷ back)
  linked [] back chain is d apart behind =
      subst (λ p. AreChained new p (at ∷ back)) (sym (led.at_first is))
      (then_linked back (λ e. omega (arith, within.1, e, is)) apart
      (subst (λ b. IsApart b back) (sym is) (none_apart old first back chain)) behind)
  linked (x ∷ front) back chain is d apart behind =
      let b_within : IsPlaceIn (length old) before =
      subst (IsPlaceIn (length old)) (sym is) (last_within old first x front back chain) in
      let not_before : at ≢ before = λ e.
      not_last at x front (apart_left at (x ∷ front) back apart) (e ∙ is) in
      subst (λ p. AreChained new p (x ∷ (front ++ at ∷ back)))
      (sym (led.same_first (λ e. omega (arith, b_within.1, e))))
      (relinked old new (led.len ∙ len) at before at
      (led.next b_within.1 (subst (λ n. before < n) (sym len) b_within.0)) others_linked
      first x front back (at ∷ back) chain is (distinct_left (x ∷ front) back d)
      (apart_left at (x ∷ front) back apart)
      (then_linked back not_before (apart_right at (x ∷ front) back apart)
      (subst (λ b. IsApart b back) (sym is) (last_apart x front back d)) behind))

-- ---- a place goes
module _ (old new : List ℕ) (first new_first before at : ℕ)
    (led : IsLed old new first new_first before (next_in old at)) where
  others_unlinked : (q : ℕ) → q ≢ at → q ≢ before → next_in new q ≡ next_in old q
  others_unlinked q not_at not_before = led.others q not_before

  pub unlinked : (front back : List ℕ) → AreChained old first (front ++ at ∷ back)
      → before ≡ last_of 4294967295 front → AreDistinct (front ++ at ∷ back)
      → AreChained new new_first (front ++ back)
  unlinked [] back chain is d =
      subst (λ p. AreChained new p back) (sym (led.at_first is))
      (chain_beside old new led.len at before others_unlinked (next_in old at) back d.0
      (subst (λ b. IsApart b back) (sym is) (none_apart old first (at ∷ back) chain).1) chain.2)
  unlinked (x ∷ front) back chain is d =
      let b_within : IsPlaceIn (length old) before =
      subst (IsPlaceIn (length old)) (sym is)
      (last_within old first x front (at ∷ back) chain) in
      let rest = behind_last old first x front (at ∷ back) chain in
      let apart = between (x ∷ front) at back d in
      subst (λ p. AreChained new p (x ∷ (front ++ back)))
      (sym (led.same_first (λ e. omega (arith, b_within.1, e))))
      (relinked old new led.len at before (next_in old at)
      (led.next b_within.1 b_within.0) others_unlinked
      first x front (at ∷ back) back chain is (distinct_left (x ∷ front) (at ∷ back) d)
      apart.left
      (chain_beside old new led.len at before others_unlinked (next_in old at) back
      apart.right
      (subst (λ b. IsApart b back) (sym is) (last_apart x front (at ∷ back) d).1) rest.2))
