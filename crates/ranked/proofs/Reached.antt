-- How far a walk has come: the bounds of what it took are at least the values that it found.
use Rattle.std.proofs.Common.{◌≡◌, ℕ, zero, suc, ◌+◌, ◌<◌, ◌≤◌, Bool, true, false, cond, List, []}
use Rattle.std.proofs.Common.{◌∷◌, ◌++◌, length, take, None, Some, refl, sym, ap, ◌∙◌, subst, arith}
use Rattle.std.proofs.Common.{⊎_elim, append_assoc, length-append}
use Rattle.std.specs.Prelude.{nat_le, nat_lt, sum_by}
use Rattle.std.proofs.lemmas.Bool.{cases_lt, false≢true}
use Rattle.std.proofs.lemmas.Bool.Decides.{nat_tests}
use Rattle.std.proofs.lemmas.List.Sums.{sum_by-cons}
use Rattle.std.specs.List.{AllByRecursion}
use Rattle.std.specs.Ordering.{is_lt}
use Rattle.expiry_wheel.proofs.Grouped.{nat_cmp-greater, nat_cmp-less, nat_le-true}
use Rattle.expiry_wheel.proofs.Lists.{all-append}
use Rattle.fleet_model.proofs.Every.{every-map}
use Rattle.fleet_model.proofs.Ranks.{all-put}
use Rattle.fleet_model.specs.Ranking.{put_in_order, rank_cmp}
use Rattle.ranked.proofs.Walking.{bound_of-falls}
use Rattle.ranked.specs.Walk.{AreFalling, IsWalk, bound_of, counted, is_done, reach}

abbrev Candidates : Type 0
Candidates = List (List ℕ × ℕ)

abbrev Entries : Type 0
Entries = List (ℕ × List ℕ)

all-take : {X : Type 0} (P : X → Type 0) (m : ℕ) (xs : List X) → AllByRecursion P xs
    → AllByRecursion P (take m xs)
all-take P zero xs h = tt
all-take P (suc m) [] h = tt
all-take P (suc m) (x ∷ xs) h = (h.0, all-take P m xs h.1)

-- ---- candidates by rank fall
before : (x y : List ℕ × ℕ) → is_lt (rank_cmp x y) ≡ true → y.1 ≤ x.1
before x y h = ⊎_elim (λ less. absurd (false≢true (rw (nat_cmp-greater y.1 x.1 less) at h)))
    (λ le. le) (cases_lt x.1 y.1)

behind : (x y : List ℕ × ℕ) → is_lt (rank_cmp x y) ≡ false → x.1 ≤ y.1
behind x y h = ⊎_elim (λ less. absurd (false≢true (sym (rw (nat_cmp-less y.1 x.1 less) at h))))
    (λ le. le) (cases_lt y.1 x.1)

falling-put : (x : List ℕ × ℕ) (cs : Candidates) → AreFalling cs
    → AreFalling (put_in_order rank_cmp x cs)
falling-put x [] h = (tt, tt)
falling-put x (c ∷ cs) h = by (is_lt (rank_cmp x c)) refl (falling-put x cs h.1)
  where
    by : (b : Bool) → is_lt (rank_cmp x c) ≡ b → AreFalling (put_in_order rank_cmp x cs)
        → AreFalling (cond b (x ∷ c ∷ cs) (c ∷ put_in_order rank_cmp x cs))
    by true is rest = (
      (
        before x c is,
        every-map (λ d. d.1 ≤ c.1) (λ d. d.1 ≤ x.1) (λ d le. le_along d le (before x c is)) cs h.0,
      ),
      h,
    )
      where
        le_along : (d : List ℕ × ℕ) → d.1 ≤ c.1 → c.1 ≤ x.1 → d.1 ≤ x.1
        le_along d a b = omega (arith, a, b)
    by false is rest = (all-put rank_cmp (λ d. d.1 ≤ c.1) x cs (behind x c is) h.0, rest)

falling-take : (m : ℕ) (cs : Candidates) → AreFalling cs → AreFalling (take m cs)
falling-take zero cs h = tt
falling-take (suc m) [] h = tt
falling-take (suc m) (c ∷ cs) h = (all-take (λ d. d.1 ≤ c.1) m cs h.0, falling-take m cs h.1)

-- ---- a walk
pub walk_start : (index : Entries) → IsWalk index 0 [] index
walk_start index = record {
  taken = [];
  split = refl;
  count = refl;
  above = tt;
  before =
      tt;
  falling = tt;
}

-- where a walk may not stop, all candidates are within the next bound
within_next : (cs : Candidates) (e : ℕ × List ℕ) → is_done cs (Some e) ≡ false → AreFalling cs
    → AllByRecursion (λ c. c.1 ≤ bound_of e.0) cs
within_next [] e undone falling = tt
within_next (best ∷ cs) e undone falling =
    let top : best.1 ≤ bound_of e.0 = ⊎_elim (λ less. absurd (false≢true (sym undone ∙ yes less)))
    (λ le. le) (cases_lt (bound_of e.0) best.1) in (
      top,
      every-map (λ d. d.1 ≤ best.1) (λ d. d.1 ≤ bound_of e.0)
          (λ d le. omega (arith, le, top)) cs falling.0,
    )
  where
    yes : bound_of e.0 < best.1 → nat_lt (bound_of e.0) best.1 ≡ true
    yes h = grind (arith, nat_tests)

-- the next entry is taken, within whose bound all candidates are
take_more : (index rest : Entries) (e : ℕ × List ℕ) (cs : Candidates) (n : ℕ)
    → IsWalk index n cs (e ∷ rest) → AllByRecursion (λ c. c.1 ≤ bound_of e.0) cs
    → AllByRecursion (λ f. e.0 ≤ f.0) rest → IsWalk index (counted (n + 1)) cs rest
take_more index rest e cs n h within order = record {
  taken = h.taken ++ e ∷ [];
  split = h.split ∙ sym (append_assoc h.taken (e ∷ []) rest);
  count = omega (arith, h.count, length-append h.taken (e ∷ []));
  above = all-append (λ t. AllByRecursion (λ c. c.1 ≤ bound_of t.0) cs) h.taken (e ∷ [])
      h.above (within, tt);
  before = all-append (λ t. AllByRecursion (λ f. t.0 ≤ f.0) rest) h.taken (e ∷ [])
      (every-map (λ t. AllByRecursion (λ f. t.0 ≤ f.0) (e ∷ rest))
      (λ t. AllByRecursion (λ f. t.0 ≤ f.0) rest) (λ t all. all.1) h.taken h.before) (order, tt);
  falling = h.falling;
}

-- a key of the next entry is offered
offer_one : (index rest : Entries) (e : ℕ × List ℕ) (cs : Candidates) (n room value : ℕ)
    (key : List ℕ) → value ≤ bound_of e.0 → IsWalk index n cs (e ∷ rest)
    → IsWalk index n (take room (put_in_order rank_cmp (key, value) cs)) (e ∷ rest)
offer_one index rest e cs n room value key bound h = record {
  taken = h.taken;
  split = h.split;
  count = h.count;
  above = both h.taken h.above h.before;
  before = h.before;
  falling = falling-take room (put_in_order rank_cmp (key, value) cs)
      (falling-put (key, value) cs h.falling);
}
  where
    both : (taken : Entries) → AllByRecursion (λ t. AllByRecursion (λ c. c.1 ≤ bound_of t.0) cs)
        taken → AllByRecursion (λ t. AllByRecursion (λ f. t.0 ≤ f.0) (e ∷ rest)) taken
        → AllByRecursion (λ t. AllByRecursion (λ c. c.1 ≤ bound_of t.0)
        (take room (put_in_order rank_cmp (key, value) cs))) taken
    both [] above before = tt
    both (t ∷ ts) above before = (
      all-take (λ c. c.1 ≤ bound_of t.0) room (put_in_order rank_cmp (key, value) cs)
          (all-put rank_cmp (λ c. c.1 ≤ bound_of t.0) (key, value) cs
          (omega (arith, bound, bound_of-falls t.0 e.0 before.0.0)) above.0),
      both ts above.1 before.1,
    )

-- a walk may stop where nothing is left
pub never_undone : (cs : Candidates) → is_done cs None ≡ false → ⊥
never_undone [] undone = false≢true (sym undone)
never_undone (c ∷ cs) undone = false≢true (sym undone)

pub walk_passed : (index rest : Entries) (e : ℕ × List ℕ) (cs : Candidates) (n : ℕ)
    → is_done cs (Some e) ≡ false → AllByRecursion (λ f. e.0 ≤ f.0) rest
    → IsWalk index n cs (e ∷ rest) → IsWalk index (counted (n + 1)) cs rest
walk_passed index rest e cs n undone order h =
    take_more index rest e cs n h (within_next cs e undone h.falling) order

pub walk_offered : (index rest : Entries) (e : ℕ × List ℕ) (cs new : Candidates) (n room value : ℕ)
    (key : List ℕ) → is_done cs (Some e) ≡ false → AllByRecursion (λ f. e.0 ≤ f.0) rest
    → value ≤ bound_of e.0 → new ≡ take room (put_in_order rank_cmp (key, value) cs)
    → IsWalk index n cs (e ∷ rest) → IsWalk index (counted (n + 1)) new rest
walk_offered index rest e cs new n room value key undone order bound is h =
    subst (λ l. IsWalk index (counted (n + 1)) l rest) (sym is)
    (take_more index rest e (take room (put_in_order rank_cmp (key, value) cs)) n
    (offer_one index rest e cs n room value key bound h)
    (all-take (λ c. c.1 ≤ bound_of e.0) room (put_in_order rank_cmp (key, value) cs)
    (all-put rank_cmp (λ c. c.1 ≤ bound_of e.0) (key, value) cs bound
    (within_next cs e undone h.falling))) order)

-- ---- the first candidate is given
pub walk_given : (index ahead : Entries) (best : List ℕ × ℕ) (cs : Candidates) (n : ℕ)
    → IsWalk index n (best ∷ cs) ahead → IsWalk index n cs ahead
walk_given index ahead best cs n h = record {
  taken = h.taken;
  split = h.split;
  count = h.count;
  above = every-map (λ t. AllByRecursion (λ c. c.1 ≤ bound_of t.0) (best ∷ cs))
      (λ t. AllByRecursion (λ c. c.1 ≤ bound_of t.0) cs) (λ t all. all.1) h.taken h.above;
  before = h.before;
  falling = h.falling.1;
}

reach-append : (taken ahead : Entries) (v : ℕ) → AllByRecursion (λ t. v ≤ bound_of t.0) taken
    → length taken ≤ reach (taken ++ ahead) v
reach-append [] ahead v h = omega arith
reach-append (t ∷ taken) ahead v h =
    let f : ℕ × List ℕ → ℕ = λ e. cond (nat_le v (bound_of e.0)) 1 0 in
    let one : f t ≡ 1 = ap (λ b. cond b 1 0) (nat_le-true v (bound_of t.0) h.0) in
    let rest : length taken ≤ sum_by f (taken ++ ahead) = reach-append taken ahead v h.1 in
    subst (λ n. length (t ∷ taken) ≤ n) (sym (sum_by-cons f t (taken ++ ahead)
    ∙ ap (λ n. n + sum_by f (taken ++ ahead)) one)) (omega (arith, rest))

pub walk_reach : (index ahead : Entries) (best : List ℕ × ℕ) (cs : Candidates) (n : ℕ)
    → IsWalk index n (best ∷ cs) ahead → n ≤ reach index best.1
walk_reach index ahead best cs n h =
    let all : AllByRecursion (λ t. best.1 ≤ bound_of t.0) h.taken =
    every-map (λ t. AllByRecursion (λ c. c.1 ≤ bound_of t.0) (best ∷ cs))
    (λ t. best.1 ≤ bound_of t.0) (λ t all. all.0) h.taken h.above in
    rw h.split (omega (arith, h.count, reach-append h.taken ahead best.1 all))
