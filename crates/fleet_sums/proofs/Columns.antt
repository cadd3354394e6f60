-- Totals, into which a row's cells are worked column by column.
use Rattle.std.proofs.Common.{◌≡◌, ◌≢◌, ⊎_elim, ℕ, zero, suc, ◌+◌, ◌-◌, ◌<◌, ◌≤◌, List, [], ◌∷◌}
use Rattle.std.proofs.Common.{◌++◌, length, take, drop, refl, ap, ◌∙◌, arith, add-one, get_or, set}
use Rattle.peer_rows.specs.declared.row.Held.{Held}
use Rattle.std.proofs.lemmas.List.{get_or-set_same, get_or-set_other}
use Rattle.std.proofs.lemmas.Bool.{cases_eq}
use Rattle.peer_rows.specs.Counted.{counted_at}
use Rattle.fleet_sums.specs.Totals.{totals_by}

-- the columns before i are done, and from there on the totals are as they were
pub record IsDone (f : ℕ → ℕ → ℕ) (old : List ℕ) (cells : List Held) (i : ℕ) (now : List ℕ)
    : Type 0 where
  pub done : take i now ++ totals_by f (drop i now) (drop i cells) ≡ totals_by f old cells
  pub rest : (k : ℕ) → i ≤ k → get_or now k 0 ≡ get_or old k 0

step : (f : ℕ → ℕ → ℕ) (ts : List ℕ) (cs : List Held) (i v : ℕ) → i < length ts → i < length cs
    → v ≡ f (get_or ts i 0) (counted_at cs i) → take (suc i) (set ts i v)
    ++ totals_by f (drop (suc i) (set ts i v)) (drop (suc i) cs) ≡ take i ts
    ++ totals_by f (drop i ts) (drop i cs)
step f [] cs i v h k e = absurd (omega (arith, h))
step f (t ∷ ts) [] i v h k e = absurd (omega (arith, k))
step f (t ∷ ts) (c ∷ cs) zero v h k e = ap (λ x. x ∷ totals_by f ts cs) e
step f (t ∷ ts) (c ∷ cs) (suc i) v h k e =
    ap (λ rest. t ∷ rest) (step f ts cs i v (omega (arith, h)) (omega (arith, k)) e)

-- the column i is done, and those before it were
pub next_done : (f : ℕ → ℕ → ℕ) (old : List ℕ) (cells : List Held) (i : ℕ) (now : List ℕ) (v : ℕ)
    → IsDone f old cells i now → i < length now → i < length cells
    → v ≡ f (get_or now i 0) (counted_at cells i) → IsDone f old cells (i + 1) (set now i v)
next_done f old cells i now v so_far h k e = record {
  done = rw add-one (step f now cells i v h k e ∙ so_far.done);
  rest = λ j past. get_or-set_other now i j v 0 (λ (same : j ≡ i). omega (arith, past, same))
      ∙ so_far.rest j (omega (arith, past));
}

-- one total is written, and none is more than it may be
pub bound-set : (ts olds : List ℕ) (i v bound : ℕ) → i < length ts
    → ((k : ℕ) → get_or ts k 0 ≤ get_or olds k 0 + bound) → v ≤ get_or olds i 0 + bound → (k : ℕ)
    → get_or (set ts i v) k 0 ≤ get_or olds k 0 + bound
bound-set ts olds i v bound inside below here k = ⊎_elim
    (λ (same : k ≡ i). rw (same, get_or-set_same ts i v 0 inside) here)
    (λ (other : k ≢ i). rw (get_or-set_other ts i k v 0 other) (below k))
    (cases_eq k i)

pub get_or-totals_less : (ts : List ℕ) (cs : List Held) (col : ℕ)
    → get_or (totals_by (λ t n. t - n) ts cs) col 0 ≡ get_or ts col 0 - counted_at cs col
get_or-totals_less [] cs col = omega arith
get_or-totals_less (t ∷ ts) [] col = omega arith
get_or-totals_less (t ∷ ts) (c ∷ cs) zero = refl
get_or-totals_less (t ∷ ts) (c ∷ cs) (suc col) = get_or-totals_less ts cs col

pub get_or-totals_more : (ts : List ℕ) (cs : List Held) (col : ℕ) → col < length ts
    → get_or (totals_by (λ t n. t + n) ts cs) col 0 ≡ get_or ts col 0 + counted_at cs col
get_or-totals_more [] cs col h = absurd (omega (arith, h))
get_or-totals_more (t ∷ ts) [] col h = omega arith
get_or-totals_more (t ∷ ts) (c ∷ cs) zero h = refl
get_or-totals_more (t ∷ ts) (c ∷ cs) (suc col) h = get_or-totals_more ts cs col (omega (arith, h))

pub length-totals_by : (f : ℕ → ℕ → ℕ) (ts : List ℕ) (cs : List Held)
    → length (totals_by f ts cs) ≡ length ts
length-totals_by f [] cs = refl
length-totals_by f (t ∷ ts) [] = refl
length-totals_by f (t ∷ ts) (c ∷ cs) = omega (arith, length-totals_by f ts cs)
