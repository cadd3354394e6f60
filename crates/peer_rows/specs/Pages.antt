-- The rows of a key that many peers hold, in pages by the numbers of the peers.
use Rattle.std.specs.Prelude.{ℕ, zero, suc, ◌+◌, ◌<◌, ◌≤◌, List, [], ◌∷◌, ◌++◌}
use Rattle.std.specs.Ordering.{nat_cmp}
use Rattle.std.specs.List.{AllByRecursion}
use Rattle.std.specs.List.Sorted.{IsStrictlySortedBy}
use Rattle.std.specs.Map.{keys_of}
use Rattle.peer_rows.specs.declared.row.Row.{Row}

-- the rows of all pages, one page behind the other
abbrev pub joined : List (List (ℕ × Row)) → List (ℕ × Row)
joined [] = []
joined (p ∷ ps) = p ++ joined ps

-- the rows stand by peer, each peer once
abbrev pub AreByPeer : List (ℕ × Row) → Type 0
AreByPeer rows = IsStrictlySortedBy nat_cmp (keys_of rows)

-- they are of peers from a number on
abbrev pub AreFrom : ℕ → List (ℕ × Row) → Type 0
AreFrom first rows = AllByRecursion (λ p. first ≤ p) (keys_of rows)

-- they are of peers before a number
abbrev pub AreBefore : ℕ → List (ℕ × Row) → Type 0
AreBefore end rows = AllByRecursion (λ p. p < end) (keys_of rows)

-- there is a page, and each has the rows of 32 peers, from a number on, but for the last: it has
-- those of all others
abbrev pub ArePages : ℕ → List (List (ℕ × Row)) → Type 0
ArePages first [] = ⊥
ArePages first (p ∷ []) = AreFrom first p × AreByPeer p
ArePages first (p ∷ q ∷ ps) =
    AreFrom first p × AreByPeer p × AreBefore (first + 32) p × ArePages (first + 32) (q ∷ ps)

-- a page is the one of a peer's row
abbrev pub IsPageOf : ℕ → ℕ → List (List (ℕ × Row)) → ℕ → Type 0
IsPageOf peer first [] at = ⊥
IsPageOf peer first (p ∷ []) zero = first ≤ peer
IsPageOf peer first (p ∷ []) (suc at) = ⊥
IsPageOf peer first (p ∷ q ∷ ps) zero = (first ≤ peer) × (peer < first + 32)
IsPageOf peer first (p ∷ q ∷ ps) (suc at) =
    (first + 32 ≤ peer) × IsPageOf peer (first + 32) (q ∷ ps) at
