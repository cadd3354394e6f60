-- Keys by their values, found by bounds on them: from the greatest bound on, until the best found
-- so far stands before all that are left.
use Rattle.std.specs.Prelude.{◌≡◌, ℕ, ◌+◌, ◌-◌, ◌^◌, ◌<◌, ◌≤◌, Bool, false, true, ◌==◌, nat_le}
use Rattle.std.specs.Prelude.{if◌then◌else◌, List, [], ◌∷◌, ◌++◌, count_by, length, take, Option}
use Rattle.std.specs.Prelude.{None, Some, IfSome, is_none, min, nat_lt}
use Rattle.std.specs.List.{AllByRecursion}
use Rattle.std.specs.Borrow.{Bor}
use Rattle.std.specs.Map.Iter.{TakesFirst}
use Rattle.std.specs.Ordering.{is_lt}
use Rattle.fleet_model.specs.Ranking.{put_in_order, rank_cmp}

-- An entry of the index is how many leading zeros the bound of a key has, of 128 binary digits, and
-- the key: the greatest bounds come first.
abbrev pub bound_of : ℕ → ℕ
bound_of zeros = 2 ^ (128 - zeros) - 1

-- each key with a live row has a value within its bound
abbrev pub AreBounds : (List ℕ → ℕ) → (List ℕ → ℕ) → List (ℕ × List ℕ) → Type 0
AreBounds living value entries =
    AllByRecursion (λ e. 0 < living e.1 → value e.1 ≤ bound_of e.0) entries

-- the keys with a live row, each with its value
abbrev pub worth : (List ℕ → ℕ) → (List ℕ → ℕ) → List (ℕ × List ℕ) → List (List ℕ × ℕ)
worth living value [] = []
worth living value (e ∷ entries) =
    if living e.1 == 0 then worth living value entries
    else (e.1, value e.1) ∷ worth living value entries

-- candidates by rank, with these put among them one after the other
unfoldable pub put_all : List (List ℕ × ℕ) → List (List ℕ × ℕ) → List (List ℕ × ℕ)
put_all candidates [] = candidates
put_all candidates (x ∷ xs) = put_all (put_in_order rank_cmp x candidates) xs

-- whether a candidate stands before every key from an entry on
abbrev pub is_settled : List ℕ × ℕ → Option (ℕ × List ℕ) → Bool
is_settled best None = true
is_settled best (Some e) = nat_lt (bound_of e.0) best.1

-- whether a walk may stop: the best candidate is settled, or nothing is left
abbrev pub is_done : List (List ℕ × ℕ) → Option (ℕ × List ℕ) → Bool
is_done [] next = is_none next
is_done (best ∷ others) next = is_settled best next

-- what a walk leads to
abbrev pub found : (List ℕ → ℕ) → (List ℕ → ℕ) → ℕ → List (List ℕ × ℕ)
    → List (ℕ × List ℕ) → List (List ℕ × ℕ)
found living value room candidates entries =
    take room (put_all candidates (worth living value entries))

-- a candidate that is lent
abbrev pub view_of_candidate : Bor (List ℕ) × ℕ → List ℕ × ℕ
view_of_candidate candidate = (candidate.0.now, candidate.1)

-- none comes before one that stands before it
abbrev pub AreRanked : List (List ℕ × ℕ) → Type 0
AreRanked [] = Unit {0}
AreRanked (c ∷ candidates) =
    AllByRecursion (λ d. is_lt (rank_cmp d c) ≡ false) candidates × AreRanked candidates

-- each has a value of at most that of any before it
abbrev pub AreFalling : List (List ℕ × ℕ) → Type 0
AreFalling [] = Unit {0}
AreFalling (c ∷ candidates) = AllByRecursion (λ d. d.1 ≤ c.1) candidates × AreFalling candidates

-- a count of 64 bits, which stays at its greatest number once it is there
abbrev pub counted : ℕ → ℕ
counted n = min n (2 ^ 64 - 1)

-- A walk took so many entries of an index, and these lie ahead. Of each entry that it took, the
-- bound is at least the value of each candidate, and at least the bound of each entry ahead.
pub record IsWalk (index : List (ℕ × List ℕ)) (walked : ℕ) (candidates : List (List ℕ × ℕ))
    (ahead : List (ℕ × List ℕ)) : Type 0 where
  pub taken : List (ℕ × List ℕ)
  pub split : index ≡ taken ++ ahead
  pub count : walked ≡ counted (length taken)
  pub above : AllByRecursion (λ t. AllByRecursion (λ c. c.1 ≤ bound_of t.0) candidates) taken
  pub before : AllByRecursion (λ t. AllByRecursion (λ f. t.0 ≤ f.0) ahead) taken
  pub falling : AreFalling candidates

-- however far a walk had come, it took so many entries more
abbrev pub WalksOn : List (List ℕ × ℕ) → List (ℕ × List ℕ) → ℕ → List (List ℕ × ℕ)
    → List (ℕ × List ℕ) → Type 0
WalksOn candidates ahead more later left = (index : List (ℕ × List ℕ)) (walked : ℕ)
    → IsWalk index walked candidates ahead → IsWalk index (counted (walked + more)) later left

-- what contracts see of a ranked list: what it has left, how many entries of the index it took, the
-- whole index, and the entries that it didn't take yet
pub record RankedList : Type 0 where
  pub left : List (List ℕ × ℕ)
  pub walked : ℕ
  pub index : List (ℕ × List ℕ)
  pub ahead : List (ℕ × List ℕ)

-- the index is what a list took, and behind it what lies ahead; it counted all that it took
pub record IsCounted (list : RankedList) : Type 0 where
  pub taken : List (ℕ × List ℕ)
  pub split : list.index ≡ taken ++ list.ahead
  pub count : list.walked ≡ counted (length taken)

-- how many keys of an index have a bound of at least a value
abbrev pub reach : List (ℕ × List ℕ) → ℕ → ℕ
reach index value = count_by (λ e. nat_le value (bound_of e.0)) index

-- the first of what is left is given; all entries that were taken are counted, and these are no
-- more by then than there are keys with a bound of at least its value
abbrev pub GivesFirst : RankedList → Option (Bor (List ℕ) × ℕ) → RankedList → Type 0
GivesFirst old given new =
    TakesFirst view_of_candidate old.left given new.left × (new.index ≡ old.index)
    × IsCounted new × IfSome given (λ item. new.walked ≤ reach old.index item.1)
