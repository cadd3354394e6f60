-- What stays of a filter's changes as one comes behind them, and as the oldest goes.
use Rattle.std.proofs.Common.{◌≡◌, ℕ, zero, suc, ◌≤◌, ◌<◌, ◌-◌, Bool, true, false, List, []}
use Rattle.std.proofs.Common.{◌∷◌, ◌++◌}
use Rattle.std.proofs.Common.{length, take, drop, max, nat_lt, Option, None, Some, slice_get}
use Rattle.std.proofs.Common.{refl, sym, ap, ◌∙◌, subst, arith, if◌then◌else◌}
use Rattle.std.proofs.Common.{MatchOption}
use Rattle.std.proofs.lemmas.Bool.Decides.{nat_tests}
use Rattle.std.proofs.lemmas.List.{take-append-drop}
use Rattle.std.proofs.lemmas.List.Elements.{All-append, All-cons, All-tail, filter-append}
use Rattle.std.proofs.lemmas.List.Sorted.{IsNonDecreasingBy-drop, IsNonDecreasingBy-push}
use Rattle.std.specs.List.{All}
use Rattle.std.specs.Prelude.{slice_index_or}
use Rattle.set_changes.specs.Noting.{AreKept, IsKept, IsNoted, IsRising}
use Rattle.set_changes.specs.Numbered.{Logged, Numbered, log_at, since}
use Rattle.set_changes.specs.declared.change.Change.{Change}

-- ---- since a number

pub since-append : (n : ℕ) (some others : List Change)
    → since n (some ++ others) ≡ since n some ++ since n others
since-append n some others = filter-append (λ (c : Change). nat_lt n c.number) some others

since_later : (n : ℕ) (c : Change) (cs : List Change) → n < c.number
    → since n (c ∷ cs) ≡ c ∷ since n cs
since_later n c cs later =
    let e : nat_lt n c.number ≡ true = grind (arith, nat_tests) in
    ap (λ b. if b then c ∷ since n cs else since n cs) e

pub since_not : (n : ℕ) (c : Change) (cs : List Change) → c.number ≤ n
    → since n (c ∷ cs) ≡ since n cs
since_not n c cs not_later =
    let e : nat_lt n c.number ≡ false = grind (arith, nat_tests) in
    ap (λ b. if b then c ∷ since n cs else since n cs) e

-- behind a number that none is above there is nothing
pub since_none : (n count : ℕ) (cs : List Change) → All (λ c. c.number ≤ count) cs → count ≤ n
    → since n cs ≡ []
since_none n count [] recent le = refl
since_none n count (c ∷ cs) recent le =
    let first : c.number ≤ count = recent 0 c (omega arith) in
    since_not n c cs (omega arith)
    ∙ since_none n count cs (All-tail (λ (c : Change). c.number ≤ count) c cs recent) le

rising_tail : (c : Change) (cs : List Change) → IsRising (c ∷ cs) → IsRising cs
rising_tail c cs rising = IsNonDecreasingBy-drop (λ (c : Change). c.number) 1 (c ∷ cs) rising

get_as : (cs : List Change) (k : ℕ) (c : Change) → slice_get cs k ≡ Some c
    → (d : Change) → (slice_index_or cs k d ≡ c) × (k < length cs)
get_as [] k c h d = absurd cc
get_as (x ∷ cs) zero c h d = (cc h, omega arith)
get_as (x ∷ cs) (suc k) c h d = let r = get_as cs k c h d in (r.0, let l = r.1 in omega arith)

-- up to one that isn't behind a number none is
none_up_to : (n : ℕ) (cs : List Change) (k : ℕ) (c : Change) → IsRising cs
    → slice_get cs k ≡ Some c → c.number ≤ n → since n (take (suc k) cs) ≡ []
none_up_to n [] k c rising h le = absurd cc
none_up_to n (x ∷ cs) zero c rising h le =
    let same : x ≡ c = cc h in
    let low : x.number ≤ n = subst (λ (y : Change). y.number ≤ n) (sym same) le in
    since_not n x [] low
none_up_to n (x ∷ cs) (suc k) c rising h le =
    let at = get_as cs k c h x in
    let up : x.number ≤ (slice_index_or cs k x).number =
    rising 0 (suc k) x (omega arith) (let l = at.1 in omega arith) in
    let low : x.number ≤ n =
    (let u : x.number ≤ c.number = subst (λ (y : Change). x.number ≤ y.number) at.0 up in
    omega arith) in
    since_not n x (take (suc k) cs) low
    ∙ none_up_to n cs k c (rising_tail x cs rising) h le

drop_one : (cs : List Change) (k : ℕ) (c : Change) → slice_get cs k ≡ Some c
    → drop k cs ≡ c ∷ drop (suc k) cs
drop_one [] k c h = absurd cc
drop_one (x ∷ cs) zero c h = ap (λ y. y ∷ cs) (cc h)
drop_one (x ∷ cs) (suc k) c h = drop_one cs k c h

-- one place further to the front, where the change there is behind the number
pub behind_more : (n : ℕ) (cs : List Change) (k : ℕ) (c : Change) → slice_get cs k ≡ Some c
    → n < c.number → since n (drop (suc k) cs) ≡ drop (suc k) cs
    → since n (drop k cs) ≡ drop k cs
behind_more n cs k c h later rest =
    ap (since n) (drop_one cs k c h)
    ∙ (since_later n c (drop (suc k) cs) later
    ∙ (ap (λ l. c ∷ l) rest ∙ sym (drop_one cs k c h)))

-- and where it isn't, that is all
pub behind_all : (n : ℕ) (cs : List Change) (k : ℕ) (c : Change) → IsRising cs
    → slice_get cs k ≡ Some c → c.number ≤ n → since n (drop (suc k) cs) ≡ drop (suc k) cs
    → drop (suc k) cs ≡ since n cs
behind_all n cs k c rising h le rest =
    sym rest
    ∙ (ap (λ l. l ++ since n (drop (suc k) cs)) (sym (none_up_to n cs k c rising h le))
    ∙ (sym (since-append n (take (suc k) cs) (drop (suc k) cs))
    ∙ ap (since n) (take-append-drop (suc k) cs)))

none_past : (cs : List Change) (k : ℕ) → slice_get cs k ≡ None → k < length cs → ⊥
none_past [] k h l = omega arith
none_past (x ∷ cs) zero h l = cc h
none_past (x ∷ cs) (suc k) h l = none_past cs k h (omega arith)

-- the same of what a look at the place in front finds
pub one_more : (n : ℕ) (cs : List Change) (place k : ℕ) (found : Option Change) (b : Bool)
    → place ≡ suc k → slice_get cs k ≡ found → b ≡ true
    → MatchOption found (b ≡ false) (λ c. b ≡ nat_lt n c.number)
    → since n (drop place cs) ≡ drop place cs → since n (drop k cs) ≡ drop k cs
one_more n cs place k None b p h so is rest = absurd (cc (so, is))
one_more n cs place k (Some c) b p h so is rest =
    let t : nat_lt n c.number ≡ true = sym is ∙ so in
    let later : n < c.number = grind (arith, nat_tests) in
    behind_more n cs k c h later (subst (λ l. since n (drop l cs) ≡ drop l cs) p rest)

pub that_is_all : (n : ℕ) (cs : List Change) (place k : ℕ) (found : Option Change) (b : Bool)
    → IsRising cs → place ≤ length cs → place ≡ suc k → slice_get cs k ≡ found → b ≡ false
    → MatchOption found (b ≡ false) (λ c. b ≡ nat_lt n c.number)
    → since n (drop place cs) ≡ drop place cs → drop place cs ≡ since n cs
that_is_all n cs place k None b rising le p h so is rest = absurd (none_past cs k h (omega arith))
that_is_all n cs place k (Some c) b rising le p h so is rest =
    let f : nat_lt n c.number ≡ false = sym is ∙ so in
    let low : c.number ≤ n = grind (arith, nat_tests) in
    subst (λ l. drop l cs ≡ since n cs) (sym p)
    (behind_all n cs k c rising h low (subst (λ l. since n (drop l cs) ≡ drop l cs) p rest))

-- ---- a change comes

rising_more : (cs : List Change) (c : Change) (count : ℕ) → IsRising cs
    → All (λ c. c.number ≤ count) cs → c.number ≡ count → IsRising (cs ++ c ∷ [])
rising_more cs c count rising recent same =
    IsNonDecreasingBy-push (λ (c : Change). c.number) cs c rising
    (λ d some. let r : (slice_index_or cs (length cs - 1) d).number ≤ count =
    recent (length cs - 1) d (omega arith) in omega arith)

pub kept_more : (count : ℕ) (log : Logged) (c : Change) → IsKept count log → c.number ≡ count
    → IsKept count (record log { changes = log.changes ++ c ∷ [] })
kept_more count log c kept same = record {
  from = kept.from;
  recent = All-append (λ (c : Change). c.number ≤ count) log.changes (c ∷ []) kept.recent
      (All-cons (λ (c : Change). c.number ≤ count) c [] (omega arith)
      (λ i d l. absurd (omega arith)));
  rising = rising_more log.changes c count kept.rising kept.recent same;
}

pub noted_more : (log : Logged) (c : Change)
    → IsNoted c log (record log { changes = log.changes ++ c ∷ [] })
noted_more log c = record {
  up = omega arith;
  behind = λ n from later. since-append n log.changes (c ∷ [])
      ∙ ap (λ l. since n log.changes ++ l) (since_later n c [] later);
}

-- ---- the oldest goes

pub kept_fewer : (count : ℕ) (log : Logged) (gone : Change) (rest : List Change)
    → log.changes ≡ gone ∷ rest → IsKept count log
    → IsKept count (record { from = max log.from gone.number; changes = rest })
kept_fewer count log gone rest same kept =
    let recent : All (λ c. c.number ≤ count) (gone ∷ rest) =
    subst (λ (cs : List Change). All (λ c. c.number ≤ count) cs) same kept.recent in
    let first : gone.number ≤ count = recent 0 gone (omega arith) in
    let from : log.from ≤ count = kept.from in
    record {
      from = omega arith;
      recent = All-tail (λ (c : Change). c.number ≤ count) gone rest recent;
      rising = rising_tail gone rest (subst IsRising same kept.rising);
    }

pub kept_none : (count : ℕ) → IsKept count (record { from = count; changes = [] })
kept_none count = record {
  from = omega arith;
  recent = λ i d l. absurd (omega arith);
  rising = λ i j d le l. absurd (omega arith);
}

-- ---- the changes of all filters

at_all : (P : Logged → Type 0) (logs : List Logged) (place : ℕ) (d : Logged) → All P logs → P d
    → P (slice_index_or logs place d)
at_all P [] place d all last = last
at_all P (log ∷ logs) zero d all last = all 0 d (omega arith)
at_all P (log ∷ logs) (suc place) d all last =
    at_all P logs place d (All-tail P log logs all) last

-- what is known from the start of a log that isn't kept
pub kept_start : (numbered : Numbered) → AreKept numbered
    → IsKept numbered.count (record { from = numbered.start; changes = [] })
kept_start numbered kept = record {
  from = kept.start;
  recent = λ i d l. absurd (omega arith);
  rising = λ i j d le l. absurd (omega arith);
}

pub kept_at : (numbered : Numbered) (place : ℕ) → AreKept numbered
    → IsKept numbered.count (log_at numbered place)
kept_at numbered place kept = at_all (IsKept numbered.count) numbered.logs place
    (record { from = numbered.start; changes = [] }) kept.logs (kept_start numbered kept)

pub kept_longer : (numbered : Numbered) → AreKept numbered → AreKept (record numbered {
  logs = numbered.logs ++ (record { from = numbered.start; changes = [] }) ∷ [];
})
kept_longer numbered kept = record {
  start = kept.start;
  logs = All-append (IsKept numbered.count) numbered.logs
      (record { from = numbered.start; changes = [] } ∷ []) kept.logs
      (All-cons (IsKept numbered.count) (record { from = numbered.start; changes = [] }) []
      (kept_start numbered kept) (λ i d l. absurd (omega arith)));
}

default_behind : (logs : List Logged) (d : Logged) (place : ℕ)
    → slice_index_or (logs ++ d ∷ []) place d ≡ slice_index_or logs place d
default_behind [] d zero = refl
default_behind [] d (suc place) = refl
default_behind (log ∷ logs) d zero = refl
default_behind (log ∷ logs) d (suc place) = default_behind logs d place

pub same_longer : (numbered : Numbered) (place : ℕ) → log_at (record numbered {
  logs = numbered.logs ++ (record { from = numbered.start; changes = [] }) ∷ [];
}) place ≡ log_at numbered place
same_longer numbered place =
    default_behind numbered.logs (record { from = numbered.start; changes = [] }) place

pub at_within : (logs : List Logged) (place : ℕ) (d e : Logged) → place < length logs
    → slice_index_or logs place d ≡ slice_index_or logs place e
at_within [] place d e l = absurd (omega arith)
at_within (log ∷ logs) zero d e l = refl
at_within (log ∷ logs) (suc place) d e l = at_within logs place d e (omega arith)

pub at_past : (logs : List Logged) (place : ℕ) (d : Logged) → length logs ≤ place
    → slice_index_or logs place d ≡ d
at_past [] place d le = refl
at_past (log ∷ logs) zero d le = absurd (omega arith)
at_past (log ∷ logs) (suc place) d le = at_past logs place d (omega arith)
