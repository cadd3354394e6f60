-- How many events a seat has, and what one more step adds.
use Rattle.std.proofs.Common.{Some, one-add, zero-add, ◌≡◌, ◌⊎◌, inl, inr, ℕ, suc, ◌+◌, ◌<◌, Bool}
use Rattle.std.proofs.Common.{true, false, cond, ◌==◌, ◌||◌, List, [], ◌∷◌, ◌++◌, length}
use Rattle.std.proofs.Common.{if◌then◌else◌, nat_le, refl, ap, ◌∙◌, append-nil, arith, T}
use Rattle.std.proofs.Math.Dec.{eqb_refl}
use Rattle.std.proofs.lemmas.Bool.{eqb-true, leb-true}
use Rattle.std.proofs.lemmas.List.Sums.{sum_by-append, sum_by-cons}
use Rattle.std.specs.List.{list_any}
use Rattle.agg_types.specs.declared.config.Config.{Config}
use Rattle.agg_types.specs.declared.event.Event.{Event}
use Rattle.agg_types.specs.declared.event.What.{What}
use Rattle.agg_types.specs.declared.event.What.TheVariants.{Leave, Sit}
use Rattle.fleet_core.specs.declared.step.Step.{Step}
use Rattle.fleet_core.specs.declared.step.Step.TheVariants.{Connect, Bytes, Lost, Clear, AddFilter}
use Rattle.fleet_core.specs.declared.step.Step.TheVariants.{DropFilter, Moment, Told}
use Rattle.fleet_core.specs.Events.{added, at_seat, count_of, events_of, has_free_seat, is_seated}
use Rattle.fleet_model.specs.Seats.{numbered}
use Rattle.fleet_core.specs.Steps.{connects, is_lost, names, stream}

pub bool_tells : (b : Bool) → (b ≡ true) ⊎ (b ≡ false)
bool_tells true = inl refl
bool_tells false = inr refl

pub true_from_T : (b : Bool) → T b → b ≡ true
true_from_T true t = refl
true_from_T false t = elim t [ ]

pub eq_self : (n : ℕ) → (n == n) ≡ true
eq_self n = true_from_T (n == n) (eqb_refl n)

pub count-append : (seat : ℕ) (some others : List Event) → count_of seat (some ++ others)
    ≡ count_of seat some + count_of seat others
count-append seat some others = sum_by-append (λ e. cond (e.seat == seat) 1 0) some others

pub count-own : (seat seq : ℕ) (whats : List What) → count_of seat (numbered seat seq whats)
    ≡ length whats
count-own seat seq [] = refl
count-own seat seq (what ∷ whats) =
    sum_by-cons (λ e. cond (e.seat == seat) 1 0) (record { seat = seat; seq = seq; what = what })
    (numbered seat (seq + 1) whats)
    ∙ rw (eq_self seat, count-own seat (seq + 1) whats) (one-add (length whats))

pub count-other : (seat other seq : ℕ) (whats : List What) → (seat == other) ≡ false
    → count_of other (numbered seat seq whats) ≡ 0
count-other seat other seq [] apart = refl
count-other seat other seq (what ∷ whats) apart =
    sum_by-cons (λ e. cond (e.seat == other) 1 0) (record { seat = seat; seq = seq; what = what })
    (numbered seat (seq + 1) whats)
    ∙ rw (apart, count-other seat other (seq + 1) whats apart) refl

pub count-at_other : (events : List Event) (conn other : ℕ) (whats : List What)
    → (conn == other) ≡ false → count_of other (at_seat events conn whats) ≡ 0
count-at_other events conn other whats apart =
    elim (is_seated conn events) as
    (λ b. count_of other (if b then numbered conn (count_of conn events) whats else []) ≡ 0) [
      | true ↦ count-other conn other (count_of conn events) whats apart
      | false ↦ refl
    ]

pub or_false : (a b : Bool) → (a || b) ≡ false → (a ≡ false) × (b ≡ false)
or_false false b h = (refl, h)
or_false true b h = (h, cc)

-- ---- what a step brings of other connections

pub stream_other : (step : Step) (past : List Step) (conn : ℕ) → names conn step ≡ false
    → stream (step ∷ past) conn ≡ stream past conn
unfolding stream
stream_other Connect past conn other = append-nil (stream past conn)
stream_other (Bytes of piece) past conn other =
    ap (λ b. stream past conn ++ (if b then piece else [])) other ∙ append-nil (stream past conn)
stream_other (Lost of) past conn other = append-nil (stream past conn)
stream_other (Clear table sel) past conn other = append-nil (stream past conn)
stream_other (AddFilter filter) past conn other = append-nil (stream past conn)
stream_other (DropFilter name) past conn other = append-nil (stream past conn)
stream_other (Moment moment) past conn other = append-nil (stream past conn)
stream_other (Told of) past conn other = append-nil (stream past conn)

pub lost_other : (step : Step) (past : List Step) (conn : ℕ) → names conn step ≡ false
    → is_lost (step ∷ past) conn ≡ is_lost past conn
lost_other Connect past conn other = refl
lost_other (Bytes of piece) past conn other = refl
lost_other (Lost of) past conn other = ap (λ b. b || is_lost past conn) other
lost_other (Clear table sel) past conn other = refl
lost_other (AddFilter filter) past conn other = refl
lost_other (DropFilter name) past conn other = refl
lost_other (Moment moment) past conn other = refl
lost_other (Told of) past conn other = refl

-- a connection that no step names has no stream, and isn't lost
pub none-stream : (past : List Step) (conn : ℕ) → list_any (names conn) past ≡ false
    → stream past conn ≡ []
unfolding stream
none-stream [] conn none = refl
none-stream (step ∷ past) conn none =
    let both = or_false (names conn step) (list_any (names conn) past) none in
    stream_other step past conn both.0 ∙ none-stream past conn both.1

pub none-lost : (past : List Step) (conn : ℕ) → list_any (names conn) past ≡ false
    → is_lost past conn ≡ false
none-lost [] conn none = refl
none-lost (step ∷ past) conn none =
    let both = or_false (names conn step) (list_any (names conn) past) none in
    lost_other step past conn both.0 ∙ none-lost past conn both.1

-- ---- a connection that is still to come has no seat

pub apart_from_lt : (a b : ℕ) → a < b → (a == b) ≡ false
apart_from_lt a b lt = elim (bool_tells (a == b)) [
  | inl e ↦
      (let same = eqb-true a b e in let no : ⊥ = omega (arith, lt, same) in elim no [ ])
  | inr e ↦ e
]

count-at_to_come : (events : List Event) (of conn : ℕ) (whats : List What)
    → count_of conn events ≡ 0 → count_of conn (at_seat events of whats) ≡ 0
count-at_to_come events of conn whats none =
    elim (bool_tells (of == conn)) [
      | inl e ↦ (let same = eqb-true of conn e in rw (same, none) refl)
      | inr e ↦ count-at_other events of conn whats e
    ]

pub count-to_come : (config : Config) (opening : ℕ) (past : List Step) (conn : ℕ)
    → connects past < conn → count_of conn (events_of config opening past) ≡ 0
unfolding events_of added
count-to_come config opening [] conn later =
    count-other 0 conn 0 (Sit ∷ []) (apart_from_lt 0 conn later)
count-to_come config opening (Connect ∷ past) conn later =
    count-append conn (events_of config opening past) _
    ∙ rw (count-to_come config opening past conn (omega (arith, later)))
    (elim (has_free_seat config opening (events_of config opening past)) as
    (λ b. 0 + count_of conn (if b then numbered (connects past + 1) 0 (Sit ∷ []) else []) ≡ 0) [
      | true ↦ zero-add _ ∙ count-other (connects past + 1) conn 0 (Sit ∷ [])
          (apart_from_lt (connects past + 1) conn later)
      | false ↦ refl
    ])
count-to_come config opening (Bytes of piece ∷ past) conn later =
    count-append conn (events_of config opening past) _
    ∙ rw (count-to_come config opening past conn later) (zero-add _
    ∙ count-at_to_come (events_of config opening past) of conn _
    (count-to_come config opening past conn later))
count-to_come config opening (Told of ∷ past) conn later =
    ap (count_of conn) (append-nil (events_of config opening past))
    ∙ count-to_come config opening past conn later
count-to_come config opening (Lost of ∷ past) conn later =
    count-append conn (events_of config opening past) _
    ∙ rw (count-to_come config opening past conn later) (zero-add _
    ∙ count-at_to_come (events_of config opening past) of conn (Leave ∷ [])
    (count-to_come config opening past conn later))
count-to_come config opening (Clear table sel ∷ past) conn later =
    count-append conn (events_of config opening past) _
    ∙ rw (
      count-to_come config opening past conn later,
      count-other 0 conn (count_of 0 (events_of config opening past)) (_ ∷ [])
          (apart_from_lt 0 conn (omega (arith, later))),
    ) refl
count-to_come config opening (AddFilter filter ∷ past) conn later =
    count-append conn (events_of config opening past) _
    ∙ rw (
      count-to_come config opening past conn later,
      count-other 0 conn (count_of 0 (events_of config opening past)) (_ ∷ [])
          (apart_from_lt 0 conn (omega (arith, later))),
    ) refl
count-to_come config opening (DropFilter name ∷ past) conn later =
    count-append conn (events_of config opening past) _
    ∙ rw (
      count-to_come config opening past conn later,
      count-other 0 conn (count_of 0 (events_of config opening past)) (_ ∷ [])
          (apart_from_lt 0 conn (omega (arith, later))),
    ) refl
count-to_come config opening (Moment moment ∷ past) conn later =
    count-append conn (events_of config opening past) _
    ∙ rw (
      count-to_come config opening past conn later,
      count-other 0 conn (count_of 0 (events_of config opening past)) (_ ∷ [])
          (apart_from_lt 0 conn (omega (arith, later))),
    ) refl

pub some_is : {X : Type 0} {x y : X} → Some x ≡ Some y → x ≡ y
some_is e = cc

pub not_le : (a b : ℕ) → b < a → nat_le a b ≡ false
not_le a b lt = elim (bool_tells (nat_le a b)) [
  | inl e ↦
      (let le = leb-true a b e in let no : ⊥ = omega (arith, lt, le) in elim no [ ])
  | inr e ↦ e
]
