-- The seats after one more event that counts.
use Rattle.std.proofs.Common.{◌≡◌, ℕ, ◌+◌, ◌≤◌, ◌⊎◌, ⊎_elim, Bool, true, false, cond, not, ◌&&◌}
use Rattle.std.proofs.Common.{◌||◌, ◌==◌, max, List, [], ◌∷◌, ◌++◌, map, Option, None, Some, T}
use Rattle.std.proofs.Common.{refl, sym, ap, ◌∙◌, subst, arith, add-zero}
use Rattle.std.proofs.lemmas.Bool.{or_parts, eqb-true, ne_eqb}
use Rattle.std.proofs.lemmas.Bool.Decides.{nat_tests}
use Rattle.std.proofs.lemmas.List.{append-nil, map-append}
use Rattle.std.proofs.lemmas.List.Elements.{filter-append}
use Rattle.std.proofs.lemmas.List.Folds.{list_any-append}
use Rattle.std.proofs.lemmas.List.Sums.{fold-append}
use Rattle.std.proofs.lemmas.Option.{none-some, same_Some}
use Rattle.std.specs.BTreeMap.{insert_entry, is_at}
use Rattle.std.specs.Bool.{then_some}
use Rattle.std.specs.List.{count_by, filter, fold, list_any}
use Rattle.std.specs.Map.{remove_entry}
use Rattle.std.specs.Ordering.{is_eq, nat_cmp}
use Rattle.agg_types.specs.declared.event.Event.{Event}
use Rattle.fleet_model.proofs.Entries.{keep}
use Rattle.fleet_model.proofs.Known.{found, found-known, is_among, known-insert, known-remove}
use Rattle.fleet_model.specs.Seats.{above_all, is_leave, is_number, is_sit, number, seats_in}
use Rattle.fleet_model.specs.Seats.{seats_of, sits}

abbrev pub ever_sat : ℕ → List Event → Bool
ever_sat q counted = list_any (λ e. (e.seat == q) && is_sit e.what) counted

abbrev pub ever_left : ℕ → List Event → Bool
ever_left q counted = list_any (λ e. (e.seat == q) && is_leave e.what) counted

abbrev pub ever_seen : ℕ → List Event → Bool
ever_seen q counted = list_any (λ e. e.seat == q) counted

abbrev events_of : ℕ → List Event → ℕ
events_of q counted = count_by (λ e. e.seat == q) counted

-- seats sit down before anything else happens at them
abbrev pub SitFirst : List Event → Type 0
SitFirst counted = (q : ℕ) → ever_sat q counted ≡ false → ever_seen q counted ≡ false

or_false : (a : Bool) → (a || false) ≡ a
or_false true = refl
or_false false = refl

pub is_eq_back : (a b : ℕ) → is_eq (nat_cmp a b) ≡ (b == a)
is_eq_back a b = grind (arith, nat_tests)

pub is_eq_same : (a b : ℕ) → is_eq (nat_cmp a b) ≡ (a == b)
is_eq_same a b = grind (arith, nat_tests)

-- ---- which seats ever sat
sat_is_among : (q : ℕ) (counted : List Event) → is_among q (seats_of counted) ≡ ever_sat q counted
unfolding seats_of
sat_is_among q [] = refl
sat_is_among q (e ∷ counted) =
    elim (is_sit e.what) as (λ b. is_among q
    (map (λ e. e.seat) (cond b (e ∷ filter (λ e. is_sit e.what) counted)
    (filter (λ e. is_sit e.what) counted))) ≡ (((e.seat == q) && b) || ever_sat q counted)) [
      | true ↦ (λ i. is_eq_back q e.seat i || sat_is_among q counted i)
          ∙ sym (ap (λ b. b || ever_sat q counted) (and_true (e.seat == q)))
      | false ↦ sat_is_among q counted
          ∙ sym (ap (λ b. b || ever_sat q counted) (and_false (e.seat == q)))
    ]
  where
    and_true : (a : Bool) → (a && true) ≡ a
    and_true true = refl
    and_true false = refl

    and_false : (a : Bool) → (a && false) ≡ false
    and_false true = refl
    and_false false = refl

covers : (sat left : Bool) (n : ℕ) → cond sat (then_some (sat && not left) n) None
    ≡ then_some (sat && not left) n
covers true left n = refl
covers false left n = refl

-- what is found of a seat is the number of its next event
pub found-seats : (q : ℕ) (counted : List Event) → found q (seats_in counted) ≡ number counted q
unfolding seats_in number sits
found-seats q counted =
    found-known (number counted) q (seats_of counted)
    ∙ ap (λ b. cond b (number counted q) None) (sat_is_among q counted)
    ∙ covers (ever_sat q counted) (ever_left q counted) (events_of q counted)

-- ---- an event more
number-push : (q : ℕ) (counted : List Event) (e : Event) → number (counted ++ e ∷ []) q
    ≡ then_some ((ever_sat q counted || (((e.seat == q) && is_sit e.what) || false))
    && not (ever_left q counted || (((e.seat == q) && is_leave e.what) || false)))
    (events_of q counted + cond (e.seat == q) 1 0)
unfolding number sits
number-push q counted e =
    let sat = list_any-append (λ (e : Event). (e.seat == q) && is_sit e.what) counted (e ∷ []) in
    let left = list_any-append (λ (e : Event). (e.seat == q) && is_leave e.what) counted (e ∷ []) in
    let events = fold-append (λ (n : ℕ) (e : Event). n + cond (e.seat == q) 1 0) 0
    counted (e ∷ []) in
    λ i. then_some (sat i && not (left i)) (events i)

number_is : (q : ℕ) (counted : List Event)
    → number counted q ≡ then_some (ever_sat q counted && not (ever_left q counted))
    (events_of q counted)
unfolding number sits
number_is q counted = refl

plain_number : (here sat left : Bool) (n seq : ℕ)
    → (here ≡ true → then_some (sat && not left) n ≡ Some seq)
    → then_some ((sat || ((here && false) || false)) && not (left || ((here && false) || false)))
    (n + cond here 1 0) ≡ cond here (Some (seq + 1)) (then_some (sat && not left) n)
plain_number true true false n seq h = ap (λ m. Some (m + 1)) (same_Some n seq (h refl))
plain_number true true true n seq h = absurd (none-some seq (h refl))
plain_number true false left n seq h = absurd (none-some seq (h refl))
plain_number false true true n seq h = refl
plain_number false true false n seq h = ap Some (add-zero n)
plain_number false false left n seq h = refl

sit_number : (here sat left : Bool) (n seq : ℕ) → seq ≡ 0
    → (here ≡ true → (sat ≡ false) × (left ≡ false) × (n ≡ 0))
    → then_some ((sat || ((here && true) || false)) && not (left || ((here && false) || false)))
    (n + cond here 1 0) ≡ cond here (Some (seq + 1)) (then_some (sat && not left) n)
sit_number true sat left n seq zero h =
    let new = h refl in
    (λ i. then_some ((new.0 i || true) && not (new.1 i || false)) (new.2 i + 1))
    ∙ ap (λ m. Some (m + 1)) (sym zero)
sit_number false true true n seq zero h = refl
sit_number false true false n seq zero h = ap Some (add-zero n)
sit_number false false left n seq zero h = refl

leave_number : (here sat left : Bool) (n : ℕ)
    → then_some ((sat || ((here && false) || false)) && not (left || ((here && true) || false)))
    (n + cond here 1 0) ≡ keep (λ _. not here) (then_some (sat && not left) n)
leave_number true true true n = refl
leave_number true true false n = refl
leave_number true false left n = refl
leave_number false true true n = refl
leave_number false true false n = ap Some (add-zero n)
leave_number false false left n = refl

pub number_from : (due : Option ℕ) (seq : ℕ) → is_number due seq ≡ true → due ≡ Some seq
number_from None seq h = absurd (subst T (sym h) tt)
number_from (Some m) seq h = ap Some (eqb-true m seq h)

unseen_any : (p : Event → Bool) (q : ℕ) (counted : List Event) → ever_seen q counted ≡ false
    → list_any (λ e. (e.seat == q) && p e) counted ≡ false
unseen_any p q [] h = refl
unseen_any p q (e ∷ counted) h =
    let parts = or_parts (e.seat == q) (ever_seen q counted) h in
    λ i. (parts.0 i && p e) || unseen_any p q counted parts.1 i

unseen_count : (q : ℕ) (counted : List Event) → ever_seen q counted ≡ false
    → events_of q counted ≡ 0
unseen_count q [] h = refl
unseen_count q (e ∷ counted) h =
    let parts = or_parts (e.seat == q) (ever_seen q counted) h in
    ap (λ b. fold (λ (n : ℕ) (e : Event). n + cond (e.seat == q) 1 0) (0 + cond b 1 0) counted)
    parts.0 ∙ unseen_count q counted parts.1

-- ---- the seats after it
found_is : (q : ℕ) (counted : List Event) → found q (seats_in counted)
    ≡ then_some (ever_sat q counted && not (ever_left q counted)) (events_of q counted)
found_is q counted = found-seats q counted ∙ number_is q counted

found-push : (q : ℕ) (counted : List Event) (e : Event) (s l : Bool) → is_sit e.what ≡ s
    → is_leave e.what ≡ l → found q (seats_in (counted ++ e ∷ []))
    ≡ then_some ((ever_sat q counted || (((e.seat == q) && s) || false))
    && not (ever_left q counted || (((e.seat == q) && l) || false)))
    (events_of q counted + cond (e.seat == q) 1 0)
found-push q counted e s l sit leave =
    found-seats q (counted ++ e ∷ [])
    ∙ number-push q counted e
    ∙ (λ i. then_some ((ever_sat q counted || (((e.seat == q) && sit i) || false))
    && not (ever_left q counted || (((e.seat == q) && leave i) || false)))
    (events_of q counted + cond (e.seat == q) 1 0))

-- an event that neither sits down nor leaves
pub seats-plain : (counted : List Event) (e : Event) → is_sit e.what ≡ false
    → is_leave e.what ≡ false → is_number (number counted e.seat) e.seq ≡ true
    → seats_in (counted ++ e ∷ []) ≡ insert_entry nat_cmp (seats_in counted) e.seat (e.seq + 1)
unfolding seats_in
seats-plain counted e sit leave due =
    known-insert (number counted) (number (counted ++ e ∷ [])) (seats_of counted)
    (seats_of (counted ++ e ∷ [])) e.seat (e.seq + 1)
    (λ q. found-push q counted e false false sit leave
    ∙ plain_number (e.seat == q) (ever_sat q counted) (ever_left q counted)
    (events_of q counted) e.seq
    (λ t. sym (number_is q counted) ∙ ap (number counted) (sym (eqb-true e.seat q t))
    ∙ number_from (number counted e.seat) e.seq due)
    ∙ sym (λ i. cond (is_eq_back q e.seat i) (Some (e.seq + 1)) (found_is q counted i)))

-- a seat that sits down, of which no event counted yet
pub seats-sit : (counted : List Event) (e : Event) → is_sit e.what ≡ true → is_leave e.what ≡ false
    → e.seq ≡ 0 → ever_seen e.seat counted ≡ false → seats_in (counted ++ e ∷ [])
    ≡ insert_entry nat_cmp (seats_in counted) e.seat (e.seq + 1)
unfolding seats_in
seats-sit counted e sit leave zero new =
    known-insert (number counted) (number (counted ++ e ∷ [])) (seats_of counted)
    (seats_of (counted ++ e ∷ [])) e.seat (e.seq + 1)
    (λ q. found-push q counted e true false sit leave
    ∙ sit_number (e.seat == q) (ever_sat q counted) (ever_left q counted)
    (events_of q counted) e.seq zero
    (λ t. let unseen : ever_seen q counted ≡ false =
    ap (λ n. ever_seen n counted) (sym (eqb-true e.seat q t)) ∙ new in (
      unseen_any (λ e. is_sit e.what) q counted unseen,
      unseen_any (λ e. is_leave e.what) q counted unseen,
      unseen_count q counted unseen,
    ))
    ∙ sym (λ i. cond (is_eq_back q e.seat i) (Some (e.seq + 1)) (found_is q counted i)))

pub seats-leave : (counted : List Event) (e : Event) → is_sit e.what ≡ false
    → is_leave e.what ≡ true → seats_in (counted ++ e ∷ []) ≡ remove_entry (is_at (nat_cmp e.seat))
    (seats_in counted)
unfolding seats_in
seats-leave counted e sit leave =
    known-remove (number counted) (number (counted ++ e ∷ [])) (seats_of counted)
    (seats_of (counted ++ e ∷ [])) e.seat
    (λ q. found-push q counted e false true sit leave
    ∙ leave_number (e.seat == q) (ever_sat q counted) (ever_left q counted) (events_of q counted)
    ∙ sym (λ i. keep (λ _. not (is_eq_same e.seat q i)) (found_is q counted i)))

-- ---- a seat sits down first
sat_from_number : (sat left : Bool) (n m : ℕ) → is_number (then_some (sat && not left) n) m
    ≡ true → sat ≡ true
sat_from_number true left n m h = refl
sat_from_number false left n m h = h

pub ever_sat-from_number : (q m : ℕ) (counted : List Event) → is_number (number counted q) m ≡ true
    → ever_sat q counted ≡ true
ever_sat-from_number q m counted h = sat_from_number (ever_sat q counted) (ever_left q counted)
    (events_of q counted) m (ap (λ o. is_number o m) (sym (number_is q counted)) ∙ h)

sit_first_at : (here sit sat_q sat : Bool) → (sit ≡ true) ⊎ (sat ≡ true)
    → (here ≡ true → sat_q ≡ sat) → (sat_q || ((here && sit) || false)) ≡ false → here ≡ false
sit_first_at false sit sat_q sat h same e = refl
sit_first_at true sit true sat h same e = e
sit_first_at true true false sat h same e = e
sit_first_at true false false sat h same e = ⊎_elim (λ s. sym s) (λ s. sym s ∙ sym (same refl)) h

pub SitFirst-push : (counted : List Event) (e : Event) → SitFirst counted → (is_sit e.what ≡ true)
    ⊎ (ever_sat e.seat counted ≡ true) → SitFirst (counted ++ e ∷ [])
SitFirst-push counted e first h q none =
    let split : (ever_sat q counted || (((e.seat == q) && is_sit e.what) || false)) ≡ false =
    sym (list_any-append (λ (e : Event). (e.seat == q) && is_sit e.what) counted (e ∷ []))
    ∙ none in
    let before : ever_seen q counted ≡ false = first q (or_parts (ever_sat q counted) _ split).0 in
    let here : (e.seat == q) ≡ false =
    sit_first_at (e.seat == q) (is_sit e.what) (ever_sat q counted) (ever_sat e.seat counted) h
    (λ t. ap (λ n. ever_sat n counted) (sym (eqb-true e.seat q t))) split in
    list_any-append (λ (e : Event). e.seat == q) counted (e ∷ [])
    ∙ (λ i. before i || (here i || false))

not_among : (ns : List ℕ) (s : ℕ) → above_all ns ≤ s → is_among s ns ≡ false
not_among [] s h = refl
not_among (n ∷ ns) s h =
    let here : is_eq (nat_cmp s n) ≡ false = is_eq_same s n ∙ ne_eqb s n (λ e. omega arith) in
    let rest : above_all ns ≤ s = omega arith in
    λ i. here i || not_among ns s rest i

-- a seat above all that sat is new
pub new_seat : (counted : List Event) (s : ℕ) → SitFirst counted → above_all (seats_of counted) ≤ s
    → ever_seen s counted ≡ false
new_seat counted s first h = first s (sym (sat_is_among s counted)
    ∙ not_among (seats_of counted) s h)

-- ---- the least number for a seat to come
above_all-push : (ns : List ℕ) (s : ℕ) → above_all ns ≤ s → above_all (ns ++ s ∷ []) ≡ s + 1
above_all-push [] s h = omega arith
above_all-push (n ∷ ns) s h =
    let le : above_all ns ≤ s = omega arith in
    let rest : above_all (ns ++ s ∷ []) ≡ s + 1 = above_all-push ns s le in
    ap (max (n + 1)) rest ∙ omega arith

pub above-sit : (counted : List Event) (e : Event) → is_sit e.what ≡ true
    → above_all (seats_of counted) ≤ e.seat → above_all (seats_of (counted ++ e ∷ [])) ≡ e.seat + 1
unfolding seats_of
above-sit counted e sit le =
    ap (λ es. above_all (map (λ (e : Event). e.seat) es))
    (filter-append (λ (e : Event). is_sit e.what) counted (e ∷ []))
    ∙ ap (λ b. above_all (map (λ (e : Event). e.seat) (filter (λ e. is_sit e.what) counted
    ++ cond b (e ∷ []) []))) sit
    ∙ ap above_all (map-append (λ (e : Event). e.seat) (filter (λ e. is_sit e.what) counted)
    (e ∷ []))
    ∙ above_all-push (seats_of counted) e.seat le

pub seats_of-other : (counted : List Event) (e : Event) → is_sit e.what ≡ false
    → seats_of (counted ++ e ∷ []) ≡ seats_of counted
unfolding seats_of
seats_of-other counted e sit =
    ap (map (λ (e : Event). e.seat)) (filter-append (λ (e : Event). is_sit e.what) counted (e ∷ [])
    ∙ ap (λ b. filter (λ e. is_sit e.what) counted ++ cond b (e ∷ []) []) sit
    ∙ append-nil (filter (λ e. is_sit e.what) counted))
