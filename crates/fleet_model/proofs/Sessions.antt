-- The sessions in force after one more event that counts.
use Rattle.std.proofs.Common.{◌≡◌, ℕ, zero, suc, ◌+◌, ◌<◌, ◌≤◌, ⊎_elim, Bool, true, false, cond}
use Rattle.std.proofs.Common.{not, ◌&&◌, ◌||◌, ◌==◌, List, [], ◌∷◌, ◌++◌, length, Option, None}
use Rattle.std.proofs.Common.{Some, T, refl, sym, ap, ◌∙◌, subst, arith}
use Rattle.std.proofs.lemmas.Bool.{cases_eq, eq-eqb, eqb-true}
use Rattle.std.proofs.lemmas.List.Folds.{list_any-append}
use Rattle.std.proofs.lemmas.Option.{none-some, same_Some}
use Rattle.std.specs.BTreeMap.{insert_entry}
use Rattle.std.specs.Bool.{then_some}
use Rattle.std.specs.List.{filter, range_with_len}
use Rattle.std.specs.Option.{option_or}
use Rattle.std.specs.Ordering.{is_eq, nat_cmp}
use Rattle.agg_types.specs.declared.config.Config.{Config}
use Rattle.agg_types.specs.declared.event.Event.{Event}
use Rattle.fleet_model.proofs.Entries.{keep}
use Rattle.fleet_model.proofs.Known.{found, found-known, is_among, known-filter, known-insert}
use Rattle.fleet_model.proofs.Known.{same_known}
use Rattle.fleet_model.proofs.Seats.{ever_left, ever_sat, ever_seen, is_eq_back, is_eq_same}
use Rattle.fleet_model.specs.Seats.{is_leave, is_number, is_sit, number, sits}
use Rattle.fleet_model.specs.Sessions.{if_it, last_opener, opens, session, sessions_in}

or_none : {X : Type 0} (x : Option X) → x ≡ option_or x None
or_none None = refl
or_none (Some x) = refl

or_assoc : {X : Type 0} (x y z : Option X) → option_or (option_or x y) z
    ≡ option_or x (option_or y z)
or_assoc None y z = refl
or_assoc (Some x) y z = refl

last_opener-push : (peer : ℕ) (counted : List Event) (e : Event)
    → last_opener peer (counted ++ e ∷ []) ≡ option_or (then_some (opens peer e.what) e.seat)
    (last_opener peer counted)
last_opener-push peer [] e = or_none (then_some (opens peer e.what) e.seat)
last_opener-push peer (k ∷ counted) e =
    ap (λ o. option_or o (then_some (opens peer k.what) k.seat)) (last_opener-push peer counted e)
    ∙ or_assoc (then_some (opens peer e.what) e.seat) (last_opener peer counted)
    (then_some (opens peer k.what) k.seat)

-- the seat that last opened a peer has an event
opener_seen : (peer s : ℕ) (counted : List Event) → last_opener peer counted ≡ Some s
    → ever_seen s counted ≡ true
opener_seen peer s [] h = absurd (none-some s h)
opener_seen peer s (e ∷ counted) h = at_one (last_opener peer counted) (opens peer e.what) e.seat s
    (ever_seen s counted) (opener_seen peer s counted) h
  where
    at_one : (o : Option ℕ) (here : Bool) (seat s : ℕ) (seen : Bool) → (o ≡ Some s → seen ≡ true)
        → option_or o (then_some here seat) ≡ Some s → ((seat == s) || seen) ≡ true
    at_one None true seat s seen rest h = ap (λ b. b || seen) (eq-eqb seat s (same_Some seat s h))
    at_one None false seat s seen rest h = absurd (none-some s h)
    at_one (Some x) here seat s seen rest h = elim (seat == s) as (λ b. (b || seen) ≡ true) [
      | true ↦
          refl
      | false ↦ rest h
    ]

-- ---- who sits after it
sits-push : (q : ℕ) (counted : List Event) (e : Event) (s l : Bool) → is_sit e.what ≡ s
    → is_leave e.what ≡ l → sits (counted ++ e ∷ []) q
    ≡ ((ever_sat q counted || (((e.seat == q) && s) || false))
    && not (ever_left q counted || (((e.seat == q) && l) || false)))
unfolding sits
sits-push q counted e s l sit leave =
    let sat = list_any-append (λ (e : Event). (e.seat == q) && is_sit e.what) counted (e ∷ []) in
    let left = list_any-append (λ (e : Event). (e.seat == q) && is_leave e.what) counted (e ∷ []) in
    (λ i. sat i && not (left i))
    ∙ (λ i. (ever_sat q counted || (((e.seat == q) && sit i) || false))
    && not (ever_left q counted || (((e.seat == q) && leave i) || false)))

sits_is : (q : ℕ) (counted : List Event)
    → sits counted q ≡ (ever_sat q counted && not (ever_left q counted))
unfolding sits
sits_is q counted = refl

sits_as_before : (here s sat left : Bool) → (here && s) ≡ false
    → ((sat || ((here && s) || false)) && not (left || ((here && false) || false)))
    ≡ (sat && not left)
sits_as_before true true sat left h = absurd (subst T h tt)
sits_as_before true false true true h = refl
sits_as_before true false true false h = refl
sits_as_before true false false left h = refl
sits_as_before false s true true h = refl
sits_as_before false s true false h = refl
sits_as_before false s false left h = refl

gone_if_here : (here sat left : Bool)
    → ((sat || ((here && false) || false)) && not (left || ((here && true) || false)))
    ≡ ((sat && not left) && not here)
gone_if_here true true true = refl
gone_if_here true true false = refl
gone_if_here true false left = refl
gone_if_here false true true = refl
gone_if_here false true false = refl
gone_if_here false false left = refl

pub sits-plain : (q : ℕ) (counted : List Event) (e : Event) → is_sit e.what ≡ false
    → is_leave e.what ≡ false → sits (counted ++ e ∷ []) q ≡ sits counted q
sits-plain q counted e sit leave =
    sits-push q counted e false false sit leave
    ∙ sits_as_before (e.seat == q) false (ever_sat q counted) (ever_left q counted)
    (and_false (e.seat == q))
    ∙ sym (sits_is q counted)
  where
    and_false : (a : Bool) → (a && false) ≡ false
    and_false true = refl
    and_false false = refl

sits-sit : (q : ℕ) (counted : List Event) (e : Event) → is_sit e.what ≡ true
    → is_leave e.what ≡ false → (e.seat == q) ≡ false → sits (counted ++ e ∷ []) q ≡ sits counted q
sits-sit q counted e sit leave other =
    sits-push q counted e true false sit leave
    ∙ sits_as_before (e.seat == q) true (ever_sat q counted) (ever_left q counted)
    (ap (λ b. b && true) other)
    ∙ sym (sits_is q counted)

sits-leave : (q : ℕ) (counted : List Event) (e : Event) → is_sit e.what ≡ false
    → is_leave e.what ≡ true → sits (counted ++ e ∷ []) q ≡ (sits counted q && not (e.seat == q))
sits-leave q counted e sit leave =
    sits-push q counted e false true sit leave
    ∙ gone_if_here (e.seat == q) (ever_sat q counted) (ever_left q counted)
    ∙ ap (λ b. b && not (e.seat == q)) (sym (sits_is q counted))

there : (b : Bool) (n m : ℕ) → is_number (then_some b n) m ≡ true → b ≡ true
there true n m h = refl
there false n m h = h

-- a seat whose next event has a number sits
pub sits_from_number : (q m : ℕ) (counted : List Event) → is_number (number counted q) m ≡ true
    → sits counted q ≡ true
unfolding number
sits_from_number q m counted h = there (sits counted q) _ m h

-- ---- the session of one peer
if_it_same : (f g : ℕ → Bool) (o : Option ℕ) → ((s : ℕ) → o ≡ Some s → f s ≡ g s)
    → if_it f o ≡ if_it g o
if_it_same f g None h = refl
if_it_same f g (Some s) h = ap (λ b. then_some b s) (h s refl)

session-push : (peer : ℕ) (counted : List Event) (e : Event) → session (counted ++ e ∷ []) peer
    ≡ if_it (sits (counted ++ e ∷ [])) (option_or (then_some (opens peer e.what) e.seat)
    (last_opener peer counted))
unfolding session
session-push peer counted e = ap (if_it (sits (counted ++ e ∷ [])))
    (last_opener-push peer counted e)

session_is : (peer : ℕ) (counted : List Event)
    → session counted peer ≡ if_it (sits counted) (last_opener peer counted)
unfolding session
session_is peer counted = refl

not_opened : (peer : ℕ) (counted : List Event) (e : Event) → opens peer e.what ≡ false
    → session (counted ++ e ∷ []) peer ≡ if_it (sits (counted ++ e ∷ [])) (last_opener peer counted)
not_opened peer counted e h =
    session-push peer counted e ∙ ap (λ b. if_it (sits (counted ++ e ∷ []))
    (option_or (then_some b e.seat) (last_opener peer counted))) h

session-plain : (peer : ℕ) (counted : List Event) (e : Event) → is_sit e.what ≡ false
    → is_leave e.what ≡ false → opens peer e.what ≡ false → session (counted ++ e ∷ []) peer
    ≡ session counted peer
session-plain peer counted e sit leave h =
    not_opened peer counted e h
    ∙ if_it_same _ (sits counted) (last_opener peer counted)
    (λ s _. sits-plain s counted e sit leave)
    ∙ sym (session_is peer counted)

session-opened : (peer : ℕ) (counted : List Event) (e : Event) → is_sit e.what ≡ false
    → is_leave e.what ≡ false → opens peer e.what ≡ true → sits counted e.seat ≡ true
    → session (counted ++ e ∷ []) peer ≡ Some e.seat
session-opened peer counted e sit leave h there =
    session-push peer counted e
    ∙ ap (λ b. if_it (sits (counted ++ e ∷ []))
    (option_or (then_some b e.seat) (last_opener peer counted))) h
    ∙ ap (λ b. then_some b e.seat) (sits-plain e.seat counted e sit leave ∙ there)

session-sit : (peer : ℕ) (counted : List Event) (e : Event) → is_sit e.what ≡ true
    → is_leave e.what ≡ false → opens peer e.what ≡ false → ever_seen e.seat counted ≡ false
    → session (counted ++ e ∷ []) peer ≡ session counted peer
session-sit peer counted e sit leave h new =
    not_opened peer counted e h
    ∙ if_it_same _ (sits counted) (last_opener peer counted)
    (λ s opened. sits-sit s counted e sit leave (other s (opener_seen peer s counted opened)))
    ∙ sym (session_is peer counted)
  where
    other : (s : ℕ) → ever_seen s counted ≡ true → (e.seat == s) ≡ false
    other s seen = elim (e.seat == s) as (λ b. (e.seat == s) ≡ b → b ≡ false) [
      | true ↦ λ t. sym seen ∙ ap (λ n. ever_seen n counted) (sym (eqb-true e.seat s t)) ∙ new
      | false ↦ λ t. refl
    ] refl

session-leave : (peer : ℕ) (counted : List Event) (e : Event) → is_sit e.what ≡ false
    → is_leave e.what ≡ true → opens peer e.what ≡ false → session (counted ++ e ∷ []) peer
    ≡ keep (λ s. not (s == e.seat)) (session counted peer)
session-leave peer counted e sit leave h =
    not_opened peer counted e h
    ∙ if_it_same _ (λ s. sits counted s && not (e.seat == s)) (last_opener peer counted)
    (λ s _. sits-leave s counted e sit leave)
    ∙ split (sits counted) e.seat (last_opener peer counted)
    ∙ ap (keep (λ s. not (s == e.seat))) (sym (session_is peer counted))
  where
    turned : (a b : ℕ) → (a == b) ≡ (b == a)
    turned a b = sym (is_eq_same a b) ∙ is_eq_back a b

    one : (b : Bool) (seat s : ℕ) → then_some (b && not (seat == s)) s ≡ keep (λ s. not (s == seat))
        (then_some b s)
    one true seat s = ap (λ b. then_some (not b) s) (turned seat s)
    one false seat s = refl

    split : (f : ℕ → Bool) (seat : ℕ) (o : Option ℕ) → if_it (λ s. f s && not (seat == s)) o
        ≡ keep (λ s. not (s == seat)) (if_it f o)
    split f seat None = refl
    split f seat (Some s) = one (f s) seat s

-- ---- the sessions of all peers
among_range : (q a n : ℕ) → a ≤ q → q < a + n → is_among q (range_with_len a n) ≡ true
among_range q a zero le lt = absurd (omega arith)
among_range q a (suc n) le lt =
    ⊎_elim
    (λ same. ap (λ b. b || is_among q (range_with_len (a + 1) n)) (is_eq_same q a
    ∙ eq-eqb q a same))
    (λ other. let le' : a + 1 ≤ q = omega arith in let lt' : q < (a + 1) + n = omega arith in
    elim (is_eq (nat_cmp q a)) as (λ b. (b || is_among q (range_with_len (a + 1) n)) ≡ true)
    [ true ↦ refl | false ↦ among_range q (a + 1) n le' lt' ])
    (cases_eq q a)

found-sessions : (config : Config) (counted : List Event) (peer : ℕ)
    → found peer (sessions_in config counted)
    ≡ cond (is_among peer (range_with_len 0 (length config.peers))) (session counted peer) None
unfolding sessions_in
found-sessions config counted peer =
    found-known (session counted) peer (range_with_len 0 (length config.peers))

-- what is found of a peer is its session in force
pub found-session : (config : Config) (counted : List Event) (peer : ℕ) → peer < length config.peers
    → found peer (sessions_in config counted) ≡ session counted peer
found-session config counted peer lt =
    let lt' : peer < 0 + length config.peers = omega arith in
    found-sessions config counted peer
    ∙ ap (λ b. cond b (session counted peer) None)
    (among_range peer 0 (length config.peers) (omega arith) lt')

same_sessions : (config : Config) (counted : List Event) (e : Event)
    → ((peer : ℕ) → session (counted ++ e ∷ []) peer ≡ session counted peer)
    → sessions_in config (counted ++ e ∷ []) ≡ sessions_in config counted
unfolding sessions_in
same_sessions config counted e same =
    let peers = range_with_len 0 (length config.peers) in
    same_known (session counted) (session (counted ++ e ∷ [])) peers peers
    (λ q. found-sessions config (counted ++ e ∷ []) q
    ∙ ap (λ o. cond (is_among q peers) o None) (same q) ∙ sym (found-sessions config counted q))

pub sessions-plain : (config : Config) (counted : List Event) (e : Event) → is_sit e.what ≡ false
    → is_leave e.what ≡ false → ((peer : ℕ) → opens peer e.what ≡ false)
    → sessions_in config (counted ++ e ∷ []) ≡ sessions_in config counted
sessions-plain config counted e sit leave h =
    same_sessions config counted e (λ peer. session-plain peer counted e sit leave (h peer))

pub sessions-sit : (config : Config) (counted : List Event) (e : Event) → is_sit e.what ≡ true
    → is_leave e.what ≡ false → ((peer : ℕ) → opens peer e.what ≡ false)
    → ever_seen e.seat counted ≡ false → sessions_in config (counted ++ e ∷ [])
    ≡ sessions_in config counted
sessions-sit config counted e sit leave h new =
    same_sessions config counted e (λ peer. session-sit peer counted e sit leave (h peer) new)

pub sessions-open : (config : Config) (counted : List Event) (e : Event) (opened : ℕ)
    → is_sit e.what ≡ false → is_leave e.what ≡ false
    → ((peer : ℕ) → opens peer e.what ≡ (opened == peer)) → opened < length config.peers
    → sits counted e.seat ≡ true → sessions_in config (counted ++ e ∷ []) ≡ insert_entry nat_cmp
    (sessions_in config counted) opened e.seat
unfolding sessions_in
sessions-open config counted e opened sit leave h lt there =
    let peers = range_with_len 0 (length config.peers) in
    known-insert (session counted) (session (counted ++ e ∷ [])) peers peers opened e.seat
    (λ q. elim (opened == q) as (λ b. (opened == q) ≡ b
    → found q (sessions_in config (counted ++ e ∷ [])) ≡ cond b (Some e.seat)
    (found q (sessions_in config counted))) [
      | true ↦ λ t. let lt' : q < length config.peers =
          subst (λ n. n < length config.peers) (eqb-true opened q t) lt in
          found-session config (counted ++ e ∷ []) q lt'
          ∙ session-opened q counted e sit leave (h q ∙ t) there
      | false ↦ λ t. found-sessions config (counted ++ e ∷ []) q
          ∙ ap (λ o. cond (is_among q peers) o None) (session-plain q counted e sit leave (h q ∙ t))
          ∙ sym (found-sessions config counted q)
    ] refl ∙ ap (λ b. cond b (Some e.seat) (found q (sessions_in config counted)))
    (sym (is_eq_back q opened)))

pub sessions-leave : (config : Config) (counted : List Event) (e : Event) → is_sit e.what ≡ false
    → is_leave e.what ≡ true → ((peer : ℕ) → opens peer e.what ≡ false)
    → sessions_in config (counted ++ e ∷ []) ≡ filter (λ session. not (session.1 == e.seat))
    (sessions_in config counted)
unfolding sessions_in
sessions-leave config counted e sit leave h =
    let peers = range_with_len 0 (length config.peers) in
    known-filter (session counted) (session (counted ++ e ∷ [])) peers peers
    (λ session. not (session.1 == e.seat))
    (λ q. found-sessions config (counted ++ e ∷ []) q
    ∙ ap (λ o. cond (is_among q peers) o None) (session-leave q counted e sit leave (h q))
    ∙ through (is_among q peers) (λ s. not (s == e.seat)) (session counted q)
    ∙ ap (keep (λ s. not (s == e.seat))) (sym (found-sessions config counted q)))
  where
    through : (b : Bool) (f : ℕ → Bool) (o : Option ℕ)
        → cond b (keep f o) None ≡ keep f (cond b o None)
    through true f o = refl
    through false f o = refl
