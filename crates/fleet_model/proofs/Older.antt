-- A seat becomes the session in force of a peer by its own Open alone.
use Rattle.std.proofs.Common.{◌≡◌, ◌≢◌, ℕ, Bool, true, false, cond, not, ◌&&◌, ◌==◌, List, [], ◌∷◌}
use Rattle.std.proofs.Common.{◌++◌, Option, None, Some, T, refl, sym, ap, ◌∙◌, subst, append_assoc}
use Rattle.std.proofs.lemmas.Bool.{and_from, eq-eqb, false≢true, or_parts}
use Rattle.std.proofs.lemmas.Cmp.{nat_cmp_total}
use Rattle.std.proofs.lemmas.List.{append-nil}
use Rattle.std.proofs.lemmas.Map.Lookups.{exact_unsigned}
use Rattle.std.proofs.lemmas.Option.{same_Some}
use Rattle.std.specs.Bool.{then_some}
use Rattle.std.specs.FinMap.Entries.{is_sorted}
use Rattle.std.specs.List.{list_any}
use Rattle.std.specs.Ordering.{nat_cmp}
use Rattle.agg_types.specs.declared.config.Config.{Config}
use Rattle.agg_types.specs.declared.event.Event.{Event}
use Rattle.agg_types.specs.declared.event.What.{What}
use Rattle.agg_types.specs.declared.event.What.TheVariants.{Sit, Open, Put, Clear, AddFilter}
use Rattle.agg_types.specs.declared.event.What.TheVariants.{DropFilter, Moment, Leave}
use Rattle.fleet_model.proofs.Entries.{keep, lookup-filter, lookup-insert}
use Rattle.fleet_model.proofs.Known.{known-sorted}
use Rattle.fleet_model.proofs.Seats.{is_eq_back}
use Rattle.fleet_model.proofs.Step.{one_more}
use Rattle.fleet_model.specs.Laws.{opens_at}
use Rattle.fleet_model.specs.Machine.{after, counts_now, happened, session_of}
use Rattle.fleet_model.specs.Sessions.{opens, sessions_in}
use Rattle.fleet_model.specs.State.{State, state_of}

kept_was : (f : ℕ → Bool) (o : Option ℕ) (seat : ℕ) → keep f o ≡ Some seat → o ≡ Some seat
kept_was f None seat h = h
kept_was f (Some s) seat h = elim (f s) as (λ b. then_some b s ≡ Some seat → Some s ≡ Some seat)
    [ true ↦ λ e. e | false ↦ λ e. cc ] h

not_opened : (here : Bool) (by seat : ℕ) (o : Option ℕ) → ((by == seat) && here) ≡ false
    → o ≢ Some seat → cond here (Some by) o ≢ Some seat
not_opened true by seat o other h e =
    false≢true (sym other ∙ and_from (by == seat) true (eq-eqb by seat (same_Some by seat e)) refl)
not_opened false by seat o other h e = h e

stays_out_at : (s : State) (e : Event) (peer seat : ℕ) (w : What) → T (is_sorted nat_cmp s.sessions)
    → ((e.seat == seat) && opens peer w) ≡ false → session_of s peer ≢ Some seat
    → session_of (happened s e w) peer ≢ Some seat
unfolding happened
stays_out_at s e peer seat Sit sorted other h = h
stays_out_at s e peer seat (Open opened) sorted other h =
    λ is. not_opened (opened == peer) e.seat seat (session_of s peer) other h
    (ap (λ b. cond b (Some e.seat) (session_of s peer)) (sym (is_eq_back peer opened))
    ∙ sym (lookup-insert nat_cmp nat_cmp_total exact_unsigned peer s.sessions opened e.seat)
    ∙ is)
stays_out_at s e peer seat (Put from table key life cells) sorted other h = h
stays_out_at s e peer seat (Clear table sel) sorted other h = h
stays_out_at s e peer seat (AddFilter added) sorted other h = h
stays_out_at s e peer seat (DropFilter name) sorted other h = h
stays_out_at s e peer seat (Moment told) sorted other h = h
stays_out_at s e peer seat Leave sorted other h =
    λ is. h (kept_was (λ by. not (by == e.seat)) (session_of s peer) seat
    (sym (lookup-filter nat_cmp nat_cmp_total exact_unsigned peer
    (λ session. not (session.1 == e.seat)) s.sessions sorted) ∙ is))

stays_out : (s : State) (e : Event) (peer seat : ℕ) → T (is_sorted nat_cmp s.sessions)
    → opens_at seat peer e ≡ false → session_of s peer ≢ Some seat
    → session_of (after s e) peer ≢ Some seat
unfolding after
stays_out s e peer seat sorted other h =
    elim (counts_now s e) as (λ b. session_of (cond b (happened s e e.what) s) peer ≢ Some seat)
    [ true ↦ stays_out_at s e peer seat e.what sorted other h | false ↦ h ]

sessions_sorted : (config : Config) (opening : ℕ) (events : List Event)
    → T (is_sorted nat_cmp (state_of config opening events).sessions)
unfolding state_of sessions_in
sessions_sorted config opening events = known-sorted _ _

-- while a seat doesn't open a peer, it doesn't become the peer's session
pub only_by_open : (config : Config) (opening : ℕ) (events later : List Event) (peer seat : ℕ)
    → list_any (opens_at seat peer) later ≡ false → session_of (state_of config opening events) peer
    ≢ Some seat → session_of (state_of config opening (events ++ later)) peer ≢ Some seat
only_by_open config opening events [] peer seat other h =
    subst (λ es. session_of (state_of config opening es) peer ≢ Some seat)
    (sym (append-nil events)) h
only_by_open config opening events (e ∷ later) peer seat other h =
    let parts = or_parts (opens_at seat peer e) (list_any (opens_at seat peer) later) other in
    subst (λ es. session_of (state_of config opening es) peer ≢ Some seat)
    (append_assoc events (e ∷ []) later)
    (only_by_open config opening (events ++ e ∷ []) later peer seat parts.1
    (subst (λ s. session_of s peer ≢ Some seat) (sym (one_more config opening events e))
    (stays_out (state_of config opening events) e peer seat (sessions_sorted config opening events)
    parts.0 h)))

opened_by : (s : State) (e : Event) (peer : ℕ) → counts_now s e ≡ true → e.what ≡ Open peer
    → session_of (after s e) peer ≡ Some e.seat
unfolding after happened
opened_by s e peer does is =
    ap (λ b. session_of (cond b (happened s e e.what) s) peer) does
    ∙ ap (λ w. session_of (happened s e w) peer) is
    ∙ lookup-insert nat_cmp nat_cmp_total exact_unsigned peer s.sessions peer e.seat
    ∙ ap (λ b. cond b (Some e.seat) (session_of s peer)) (is_eq_back peer peer
    ∙ eq-eqb peer peer refl)

-- a session in force is that of the last Open that counted: once another seat opened the peer, an
-- older one stays out
pub older_out : (config : Config) (opening : ℕ) (events : List Event) (e : Event)
    (later : List Event) (peer seat : ℕ) → counts_now (state_of config opening events) e ≡ true
    → e.what ≡ Open peer → e.seat ≢ seat → list_any (opens_at seat peer) later ≡ false
    → session_of (state_of config opening ((events ++ e ∷ []) ++ later)) peer ≢ Some seat
older_out config opening events e later peer seat does is other quiet =
    only_by_open config opening (events ++ e ∷ []) later peer seat quiet
    (λ same. other (same_Some e.seat seat
    (sym (opened_by (state_of config opening events) e peer does is)
    ∙ ap (λ s. session_of s peer) (sym (one_more config opening events e)) ∙ same)))
