-- Entries, the events among them, and the beginnings that they are.
use Rattle.std.proofs.Common.{◌≡◌, ℕ, ◌≤◌, nat_le, MatchBool, ◌<◌, ◌&&◌, true, false, Bool}
use Rattle.std.proofs.Common.{List, [], ◌∷◌, ◌++◌, length, fold, refl, sym, ap, ◌∙◌, subst}
use Rattle.std.proofs.Common.{arith, append-nil, append_assoc}
use Rattle.std.proofs.lemmas.Bool.Decides.{nat_tests}
use mathlib.Core.List.{IsPrefix}
use Rattle.logbook.specs.Pages.{Book}
use Rattle.agg_types.specs.declared.config.Config.{Config}
use Rattle.agg_types.specs.declared.event.Event.{Event}
use Rattle.fleet_model.proofs.Runs.{step_by_step}
use Rattle.fleet_model.specs.Machine.{after, counts_now, opened}
use Rattle.fleet_model.specs.State.{State, state_of}
use Rattle.hub.specs.declared.entry.Entry.{Entry}
use Rattle.hub.specs.declared.entry.Entry.TheVariants.{Opened, Happened}
use Rattle.hub.specs.History.{AllCount, Beginning, IsLonger, all_count}
use Rattle.hub.specs.Law.{IsHistory, begun, config_of, events_of, opening_of}
use Rattle.hub.proofs.Fronts.{prefix_self, prefix_shorter, prefix_whole}

-- ---- events among entries

pub events_of-append : (some others : List Entry) → events_of (some ++ others) ≡ events_of some
    ++ events_of others
events_of-append [] others = refl
events_of-append (Opened config opening ∷ some) others = events_of-append some others
events_of-append (Happened events ∷ some) others =
    ap (λ later. events ++ later) (events_of-append some others)
    ∙ sym (append_assoc events (events_of some) (events_of others))

-- where entries begin with others, so do their events
pub events-prefix : (some all : List Entry) → IsPrefix some all
    → IsPrefix (events_of some) (events_of all)
events-prefix some all p =
    (events_of p.0, sym (events_of-append some p.0) ∙ ap events_of p.1)

abbrev pub beginning : Book → Config → ℕ → List Event → Beginning
beginning of config opening events = record {
  of = of;
  config = config;
  opening =
      opening;
  events = events;
}

-- what a history's entries are
pub begun-history : (of : Book) (log : List Entry) → (h : IsHistory log)
    → begun of log ≡ beginning of h.config h.opening (events_of h.later)
begun-history of log h = ap (begun of) h.formed

-- all events of a beginning count
pub legal-begun : (of : Book) (log : List Entry) → IsHistory log
    → AllCount (begun of log).config (begun of log).opening (begun of log).events
legal-begun of log h =
    let P : Beginning → Type 0 = λ b. AllCount b.config b.opening b.events in
    subst P (sym (begun-history of log h)) h.legal

-- ---- of two beginnings of one log one begins the other

pub record Begins (some all : Beginning) : Type 0 where
  pub config : all.config ≡ some.config
  pub opening : all.opening ≡ some.opening
  pub events : IsPrefix some.events all.events

-- where the entries of one begin with those of another
begins-entries : (of of' : Book) (a b : List Entry) → IsHistory a → IsHistory b → IsPrefix a b
    → Begins (begun of a) (begun of' b)
begins-entries of of' a b h k p =
    let same : Opened h.config h.opening ∷ (h.later ++ p.0) ≡ Opened k.config k.opening ∷ k.later =
    ap (λ l. l ++ p.0) (sym h.formed) ∙ (p.1 ∙ k.formed) in
    let configs : k.config ≡ h.config = cc same in
    let openings : k.opening ≡ h.opening = cc same in
    record {
      config = ap config_of k.formed ∙ (configs ∙ sym (ap config_of h.formed));
      opening = ap opening_of k.formed ∙ (openings ∙ sym (ap opening_of h.formed));
      events = events-prefix a b p;
    }

-- of two beginnings of one log, the one that isn't longer begins the other
pub begins : (of of' : Book) (a b both : List Entry) → IsHistory a → IsHistory b → IsPrefix a both
    → IsPrefix b both → length (events_of a) ≤ length (events_of b)
    → Begins (begun of a) (begun of' b)
begins of of' a b both h k p q le = by_test (nat_le (length a) (length b)) refl
  where
    by_test : (t : Bool) → nat_le (length a) (length b) ≡ t → Begins (begun of a) (begun of' b)
    by_test true is =
        let short : length a ≤ length b = grind (arith, nat_tests) in
        begins-entries of of' a b h k (prefix_shorter a b both p q short)
    by_test false is =
        let short : length b ≤ length a = grind (arith, nat_tests) in
        let back = begins-entries of' of b a k h (prefix_shorter b a both q p short) in
        let same : events_of b ≡ events_of a =
        prefix_whole (events_of b) (events_of a) back.events le in
        record {
          config = sym back.config;
          opening = sym back.opening;
          events = subst (λ (es : List Event). IsPrefix es (events_of b)) same
              (prefix_self (events_of b));
        }

-- ---- more events

abbrev pub state_begun : Book → List Entry → State
state_begun of log =
    state_of (begun of log).config (begun of log).opening (begun of log).events

-- the state that events leave which count one after the other
pub all_count-append : (state : State) (events more : List Event)
    → all_count state events ≡ true → all_count (fold after state events) more ≡ true
    → all_count state (events ++ more) ≡ true
all_count-append state [] more all one = one
all_count-append state (f ∷ events) more all one =
    let both = and_split (counts_now state f) (all_count (after state f) events) all in
    let rest = all_count-append (after state f) events more both.1 one in
    rw (both.0, rest) refl
  where
    and_split : (a b : Bool) → a && b ≡ true → (a ≡ true) × (b ≡ true)
    and_split true b h = (refl, h)
    and_split false b h = absurd (cc h)

pub legal-more : (config : Config) (opening : ℕ) (events more : List Event)
    → AllCount config opening events → all_count (state_of config opening events) more ≡ true
    → AllCount config opening (events ++ more)
legal-more config opening events more all one =
    all_count-append (opened config opening) events more all
    (ap (λ s. all_count s more) (sym (step_by_step config opening events)) ∙ one)

pub history-more : (of : Book) (log : List Entry) (more : List Event) → (h : IsHistory log)
    → all_count (state_begun of log) more ≡ true → IsHistory (log ++ Happened more ∷ [])
history-more of log more h count =
    let counts : all_count (state_of h.config h.opening (events_of h.later)) more ≡ true =
    subst (λ (b : Beginning). all_count (state_of b.config b.opening b.events) more ≡ true)
    (begun-history of log h) count in
    let events : events_of h.later ++ more ≡ events_of (h.later ++ Happened more ∷ []) =
    ap (λ es. events_of h.later ++ es) (sym (append-nil more))
    ∙ sym (events_of-append h.later (Happened more ∷ [])) in
    record {
      config = h.config;
      opening = h.opening;
      later = h.later ++ Happened more ∷ [];
      formed = ap (λ l. l ++ Happened more ∷ []) h.formed;
      legal = subst (AllCount h.config h.opening) events
          (legal-more h.config h.opening (events_of h.later) more h.legal counts);
    }

-- what a comparison of two numbers of events tells
pub compared : (of of' : Book) (a b both : List Entry) (n m : ℕ) → IsHistory a → IsHistory b
    → IsPrefix a both → IsPrefix b both → n ≡ length (events_of a) → m ≡ length (events_of b)
    → (o : Bool) → nat_le n m ≡ o → MatchBool o (IsPrefix (begun of a).events (begun of' b).events)
    (IsLonger (begun of' b).events (begun of a).events)
compared of of' a b both n m h k p q ln lm true is =
    let le : n ≤ m = grind (arith, nat_tests) in
    (begins of of' a b both h k p q (omega arith)).events
compared of of' a b both n m h k p q ln lm false is =
    let less : m < n = grind (arith, nat_tests) in (
      (begins of' of b a both k h q p (omega arith)).events,
      omega arith,
    )
