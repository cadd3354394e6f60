-- Rounds, one after the other.
use Rattle.std.proofs.Common.{◌≡◌, ◌≤◌, ◌<◌, ◌+◌, ◌&&◌, ℕ, suc, Bool, true, false, List, [], ◌∷◌}
use Rattle.std.proofs.Common.{◌++◌, length, filter, leb, ltb, Option, None, Some, refl, sym, ap}
use Rattle.std.proofs.Common.{◌∙◌}
use Rattle.std.proofs.Common.{arith, if◌then◌else◌, append-nil}
use Rattle.std.proofs.lemmas.Bool.Decides.{nat_tests}
use Rattle.std.specs.List.{flat_map}
use Rattle.agg_types.specs.declared.event.Event.{Event}
use Rattle.set_changes.proofs.Known.{says_as, says_end, says_then}
use Rattle.set_changes.specs.Numbered.{Says, Sets, said_of}
use Rattle.set_changes.specs.declared.change.Change.{Change}
use Rattle.standing_filters.specs.Flips.{later_of}
use Rattle.standing_filters.specs.Turns.{same_key}
use Rattle.logged_keys.specs.Rounds.{EachSays, GoOn, Part, Span, tellings}

-- ---- numbers

-- rounds that begin at a number or behind it don't tell it
none_below : (first last number : ℕ) (spans : List Span) → GoOn first spans last
    → number ≤ first → tellings spans number ≡ 0
none_below first last number [] on below = refl
none_below first last number (span ∷ spans) on below =
    let out : ltb span.since number ≡ false = grind (arith, nat_tests, on.0, below) in
    rw out (none_below span.to last number spans on.2 (omega (arith, on.0, on.1, below)))

pub told_once : (first last number : ℕ) (spans : List Span) → GoOn first spans last
    → first < number → number ≤ last → tellings spans number ≡ 1
told_once first last number [] on above below = absurd (omega (arith, on, above, below))
told_once first last number (span ∷ spans) on above below =
    by (leb number span.to) refl
    (λ behind. told_once span.to last number spans on.2 behind below)
  where
    in_front : ltb span.since number ≡ true
    in_front = grind (arith, nat_tests, on.0, above)

    by : (b : Bool) → leb number span.to ≡ b
        → (span.to < number → tellings spans number ≡ 1) → tellings (span ∷ spans) number ≡ 1
    by true is later =
        let within : number ≤ span.to = grind (arith, nat_tests) in
        rw (in_front, is) (ap suc (none_below span.to last number spans on.2 within))
    by false is later =
        let behind : span.to < number = grind (arith, nat_tests) in
        rw (in_front, is) (later behind)

-- ---- what is said

later_none : (said : Option Bool) → later_of None said ≡ said
later_none None = refl
later_none (Some b) = refl

later_assoc : (first second third : Option Bool)
    → later_of (later_of first second) third ≡ later_of first (later_of second third)
later_assoc first second None = refl
later_assoc first second (Some b) = refl

said_of-append : (some others : List Change) (key : List ℕ)
    → said_of (some ++ others) key ≡ later_of (said_of some key) (said_of others key)
said_of-append [] others key = sym (later_none (said_of others key))
said_of-append (change ∷ some) others key =
    let first = (if same_key change.key key then Some change.is_in else None) in
    ap (later_of first) (said_of-append some others key)
    ∙ sym (later_assoc first (said_of some key) (said_of others key))

pub whole_way : (sets : Sets) (place : ℕ) (early : List Event) (parts : List Part)
    → EachSays sets place early parts
    → Says sets place (said_of (flat_map (λ part. part.changes) parts)) early
    (flat_map (λ part. part.events) parts)
whole_way sets place early [] says = says_end sets place (said_of []) early [] (λ key. refl) refl
whole_way sets place early (part ∷ parts) says =
    let rest = flat_map (λ p. p.changes) parts in
    says_as sets place (λ key. later_of (said_of part.changes key) (said_of rest key))
    (said_of (part.changes ++ rest)) early (part.events ++ flat_map (λ p. p.events) parts)
    (said_of-append part.changes rest)
    (says_then sets place (said_of part.changes) (said_of rest) early part.events
    (flat_map (λ p. p.events) parts) says.0
    (whole_way sets place (early ++ part.events) parts says.1))
