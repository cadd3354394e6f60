-- The messages of a piece, one at a time.
use Rattle.std.proofs.Common.{◌≡◌, ℕ, zero, suc, ◌+◌, ◌≤◌, List, [], ◌∷◌, ◌++◌, length, drop}
use Rattle.std.proofs.Common.{slice_get, Option}
use Rattle.std.proofs.Common.{Some, None, refl, sym, ap, arith, ◌∙◌, append_assoc, append-nil}
use Rattle.std.proofs.lemmas.List.{at_drop_more, at_drop_all}
use Rattle.std.proofs.lemmas.Option.{slice_get_within, get_or_from_slice_get}
use Rattle.peers_msg.specs.declared.message.Message.{Message}
use Rattle.agg_types.specs.declared.config.Shape.{Shape}
use Rattle.agg_types.specs.declared.event.What.{What}
use Rattle.session_core.specs.declared.cause.End.{End as Ending}
use Rattle.session_core.specs.Meaning.{Meaning, Nothing, Confirm, Partial, Fact, End, IsHeard}
use Rattle.session_core.specs.declared.track.Heard.{Heard}
use Rattle.session_core.specs.declared.track.Heard.TheVariants as heard
use Rattle.session_core.specs.Tracked.{Tracked, Step, step_of, IsStep}
use Rattle.session_core.specs.Run.{GoesOn, Run, Ran, run, run_step, run_on, behind, resync_confirm}
use Rattle.session_core.specs.Run.{resync_partial}

-- where no message stands, there are none behind
pub got_none : (messages : List Message) (i : ℕ) → None ≡ slice_get messages i
    → length messages ≤ i
got_none [] i e = omega arith
got_none (message ∷ messages) zero e = absurd cc
got_none (message ∷ messages) (suc i) e = omega (arith, got_none messages i e)

-- the run of what is left begins with the step of the next message
pub run_next : (tables : List Shape) (peer : ℕ) (t : Tracked) (messages : List Message) (i : ℕ)
    (message : Message) → Some message ≡ slice_get messages i
    → run tables peer t (drop i messages)
    ≡ run_step (λ next. run tables peer next (drop (i + 1) messages))
    (step_of tables peer t message)
unfolding run
run_next tables peer t messages i message is =
    let next = λ (next : Tracked). run tables peer next (drop (i + 1) messages) in
    at_drop_more (run tables peer t) messages i message
    (slice_get_within messages i message (sym is))
    ∙ ap (λ m. run_step next (step_of tables peer t m))
    (get_or_from_slice_get messages i message message (sym is))

pub goes_on_none : (facts : List What) (replies : List ℕ) (run : Run)
    → GoesOn facts facts replies replies run run
goes_on_none facts replies run = record {
  facts_are = refl;
  replies_are = refl;
  track_is =
      refl;
  end_is = refl;
}

-- a reply is moved in front of what is left
pub goes_on_reply : {old_facts facts : List What} {old_replies replies : List ℕ} {all : Run}
    (said : List ℕ) (left : Run) → GoesOn old_facts facts old_replies replies (behind [] said left)
    all → GoesOn old_facts facts old_replies (replies ++ said) left all
goes_on_reply {replies = replies} said left h =
    record {
      facts_are = h.facts_are;
      replies_are = append_assoc replies said left.replies
          ∙ h.replies_are;
      track_is = h.track_is;
      end_is = h.end_is;
    }

-- so is a fact
pub goes_on_fact : {old_facts facts : List What} {old_replies replies : List ℕ} {all : Run}
    (fact : What) (left : Run) → GoesOn old_facts facts old_replies replies
    (behind (fact ∷ []) [] left) all → GoesOn old_facts (facts ++ fact ∷ []) old_replies
    replies left all
goes_on_fact {facts = facts} fact left h =
    record {
      facts_are = append_assoc facts (fact ∷ []) left.facts ∙ h.facts_are;
      replies_are =
          h.replies_are;
      track_is = h.track_is;
      end_is = h.end_is;
    }

-- ---- a step, by what was heard

abbrev tag : Heard → ℕ
tag heard.Nothing = 0
tag heard.Confirm = 1
tag heard.Partial = 2
tag (heard.End cause) = 3

heard_nothing_on : {old_facts facts new_facts : List What} {old_replies replies : List ℕ}
    {all : Run} (next : Tracked → Run) (t : Tracked) (meaning : Meaning)
    → IsHeard heard.Nothing facts new_facts meaning
    → GoesOn old_facts facts old_replies replies (run_on next t meaning) all
    → GoesOn old_facts new_facts old_replies replies (next t) all
heard_nothing_on next t Nothing is h = rw is.1 h
heard_nothing_on next t Confirm is h = let e : 0 ≡ 1 = ap tag is.0 in absurd (omega (arith, e))
heard_nothing_on next t Partial is h = let e : 0 ≡ 2 = ap tag is.0 in absurd (omega (arith, e))
heard_nothing_on next t (Fact fact) is h = rw is.1 (goes_on_fact fact (next t) h)
heard_nothing_on next t (End cause) is h = let e : 0 ≡ 3 = ap tag is.0 in absurd (omega (arith, e))

pub heard_nothing : {old_facts facts new_facts : List What} {old_replies replies : List ℕ}
    {all : Run} {track : Tracked} (next : Tracked → Run) (step : Step)
    → IsStep track heard.Nothing facts new_facts step
    → GoesOn old_facts facts old_replies replies (run_step next step) all
    → GoesOn old_facts new_facts old_replies replies (next track) all
heard_nothing next step is h = rw is.0 (heard_nothing_on next step.track step.meaning is.1 h)

heard_confirm_on : {old_facts facts new_facts : List What} {old_replies replies : List ℕ}
    {all : Run} (next : Tracked → Run) (t : Tracked) (meaning : Meaning)
    → IsHeard heard.Confirm facts new_facts meaning
    → GoesOn old_facts facts old_replies replies (run_on next t meaning) all
    → GoesOn old_facts new_facts old_replies (replies ++ resync_confirm) (next t) all
heard_confirm_on next t Nothing is h = let e : 1 ≡ 0 = ap tag is.0 in absurd (omega (arith, e))
heard_confirm_on next t Confirm is h = rw is.1 (goes_on_reply resync_confirm (next t) h)
heard_confirm_on next t Partial is h = let e : 1 ≡ 2 = ap tag is.0 in absurd (omega (arith, e))
heard_confirm_on next t (Fact fact) is h = let e : 1 ≡ 0 = ap tag is.0 in absurd (omega (arith, e))
heard_confirm_on next t (End cause) is h = let e : 1 ≡ 3 = ap tag is.0 in absurd (omega (arith, e))

pub heard_confirm : {old_facts facts new_facts : List What} {old_replies replies : List ℕ}
    {all : Run} {track : Tracked} (next : Tracked → Run) (step : Step)
    → IsStep track heard.Confirm facts new_facts step
    → GoesOn old_facts facts old_replies replies (run_step next step) all
    → GoesOn old_facts new_facts old_replies (replies ++ resync_confirm) (next track) all
heard_confirm next step is h = rw is.0 (heard_confirm_on next step.track step.meaning is.1 h)

heard_partial_on : {old_facts facts new_facts : List What} {old_replies replies : List ℕ}
    {all : Run} (next : Tracked → Run) (t : Tracked) (meaning : Meaning)
    → IsHeard heard.Partial facts new_facts meaning
    → GoesOn old_facts facts old_replies replies (run_on next t meaning) all
    → GoesOn old_facts new_facts old_replies (replies ++ resync_partial) (next t) all
heard_partial_on next t Nothing is h = let e : 2 ≡ 0 = ap tag is.0 in absurd (omega (arith, e))
heard_partial_on next t Confirm is h = let e : 2 ≡ 1 = ap tag is.0 in absurd (omega (arith, e))
heard_partial_on next t Partial is h = rw is.1 (goes_on_reply resync_partial (next t) h)
heard_partial_on next t (Fact fact) is h = let e : 2 ≡ 0 = ap tag is.0 in absurd (omega (arith, e))
heard_partial_on next t (End cause) is h = let e : 2 ≡ 3 = ap tag is.0 in absurd (omega (arith, e))

pub heard_partial : {old_facts facts new_facts : List What} {old_replies replies : List ℕ}
    {all : Run} {track : Tracked} (next : Tracked → Run) (step : Step)
    → IsStep track heard.Partial facts new_facts step
    → GoesOn old_facts facts old_replies replies (run_step next step) all
    → GoesOn old_facts new_facts old_replies (replies ++ resync_partial) (next track) all
heard_partial next step is h = rw is.0 (heard_partial_on next step.track step.meaning is.1 h)

abbrev end_in : Ending → Heard → Ending
end_in other heard.Nothing = other
end_in other heard.Confirm = other
end_in other heard.Partial = other
end_in other (heard.End cause) = cause

end_same : {a b : Ending} → heard.End a ≡ heard.End b → a ≡ b
end_same {a = a} e = ap (end_in a) e

heard_end_on : {old_facts facts new_facts : List What} {old_replies replies : List ℕ} {all : Run}
    (next : Tracked → Run) (t : Tracked) (ending : Ending) (meaning : Meaning)
    → IsHeard (heard.End ending) facts new_facts meaning
    → GoesOn old_facts facts old_replies replies (run_on next t meaning) all
    → GoesOn old_facts new_facts old_replies replies (record {
      track = t;
      facts = [];
      replies =
          [];
      end = Some ending;
    }) all
heard_end_on next t ending Nothing is h = let e : 3 ≡ 0 = ap tag is.0 in absurd (omega (arith, e))
heard_end_on next t ending Confirm is h = let e : 3 ≡ 1 = ap tag is.0 in absurd (omega (arith, e))
heard_end_on next t ending Partial is h = let e : 3 ≡ 2 = ap tag is.0 in absurd (omega (arith, e))
heard_end_on next t ending (Fact fact) is h = let e : 3 ≡ 0 = ap tag is.0 in
    absurd (omega (arith, e))
heard_end_on next t ending (End cause) is h = rw (is.1, end_same is.0) h

pub heard_end : {old_facts facts new_facts : List What} {old_replies replies : List ℕ} {all : Run}
    {track : Tracked} (next : Tracked → Run) (ending : Ending) (step : Step)
    → IsStep track (heard.End ending) facts new_facts step
    → GoesOn old_facts facts old_replies replies (run_step next step) all
    → GoesOn old_facts new_facts old_replies replies (record {
      track = track;
      facts = [];
      replies =
          [];
      end = Some ending;
    }) all
heard_end next ending step is h = rw is.0 (heard_end_on next step.track ending step.meaning is.1 h)

-- a run that is at its end
pub ran_all : (old_facts facts : List What) (old_replies replies : List ℕ) (t : Tracked)
    (end : Option Ending) (all : Run)
    → GoesOn old_facts facts old_replies replies (record {
      track = t;
      facts = [];
      replies =
          [];
      end = end;
    }) all → Ran end t old_facts facts old_replies replies all
ran_all old_facts facts old_replies replies t end all h = (
  h.end_is,
  h.track_is,
  sym (append-nil facts) ∙ h.facts_are,
  sym (append-nil replies)
      ∙ h.replies_are,
)

pub run_nil : (tables : List Shape) (peer : ℕ) (t : Tracked) (messages : List Message) (i : ℕ)
    → length messages ≤ i → run tables peer t (drop i messages) ≡ record {
      track = t;
      facts =
          [];
      replies = [];
      end = None;
    }
unfolding run
run_nil tables peer t messages i e = at_drop_all (run tables peer t) messages i (omega arith)
