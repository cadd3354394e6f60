-- The messages of a piece behind those before it.
use Rattle.std.proofs.Common.{◌≡◌, ℕ, suc, ◌+◌, List, [], ◌∷◌, ◌++◌, map, Option, Some, None, refl}
use Rattle.std.proofs.Common.{sym, ap, ◌∙◌, arith, append_assoc, add-zero, zero-add}
use Rattle.std.specs.List.{flat_map}
use Rattle.peers_msg.specs.declared.message.Message.{Message}
use Rattle.agg_types.specs.declared.config.Shape.{Shape}
use Rattle.agg_types.specs.declared.event.What.{What}
use Rattle.session_core.specs.declared.cause.End.{End as Ending}
use Rattle.session_core.specs.declared.track.Entry.{Entry}
use Rattle.session_core.specs.Meaning.{Meaning, Nothing, Confirm, Partial, Fact, End}
use Rattle.session_core.specs.InForce.{followed_ids, id_in_force}
use Rattle.session_core.specs.Run.{Run, ack_of, acks_of, behind, run, run_on, run_step, settled}
use Rattle.session_core.specs.Run.{settled_entry, resync_confirm, resync_partial}
use Rattle.session_core.specs.Talk.{Words, acks_among, after_one, current_for, entries_for}
use Rattle.session_core.specs.Talk.{entry_for, meaning, track_for, words_of, words_on}
use Rattle.session_core.specs.Tracked.{Tracked, place, place_if}
use Rattle.session_core.specs.InForce.{followed_under}
use Rattle.session_core.proofs.MeaningLemmas.{hear_is, kept_by, place_for}

-- a run that says these words
abbrev pub run_for : List Shape → ℕ → Words → Run
run_for tables newest words = record {
  track = track_for tables (newest + words.count) words.past;
  facts = words.facts;
  replies = words.replies;
  end = words.end;
}

shifted : (tables : List Shape) (newest : ℕ) (facts : List What) (replies : List ℕ) (words : Words)
    → behind facts replies (run_for tables (suc newest) words) ≡ run_for tables newest
    (after_one facts replies words)
shifted tables newest facts replies words =
    let e : suc newest + words.count ≡ newest + suc words.count = omega arith in
    ap (λ (n : ℕ). let r : Run = record {
      track = track_for tables n words.past;
      facts =
          facts ++ words.facts;
      replies = replies ++ words.replies;
      end = words.end;
    } in r) e

run_on_is : (tables : List Shape) (newest : ℕ) (past : List Message) (new : Tracked) (next : Tracked
    → Run) (words : Words) (heard : Meaning) → next new ≡ run_for tables (suc newest) words
    → run_on next (kept_by heard (track_for tables newest past) new) heard ≡ run_for tables newest
    (words_on past words heard)
run_on_is tables newest past new next words Nothing is = is ∙ shifted tables newest [] [] words
run_on_is tables newest past new next words Confirm is = ap (behind [] resync_confirm) is
    ∙ shifted tables newest [] resync_confirm words
run_on_is tables newest past new next words Partial is = ap (behind [] resync_partial) is
    ∙ shifted tables newest [] resync_partial words
run_on_is tables newest past new next words (Fact fact) is = ap (behind (fact ∷ []) []) is
    ∙ shifted tables newest (fact ∷ []) [] words
run_on_is tables newest past new next words (End end) is =
    ap (λ (n : ℕ). let r : Run = record {
      track = track_for tables n past;
      facts = [];
      replies =
          [];
      end = Some end;
    } in r) (sym (add-zero newest))

-- the run of messages says their words
pub run_is : (tables : List Shape) (peer newest : ℕ) (past messages : List Message)
    → run tables peer (track_for tables newest past) messages ≡ run_for tables newest
    (words_of tables peer past messages)
unfolding run words_of
run_is tables peer newest past [] =
    ap (λ (n : ℕ). let r : Run = record {
      track = track_for tables n past;
      facts = [];
      replies =
          [];
      end = None;
    } in r) (sym (add-zero newest))
run_is tables peer newest past (message ∷ messages) =
    ap (run_step (λ next. run tables peer next messages)) (hear_is tables peer newest past message)
    ∙ run_on_is tables newest past (track_for tables (suc newest) (message ∷ past))
    (λ next. run tables peer next messages) (words_of tables peer (message ∷ past) messages)
    (meaning tables peer past message)
    (run_is tables peer (suc newest) (message ∷ past) messages)

-- ---- acknowledgements, and the start of the next piece

acks_map : (tables : List Shape) (newest : ℕ) (past : List Message) (ids : List ℕ)
    → flat_map ack_of (map (entry_for tables newest past) ids)
    ≡ flat_map (λ id. ack_of (entry_for tables newest past id)) ids
acks_map tables newest past [] = refl
acks_map tables newest past (id ∷ ids) =
    ap (λ more. ack_of (entry_for tables newest past id) ++ more) (acks_map tables newest past ids)

pub acks_are : (tables : List Shape) (newest : ℕ) (past : List Message)
    → acks_of (entries_for tables newest past) ≡ acks_among tables newest past
unfolding acks_of acks_among
acks_are tables newest past = acks_map tables newest past (followed_ids tables past)

settled_map : (tables : List Shape) (newest : ℕ) (past : List Message) (ids : List ℕ)
    → map settled_entry (map (entry_for tables newest past) ids) ≡ map (entry_for tables 0 past) ids
settled_map tables newest past [] = refl
settled_map tables newest past (id ∷ ids) =
    ap (λ more. entry_for tables 0 past id ∷ more) (settled_map tables newest past ids)

current_same : (tables : List Shape) (newest other : ℕ) (past : List Message) (force : Option ℕ)
    → current_for tables past (entries_for tables newest past) force ≡ current_for tables past
    (entries_for tables other past) force
current_same tables newest other past None = refl
current_same tables newest other past (Some id) =
    let e : place id (entries_for tables newest past) ≡ place id (entries_for tables other past) =
    place_for tables id newest past ∙ sym (place_for tables id other past) in
    ap (place_if (followed_under tables id past)) e

track_same : {a b : List Entry} {c d : Option ℕ} → a ≡ b → c ≡ d
    → (let t : Tracked = record { entries = a; current = c } in t) ≡ (let t : Tracked =
    record { entries = b; current = d } in t)
track_same e f = rw (e, f) refl

pub settled_is : (tables : List Shape) (newest : ℕ) (past : List Message)
    → (let t : Tracked = record {
      entries = settled (track_for tables newest past).entries;
      current
          = (track_for tables newest past).current;
    } in t) ≡ track_for tables 0 past
unfolding settled
settled_is tables newest past =
    track_same (settled_map tables newest past (followed_ids tables past))
    (current_same tables newest 0 past (id_in_force past))

-- ---- words behind words

abbrev pub words_behind : Words → Words → Words
words_behind first second =
    record {
      past = second.past;
      count = first.count + second.count;
      facts =
          first.facts ++ second.facts;
      replies = first.replies ++ second.replies;
      end = second.end;
    }

words_same : {past : List Message} {m n : ℕ} {a b : List What} {c d : List ℕ} {end : Option Ending}
    → m ≡ n → a ≡ b → c ≡ d → (let w : Words = record {
      past = past;
      count = m;
      facts = a;
      replies =
          c;
      end = end;
    } in w) ≡ (let w : Words = record {
      past = past;
      count = n;
      facts = b;
      replies =
          d;
      end = end;
    } in w)
words_same e f g = rw (e, f, g) refl

none_is : {A : Type 0} (x : A) → Some x ≡ None → ⊥
none_is x e = cc

one_behind : (facts : List What) (replies : List ℕ) (first second : Words)
    → after_one facts replies (words_behind first second)
    ≡ words_behind (after_one facts replies first) second
one_behind facts replies first second =
    let n : suc (first.count + second.count) ≡ suc first.count + second.count = omega arith in
    words_same n (sym (append_assoc facts first.facts second.facts))
    (sym (append_assoc replies first.replies second.replies))

-- after messages that don't end the session, the words of more stand behind theirs
words_on_append : (past : List Message) (first all : Words) (next : List Message → Words)
    (heard : Meaning) → (first.end ≡ None → all ≡ words_behind first (next first.past))
    → (words_on past first heard).end ≡ None
    → words_on past all heard ≡ words_behind (words_on past first heard)
    (next (words_on past first heard).past)
words_on_append past first all next Nothing is goes = ap (after_one [] []) (is goes)
    ∙ one_behind [] [] first (next first.past)
words_on_append past first all next Confirm is goes = ap (after_one [] resync_confirm) (is goes)
    ∙ one_behind [] resync_confirm first (next first.past)
words_on_append past first all next Partial is goes = ap (after_one [] resync_partial) (is goes)
    ∙ one_behind [] resync_partial first (next first.past)
words_on_append past first all next (Fact fact) is goes = ap (after_one (fact ∷ []) []) (is goes)
    ∙ one_behind (fact ∷ []) [] first (next first.past)
words_on_append past first all next (End end) is goes = elim (none_is end goes) [ ]

pub words_append : (tables : List Shape) (peer : ℕ) (past messages more : List Message)
    → (words_of tables peer past messages).end ≡ None → words_of tables peer past (messages ++ more)
    ≡ words_behind (words_of tables peer past messages)
    (words_of tables peer (words_of tables peer past messages).past more)
unfolding words_of
words_append tables peer past [] more goes =
    words_same (sym (zero-add (words_of tables peer past more).count)) refl refl
words_append tables peer past (message ∷ messages) more goes =
    words_on_append past (words_of tables peer (message ∷ past) messages)
    (words_of tables peer (message ∷ past) (messages ++ more))
    (λ p. words_of tables peer p more) (meaning tables peer past message)
    (words_append tables peer (message ∷ past) messages more) goes

-- after the end nothing more is read
words_on_end : (past : List Message) (first all : Words) (heard : Meaning) (end : Ending)
    → (first.end ≡ Some end → all ≡ first) → (words_on past first heard).end ≡ Some end
    → words_on past all heard ≡ words_on past first heard
words_on_end past first all Nothing end is over = ap (after_one [] []) (is over)
words_on_end past first all Confirm end is over = ap (after_one [] resync_confirm) (is over)
words_on_end past first all Partial end is over = ap (after_one [] resync_partial) (is over)
words_on_end past first all (Fact fact) end is over = ap (after_one (fact ∷ []) []) (is over)
words_on_end past first all (End other) end is over = refl

pub words_end : (tables : List Shape) (peer : ℕ) (past messages more : List Message) (end : Ending)
    → (words_of tables peer past messages).end ≡ Some end
    → words_of tables peer past (messages ++ more) ≡ words_of tables peer past messages
unfolding words_of
words_end tables peer past [] more end over = elim (none_is end (sym over)) [ ]
words_end tables peer past (message ∷ messages) more end over =
    words_on_end past (words_of tables peer (message ∷ past) messages)
    (words_of tables peer (message ∷ past) (messages ++ more))
    (meaning tables peer past message) end (words_end tables peer (message ∷ past) messages
    more end) over
