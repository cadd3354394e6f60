-- What flips tell, one behind the other.
use Rattle.std.proofs.Common.{◌≡◌, ◌≢◌, ◌==◌, ◌&&◌, ◌+◌, ◌<◌, ℕ, zero, suc, Bool, true, false, cond}
use Rattle.std.proofs.Common.{List, [], ◌∷◌, ◌++◌, Option, None, Some, refl, sym, ap, ◌∙◌}
use Rattle.std.proofs.Common.{append_assoc, append-nil, arith}
use Rattle.std.specs.Prelude.{unwrap_or}
use Rattle.std.proofs.lemmas.Bool.{eq-eqb, eqb-true}
use Rattle.standing_filters.specs.Flips.{Flipped, IsNoted, Tells, TellsAt, TellsFrom, TellsIfKnown}
use Rattle.standing_filters.specs.Flips.{holding, is_of, last_said, later_of, noted, said}
use Rattle.standing_filters.specs.Plans.{Becomes}
use Rattle.standing_filters.specs.Turns.{same_key}
use Rattle.standing_filters.specs.Watched.{Watched, verdict_at}
use Rattle.standing_filters.specs.declared.flips.Flip.{Flip}
use Rattle.standing_filters.specs.declared.judging.Verdict.{Verdict}
use Rattle.standing_filters.proofs.Walking.{one_key}

-- ---- what the last of some flips says
later_none : (b : Option Bool) → later_of None b ≡ b
later_none None = refl
later_none (Some v) = refl

later_assoc : (a b c : Option Bool) → later_of a (later_of b c) ≡ later_of (later_of a b) c
later_assoc a b None = refl
later_assoc a b (Some v) = refl

pub said_append : (xs ys : List Flip) (filter : ℕ) (key : List ℕ)
    → last_said (xs ++ ys) filter key ≡ later_of (last_said xs filter key) (last_said ys filter key)
said_append [] ys filter key = sym (later_none (last_said ys filter key))
said_append (x ∷ xs) ys filter key =
    ap (later_of (cond (is_of x filter key) (Some x.is_in) None)) (said_append xs ys filter key)
    ∙ later_assoc (cond (is_of x filter key) (Some x.is_in) None) (last_said xs filter key)
    (last_said ys filter key)

later_or : (a b : Option Bool) (before : Bool)
    → unwrap_or (later_of a b) before ≡ unwrap_or b (unwrap_or a before)
later_or a None before = refl
later_or a (Some v) before = refl

pub said_then : (xs ys : List Flip) (filter : ℕ) (key : List ℕ) (before : Bool)
    → said (xs ++ ys) filter key before ≡ said ys filter key (said xs filter key before)
said_then xs ys filter key before =
    ap (λ o. unwrap_or o before) (said_append xs ys filter key)
    ∙ later_or (last_said xs filter key) (last_said ys filter key) before

-- flips behind flips behind others
pub added_then : (x y z : Flipped) (first second : List Flip) → y.flips ≡ x.flips ++ first
    → z.flips ≡ y.flips ++ second → z.flips ≡ x.flips ++ (first ++ second)
added_then x y z first second one other =
    other ∙ ap (λ l. l ++ second) one ∙ append_assoc x.flips first second

-- ---- flips of all filters
pub tells_none : (held : ℕ → List ℕ → Bool) (x : Flipped) → x.lost ≡ false → Tells held held x x
tells_none held x known = record {
  more = [];
  known = known;
  added = sym (append-nil x.flips);
  said = λ filter key. refl;
}

pub tells_then : (a b c : ℕ → List ℕ → Bool) (x y z : Flipped) → Tells a b x y → Tells b c y z
    → Tells a c x z
tells_then a b c x y z first second = record {
  more = first.more ++ second.more;
  known = first.known;
  added = added_then x y z first.more second.more first.added second.added;
  said = λ filter key. second.said filter key
      ∙ ap (said second.more filter key) (first.said filter key)
      ∙ sym (said_then first.more second.more filter key (a filter key));
}

-- the same of what holds the same
pub tells_same : (held other later last : ℕ → List ℕ → Bool) (x y : Flipped)
    → ((filter : ℕ) (key : List ℕ) → other filter key ≡ held filter key)
    → ((filter : ℕ) (key : List ℕ) → last filter key ≡ later filter key) → Tells held later x y
    → Tells other last x y
tells_same held other later last x y before after told = record {
  more = told.more;
  known = told.known;
  added = told.added;
  said = λ filter key. after filter key ∙ told.said filter key
      ∙ ap (said told.more filter key) (sym (before filter key));
}

pub if_known_then : (a b c : ℕ → List ℕ → Bool) (x y z : Flipped) → TellsIfKnown a b x y
    → TellsIfKnown b c y z → TellsIfKnown a c x z
if_known_then a b c x y z first second = λ known.
    let later = second known in
    tells_then a b c x y z (first later.known) later

-- ---- flips of one filter
pub at_none : (place : ℕ) (held : List ℕ → Bool) (x : Flipped) → x.lost ≡ false
    → TellsAt place held held x x
at_none place held x known = record {
  more = [];
  known = known;
  added = sym (append-nil x.flips);
  said = λ key. refl;
  others = λ other key apart. refl;
}

both_none : (a b : Option Bool) → a ≡ None → b ≡ None → later_of a b ≡ None
both_none a b one other = ap (later_of a) other ∙ one

pub at_then : (place : ℕ) (a b c : List ℕ → Bool) (x y z : Flipped) → TellsAt place a b x y
    → TellsAt place b c y z → TellsAt place a c x z
at_then place a b c x y z first second = record {
  more = first.more ++ second.more;
  known = first.known;
  added = added_then x y z first.more second.more first.added second.added;
  said = λ key. second.said key ∙ ap (said second.more place key) (first.said key)
      ∙ sym (said_then first.more second.more place key (a key));
  others = λ other key apart. said_append first.more second.more other key
      ∙ both_none (last_said first.more other key) (last_said second.more other key)
      (first.others other key apart) (second.others other key apart);
}

stays : (key : List ℕ) (v : Bool) (held : List ℕ → Bool) → held key ≡ v → (q : List ℕ)
    → cond (same_key key q) v (held q) ≡ held q
stays key v held is q = by (same_key key q) refl
  where
    by : (b : Bool) → same_key key q ≡ b → cond b v (held q) ≡ held q
    by true same = sym is ∙ ap held (one_key key q same)
    by false apart = refl

one_flip : ℕ → List ℕ → Bool → Flip
one_flip place key now = record { filter = place; key = key; is_in = now }

said_one : (place : ℕ) (key : List ℕ) (now : Bool) (q : List ℕ) (before : Bool)
    → said (one_flip place key now ∷ []) place q before ≡ cond (same_key key q) now before
unfolding one_flip
said_one place key now q before = rw (eq-eqb place place refl) (by (same_key key q))
  where
    by : (b : Bool) → unwrap_or (cond b (Some now) None) before ≡ cond b now before
    by true = refl
    by false = refl

other_one : (place : ℕ) (key : List ℕ) (now : Bool) (other : ℕ) (q : List ℕ) → other ≢ place
    → last_said (one_flip place key now ∷ []) other q ≡ None
unfolding one_flip
other_one place key now other q apart = by (place == other) refl
  where
    by : (b : Bool) → (place == other) ≡ b → cond (b && same_key key q) (Some now) None ≡ None
    by true same = absurd (apart (sym (eqb-true place other same)))
    by false _ = refl

noted_said : (place : ℕ) (key : List ℕ) (before now : Bool) (held later : List ℕ → Bool)
    → held key ≡ before → ((q : List ℕ) → later q ≡ cond (same_key key q) now (held q))
    → (q : List ℕ) → later q ≡ said (noted place key before now) place q (held q)
unfolding one_flip
noted_said place key true true held later is becomes q = becomes q ∙ stays key true held is q
noted_said place key false false held later is becomes q = becomes q ∙ stays key false held is q
noted_said place key true false held later is becomes q =
    becomes q ∙ sym (said_one place key false q (held q))
noted_said place key false true held later is becomes q =
    becomes q ∙ sym (said_one place key true q (held q))

noted_others : (place : ℕ) (key : List ℕ) (before now : Bool) (other : ℕ) (q : List ℕ)
    → other ≢ place → last_said (noted place key before now) other q ≡ None
unfolding one_flip
noted_others place key true true other q apart = refl
noted_others place key false false other q apart = refl
noted_others place key true false other q apart = other_one place key false other q apart
noted_others place key false true other q apart = other_one place key true other q apart

pub noted_at : (place : ℕ) (key : List ℕ) (before now : Bool) (held later : List ℕ → Bool)
    (old new : Flipped) → IsNoted place key before now old new → held key ≡ before
    → ((q : List ℕ) → later q ≡ cond (same_key key q) now (held q))
    → TellsAt place held later old new
noted_at place key before now held later old new told is becomes = record {
  more = noted place key before now;
  known = told.known;
  added = told.added;
  said = noted_said place key before now held later is becomes;
  others = noted_others place key before now;
}

by_cases : (b : Bool) (one other : Verdict)
    → (cond b one other).holds ≡ cond b one.holds other.holds
by_cases true one other = refl
by_cases false one other = refl

-- what is noted of a key whose verdict becomes another
pub noted_becomes : (place : ℕ) (key : List ℕ) (verdict : Verdict) (held : Bool)
    (old new : List (List ℕ × Verdict)) (x y : Flipped)
    → IsNoted place key held verdict.holds x y → held ≡ (verdict_at old key).holds
    → Becomes key verdict old new
    → TellsAt place (λ q. (verdict_at old q).holds) (λ q. (verdict_at new q).holds) x y
noted_becomes place key verdict held old new x y told is becomes =
    noted_at place key held verdict.holds (λ q. (verdict_at old q).holds)
    (λ q. (verdict_at new q).holds) x y told (sym is)
    (λ q. ap (λ (v : Verdict). v.holds) (becomes q)
    ∙ by_cases (same_key key q) verdict (verdict_at old q))

-- ---- flips of filters from a place on
pub from_none : (place : ℕ) (filters : List Watched) (x : Flipped) → x.lost ≡ false
    → TellsFrom place (holding filters) (holding filters) x x
from_none place filters x known = record {
  more = [];
  known = known;
  added = sym (append-nil x.flips);
  said = λ filter key. refl;
  below = λ filter key under. refl;
}

-- the first filter's behind the others'
pub from_first : (place : ℕ) (first made : Watched) (rest done : List Watched) (x y z : Flipped)
    → TellsFrom (place + 1) (holding rest) (holding done) x y
    → TellsAt place (λ key. (verdict_at first.kept key).holds)
    (λ key. (verdict_at made.kept key).holds) y z
    → TellsFrom place (holding (first ∷ rest)) (holding (made ∷ done)) x z
from_first place first made rest done x y z others one = record {
  more = others.more ++ one.more;
  known = others.known;
  added = added_then x y z others.more one.more others.added one.added;
  said = each;
  below = λ filter key under. said_append others.more one.more filter key
      ∙ both_none (last_said others.more filter key) (last_said one.more filter key)
      (others.below filter key (omega arith)) (one.others filter key (λ is. apart filter under is));
}
  where
    apart : (filter : ℕ) → filter < place → filter ≢ place
    apart filter under is = absurd (omega arith)

    here : (key : List ℕ) → said others.more place key (verdict_at first.kept key).holds
        ≡ (verdict_at first.kept key).holds
    here key = ap (λ o. unwrap_or o (verdict_at first.kept key).holds)
        (others.below place key (omega arith))

    there : (p : ℕ) (key : List ℕ) (before : Bool)
        → said one.more (place + suc p) key before ≡ before
    there p key before = ap (λ o. unwrap_or o before)
        (one.others (place + suc p) key (λ is. absurd (omega arith)))

    each : (filter : ℕ) (key : List ℕ) → holding (made ∷ done) filter key
        ≡ said (others.more ++ one.more) (place + filter) key (holding (first ∷ rest) filter key)
    each zero key =
        let same : place + zero ≡ place = omega arith in
        one.said key
        ∙ ap (said one.more place key) (sym (here key))
        ∙ sym (said_then others.more one.more place key (verdict_at first.kept key).holds)
        ∙ ap (λ n. said (others.more ++ one.more) n key (verdict_at first.kept key).holds)
        (sym same)
    each (suc p) key =
        let same : place + 1 + p ≡ place + suc p = omega arith in
        others.said p key
        ∙ ap (λ n. said others.more n key (holding rest p key)) same
        ∙ sym (there p key (said others.more (place + suc p) key (holding rest p key)))
        ∙ sym (said_then others.more one.more (place + suc p) key (holding rest p key))

-- those from the first place on are all
pub from_all : (old new : List Watched) (x y : Flipped)
    → TellsFrom 0 (holding old) (holding new) x y → Tells (holding old) (holding new) x y
from_all old new x y told = record {
  more = told.more;
  known = told.known;
  added = told.added;
  said = λ filter key. told.said filter key
      ∙ ap (λ n. said told.more n key (holding old filter key)) (from_zero filter);
}
  where
    from_zero : (n : ℕ) → 0 + n ≡ n
    from_zero n = omega arith
