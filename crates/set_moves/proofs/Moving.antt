-- What moved, as one more change comes, and what it says of a set.
use Rattle.std.proofs.Common.{◌≡◌, ℕ, Bool, true, false, List, [], ◌∷◌, ◌++◌, Option, None, Some}
use Rattle.std.proofs.Common.{refl, sym, ap, ◌∙◌, cond, if◌then◌else◌, ◌&&◌, ◌||◌, append-nil}
use Rattle.std.specs.Prelude.{not, unwrap_or}
use Rattle.agg_types.specs.declared.event.Event.{Event}
use Rattle.place_index.proofs.Ordered.{same_if_at}
use Rattle.set_changes.specs.Numbered.{Says, Sets, said_of}
use Rattle.set_changes.specs.declared.change.Change.{Change}
use Rattle.standing_filters.specs.Flips.{later_of}
use Rattle.standing_filters.specs.Turns.{same_key}
use Rattle.set_moves.specs.Moving.{AreMoved, AreOrdered, FirstTurns, applied, earlier_of, first_of}
use Rattle.set_moves.specs.Moving.{has_entered, has_key, has_left, is_in, is_out, said_by}

-- ---- one more change

earlier_last : (said : Option Bool) → earlier_of said None ≡ said
earlier_last None = refl
earlier_last (Some b) = refl

earlier_assoc : (first second third : Option Bool)
    → earlier_of (earlier_of first second) third ≡ earlier_of first (earlier_of second third)
earlier_assoc None second third = refl
earlier_assoc (Some b) second third = refl

later_none : (said : Option Bool) → later_of None said ≡ said
later_none None = refl
later_none (Some b) = refl

later_assoc : (first second third : Option Bool)
    → later_of (later_of first second) third ≡ later_of first (later_of second third)
later_assoc first second None = refl
later_assoc first second (Some b) = refl

pub first_more : (cs : List Change) (c : Change) (q : List ℕ)
    → first_of (cs ++ c ∷ []) q ≡ earlier_of (first_of cs q) (said_by c q)
first_more [] c q = earlier_last (said_by c q)
first_more (d ∷ cs) c q = ap (earlier_of (said_by d q)) (first_more cs c q)
    ∙ sym (earlier_assoc (said_by d q) (first_of cs q) (said_by c q))

said_more : (cs : List Change) (c : Change) (q : List ℕ)
    → said_of (cs ++ c ∷ []) q ≡ later_of (said_of cs q) (said_by c q)
said_more [] c q = sym (later_none (said_by c q))
said_more (d ∷ cs) c q = ap (later_of (said_by d q)) (said_more cs c q)
    ∙ sym (later_assoc (said_by d q) (said_of cs q) (said_by c q))

in_first : (said : Option Bool) (v : Bool) → is_in (earlier_of said (Some v)) ≡ unwrap_or said v
in_first None v = refl
in_first (Some b) v = refl

out_first : (said : Option Bool) (v : Bool)
    → is_out (earlier_of said (Some v)) ≡ not (unwrap_or said v)
out_first None v = refl
out_first (Some b) v = refl

says_one : (c : Change) (q : List ℕ) → same_key c.key q ≡ true → said_by c q ≡ Some c.is_in
says_one c q same = ap (λ b. if b then Some c.is_in else None) same

says_none : (c : Change) (q : List ℕ) → same_key c.key q ≡ false → said_by c q ≡ None
says_none c q other = ap (λ b. if b then Some c.is_in else None) other

-- what the first and the last change say of a key, behind one more
firsts_here : (cs : List Change) (c : Change) (q : List ℕ) → same_key c.key q ≡ true
    → first_of (cs ++ c ∷ []) q ≡ earlier_of (first_of cs c.key) (Some c.is_in)
firsts_here cs c q same = first_more cs c q
    ∙ (ap (earlier_of (first_of cs q)) (says_one c q same)
    ∙ ap (λ k. earlier_of (first_of cs k) (Some c.is_in)) (sym (same_if_at c.key q same)))

firsts_there : (cs : List Change) (c : Change) (q : List ℕ) → same_key c.key q ≡ false
    → first_of (cs ++ c ∷ []) q ≡ first_of cs q
firsts_there cs c q other = first_more cs c q
    ∙ (ap (earlier_of (first_of cs q)) (says_none c q other) ∙ earlier_last (first_of cs q))

lasts_here : (cs : List Change) (c : Change) (q : List ℕ) → same_key c.key q ≡ true
    → said_of (cs ++ c ∷ []) q ≡ Some c.is_in
lasts_here cs c q same = said_more cs c q ∙ ap (later_of (said_of cs q)) (says_one c q same)

lasts_there : (cs : List Change) (c : Change) (q : List ℕ) → same_key c.key q ≡ false
    → said_of (cs ++ c ∷ []) q ≡ said_of cs q
lasts_there cs c q other = said_more cs c q ∙ ap (later_of (said_of cs q)) (says_none c q other)

pub entered_more : (cs : List Change) (c : Change) (q : List ℕ) (first : Bool)
    → first ≡ unwrap_or (first_of cs c.key) c.is_in
    → cond (same_key c.key q) (first && c.is_in) (has_entered cs q)
    ≡ has_entered (cs ++ c ∷ []) q
entered_more cs c q first is = by (same_key c.key q) refl
  where
    by : (b : Bool) → same_key c.key q ≡ b
        → cond b (first && c.is_in) (has_entered cs q) ≡ has_entered (cs ++ c ∷ []) q
    by true same = ap (λ f. f && c.is_in) (is ∙ sym (ap is_in (firsts_here cs c q same)
        ∙ in_first (first_of cs c.key) c.is_in))
        ∙ ap (λ l. is_in (first_of (cs ++ c ∷ []) q) && is_in l) (sym (lasts_here cs c q same))
    by false other = ap (λ f. is_in f && is_in (said_of cs q)) (sym (firsts_there cs c q other))
        ∙ ap (λ l. is_in (first_of (cs ++ c ∷ []) q) && is_in l) (sym (lasts_there cs c q other))

pub left_more : (cs : List Change) (c : Change) (q : List ℕ) (first : Bool)
    → first ≡ unwrap_or (first_of cs c.key) c.is_in
    → cond (same_key c.key q) (not first && not c.is_in) (has_left cs q)
    ≡ has_left (cs ++ c ∷ []) q
left_more cs c q first is = by (same_key c.key q) refl
  where
    by : (b : Bool) → same_key c.key q ≡ b
        → cond b (not first && not c.is_in) (has_left cs q) ≡ has_left (cs ++ c ∷ []) q
    by true same = ap (λ f. f && not c.is_in) (ap not is ∙ sym (ap is_out (firsts_here cs c q same)
        ∙ out_first (first_of cs c.key) c.is_in))
        ∙ ap (λ l. is_out (first_of (cs ++ c ∷ []) q) && is_out l) (sym (lasts_here cs c q same))
    by false other = ap (λ f. is_out f && is_out (said_of cs q)) (sym (firsts_there cs c q other))
        ∙ ap (λ l. is_out (first_of (cs ++ c ∷ []) q) && is_out l)
        (sym (lasts_there cs c q other))

-- what the first changes say, where one more is not the first of its key
pub kept_some : (f : List ℕ → Option Bool) (c : Change) (v : Bool) (key : List ℕ)
    → f c.key ≡ Some v → f key ≡ earlier_of (f key) (said_by c key)
kept_some f c v key is = by (same_key c.key key) refl
  where
    by : (b : Bool) → same_key c.key key ≡ b → f key ≡ earlier_of (f key) (said_by c key)
    by true same =
        let here : f key ≡ Some v = ap f (sym (same_if_at c.key key same)) ∙ is in
        here ∙ sym (ap (λ o. earlier_of o (said_by c key)) here)
    by false other =
        sym (ap (earlier_of (f key)) (says_none c key other) ∙ earlier_last (f key))

-- and where it is
pub kept_none : (old later : List ℕ → Option Bool) (c : Change) (key : List ℕ)
    → old c.key ≡ None → later key ≡ cond (same_key c.key key) (Some c.is_in) (old key)
    → later key ≡ earlier_of (old key) (said_by c key)
kept_none old later c key none is = by (same_key c.key key) refl
  where
    by : (b : Bool) → same_key c.key key ≡ b → later key ≡ earlier_of (old key) (said_by c key)
    by true same = is ∙ (ap (λ b. cond b (Some c.is_in) (old key)) same
        ∙ sym (ap (λ o. earlier_of o (said_by c key))
        (ap old (sym (same_if_at c.key key same)) ∙ none)
        ∙ says_one c key same))
    by false other = is ∙ (ap (λ b. cond b (Some c.is_in) (old key)) other
        ∙ sym (ap (earlier_of (old key)) (says_none c key other) ∙ earlier_last (old key)))

-- the keys that moved, as those of one more change are marked
pub moved_more : (cs : List Change) (c : Change) (first came went : Bool)
    (entered left entered_then left_then : List (List ℕ))
    → first ≡ unwrap_or (first_of cs c.key) c.is_in → came ≡ (first && c.is_in)
    → went ≡ (not first && not c.is_in) → AreMoved cs entered left
    → ((q : List ℕ) → has_key entered_then q ≡ cond (same_key c.key q) came (has_key entered q))
    → ((q : List ℕ) → has_key left_then q ≡ cond (same_key c.key q) went (has_key left q))
    → AreOrdered entered_then → AreOrdered left_then
    → AreMoved (cs ++ c ∷ []) entered_then left_then
moved_more cs c first came went entered left entered_then left_then is in_is out_is are ins outs
    in_order out_order = record {
      came = λ q. ins q ∙ (ap (λ b. cond (same_key c.key q) b (has_key entered q)) in_is
          ∙ (ap (cond (same_key c.key q) (first && c.is_in)) (are.came q)
          ∙ entered_more cs c q first is));
      went = λ q. outs q ∙ (ap (λ b. cond (same_key c.key q) b (has_key left q)) out_is
          ∙ (ap (cond (same_key c.key q) (not first && not c.is_in)) (are.went q)
          ∙ left_more cs c q first is));
      came_ordered = in_order;
      went_ordered = out_order;
    }

-- ---- what it says of a set

held_now : (sets : Sets) (place : ℕ) (early late : List Event) (cs : List Change) (key : List ℕ)
    → Says sets place (said_of cs) early late
    → sets.held (early ++ late) place key ≡ unwrap_or (said_of cs key) (sets.held early place key)
held_now sets place early late cs key says = by (said_of cs key) refl
  where
    by : (said : Option Bool) → said_of cs key ≡ said → sets.held (early ++ late) place key
        ≡ unwrap_or said (sets.held early place key)
    by None is = says.unsaid key is late [] (sym (append-nil late))
    by (Some v) is = says.said key v is

earlier_left : (a b : Option Bool) → earlier_of a b ≡ None → a ≡ None
earlier_left None b is = refl
earlier_left (Some v) b is = absurd (cc is)

earlier_right : (a b : Option Bool) → earlier_of a b ≡ None → b ≡ None
earlier_right None b is = is
earlier_right (Some v) b is = absurd (cc is)

-- where no change is the first of a key, none is the last
none_last : (cs : List Change) (key : List ℕ) → first_of cs key ≡ None → said_of cs key ≡ None
none_last [] key none = refl
none_last (d ∷ cs) key none =
    ap (later_of (said_by d key))
    (none_last cs key (earlier_right (said_by d key) (first_of cs key) none))
    ∙ earlier_left (said_by d key) (first_of cs key) none

-- what moved, by what the first and the last change say
abbrev moved_by : Option Bool → Option Bool → Bool → Bool
moved_by first last held =
    (is_in first && is_in last) || (held && not (is_out first && is_out last))

moved_right : (first last : Option Bool) (held : Bool) → (first ≡ None → last ≡ None)
    → ((said : Bool) → first ≡ Some said → held ≡ not said)
    → unwrap_or last held ≡ moved_by first last held
moved_right None None true none turns = refl
moved_right None None false none turns = refl
moved_right None (Some b) held none turns = absurd (cc (none refl))
moved_right (Some true) None true none turns = refl
moved_right (Some true) None false none turns = refl
moved_right (Some false) None true none turns = refl
moved_right (Some false) None false none turns = refl
moved_right (Some true) (Some true) held none turns = refl
moved_right (Some true) (Some false) true none turns = absurd (cc (turns true refl))
moved_right (Some true) (Some false) false none turns = refl
moved_right (Some false) (Some true) true none turns = refl
moved_right (Some false) (Some true) false none turns = absurd (cc (turns false refl))
moved_right (Some false) (Some false) true none turns = refl
moved_right (Some false) (Some false) false none turns = refl

pub gives : (sets : Sets) (place : ℕ) (early late : List Event) (cs : List Change)
    (entered left : List (List ℕ)) (key : List ℕ) → Says sets place (said_of cs) early late
    → AreMoved cs entered left → FirstTurns cs key (sets.held early place key)
    → sets.held (early ++ late) place key ≡ applied entered left key (sets.held early place key)
gives sets place early late cs entered left key says are turns =
    let held = sets.held early place key in
    held_now sets place early late cs key says
    ∙ (moved_right (first_of cs key) (said_of cs key) held (none_last cs key) turns
    ∙ (ap (λ b. b || (held && not (has_left cs key))) (sym (are.came key))
    ∙ ap (λ b. has_key entered key || (held && not b)) (sym (are.went key))))

and_right : (a b : Bool) → a && b ≡ true → b ≡ true
and_right true b both = both
and_right false b both = absurd (cc both)

pub told_in : (sets : Sets) (place : ℕ) (early late : List Event) (cs : List Change)
    (entered left : List (List ℕ)) (key : List ℕ) → Says sets place (said_of cs) early late
    → AreMoved cs entered left → has_key entered key ≡ true
    → sets.held (early ++ late) place key ≡ true
told_in sets place early late cs entered left key says are there =
    by (said_of cs key) refl (and_right (is_in (first_of cs key)) (is_in (said_of cs key))
    (sym (are.came key) ∙ there))
  where
    by : (said : Option Bool) → said_of cs key ≡ said → is_in said ≡ true
        → sets.held (early ++ late) place key ≡ true
    by None is came = absurd (cc came)
    by (Some true) is came = says.said key true is
    by (Some false) is came = absurd (cc came)

pub told_out : (sets : Sets) (place : ℕ) (early late : List Event) (cs : List Change)
    (entered left : List (List ℕ)) (key : List ℕ) → Says sets place (said_of cs) early late
    → AreMoved cs entered left → has_key left key ≡ true
    → sets.held (early ++ late) place key ≡ false
told_out sets place early late cs entered left key says are there =
    by (said_of cs key) refl (and_right (is_out (first_of cs key)) (is_out (said_of cs key))
    (sym (are.went key) ∙ there))
  where
    by : (said : Option Bool) → said_of cs key ≡ said → is_out said ≡ true
        → sets.held (early ++ late) place key ≡ false
    by None is went = absurd (cc went)
    by (Some true) is went = absurd (cc went)
    by (Some false) is went = says.said key false is
