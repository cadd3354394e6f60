-- What a book tells of its filters' sets, event by event.
use Rattle.std.proofs.Common.{◌≡◌, ◌==◌, ◌&&◌, ◌++◌, ◌<◌, ℕ, zero, suc, Bool}
use Rattle.std.proofs.Common.{true, false, List, [], ◌∷◌, Option, None, Some, fold, get_or}
use Rattle.std.proofs.Common.{length, nat_lt}
use Rattle.std.proofs.Common.{refl, sym, ap, ◌∙◌, arith, append-nil, ⊎_elim, inl, inr}
use Rattle.std.specs.Prelude.{◌⊎◌, unwrap_or}
use Rattle.std.specs.List.{list_any}
use Rattle.std.proofs.lemmas.List.Sums.{fold-append}
use Rattle.std.proofs.lemmas.Bool.{eq-eqb, false≢true, or_parts}
use Rattle.std.proofs.lemmas.Bool.Decides.{nat_tests}
use Rattle.agg_types.specs.declared.config.Config.{Config}
use Rattle.agg_types.specs.declared.config.Filter.{Filter}
use Rattle.agg_types.specs.declared.event.Event.{Event}
use Rattle.fleet_model.specs.Answers.{filter_of, no_filter}
use Rattle.fleet_model.specs.Keys.{Rows, has_live, key_rows, meet_at}
use Rattle.fleet_model.specs.Machine.{after}
use Rattle.fleet_model.specs.State.{State}
use Rattle.fleet_model.specs.Values.{cols_of}
use Rattle.standing_filters.specs.Flips.{Flipped, TellsIfKnown, holding, last_said}
use Rattle.standing_filters.specs.Flips.{later_of}
use Rattle.standing_filters.specs.Watched.{Watched}
use Rattle.standing_filters.specs.declared.flips.Flip.{Flip}
use Rattle.standing_filters.proofs.Said.{added_then, said_append, tells_none, tells_same}
use Rattle.book.specs.Flips.{TellsAll, TellsAllIfKnown, TellsStepIfKnown, held_in}
use Rattle.book.specs.Verdicts.{ChangesTable, Stays}

-- ---- one part of the events and the next
-- no event
pub tells_all_none : (s : State) (x : Flipped) → x.lost ≡ false → TellsAll s [] x x
tells_all_none s x known = record {
  more = [];
  known = known;
  added = sym (append-nil x.flips);
  filters = λ some others is. ap (λ l. (fold after s l).config.filters) (first_none some others is);
  said = λ filter key is_in is. cc;
  unsaid = λ filter key none some others is.
      ap (λ l. held_in (fold after s l) filter key) (first_none some others is);
}
  where
    first_none : (some others : List Event) → [] ≡ some ++ others → some ≡ []
    first_none [] others is = refl
    first_none (e ∷ some) others is = cc

-- the beginning of two parts lies within the first, or is the first and a beginning of the second
record Within (es1 some : List Event) : Type 0 where
  rest : List Event
  is : es1 ≡ some ++ rest

record Beyond (es1 es2 some others : List Event) : Type 0 where
  rest : List Event
  is : some ≡ es1 ++ rest
  left : es2 ≡ rest ++ others

begins : (es1 es2 some others : List Event) → es1 ++ es2 ≡ some ++ others
    → Within es1 some ⊎ Beyond es1 es2 some others
begins [] es2 some others is = inr (record { rest = some; is = refl; left = is })
begins (e ∷ es1) es2 [] others is = inl (record { rest = e ∷ es1; is = refl })
begins (e ∷ es1) es2 (s ∷ some) others is =
    let same : e ≡ s = cc in
    let less : es1 ++ es2 ≡ some ++ others = cc in
    ⊎_elim
    (λ (w : Within es1 some). inl (record { rest = w.rest; is = λ i. same i ∷ w.is i }))
    (λ (b : Beyond es1 es2 some others). inr (record {
      rest = b.rest;
      is = λ i. sym same i ∷ b.is i;
      left = b.left;
    })) (begins es1 es2 some others less)

earlier : (a b : Option Bool) → later_of a b ≡ None → a ≡ None
earlier a None is = is
earlier a (Some v) is = cc

last : (a b : Option Bool) → later_of a b ≡ None → b ≡ None
last a None is = refl
last a (Some v) is = cc

module _ (s : State) (es1 es2 : List Event) (x y z : Flipped) (first : TellsAll s es1 x y) (second :
    TellsAll (fold after s es1) es2 y z) where
  whole : List Flip
  whole = first.more ++ second.more

  parts : (filter : ℕ) (key : List ℕ) → last_said whole filter key
      ≡ later_of (last_said first.more filter key) (last_said second.more filter key)
  unfolding whole
  parts filter key = said_append first.more second.more filter key

  at_end : (filter : ℕ) (key : List ℕ) (is_in : Bool) → last_said whole filter key ≡ Some is_in
      → held_in (fold after s (es1 ++ es2)) filter key ≡ is_in
  at_end filter key is_in is =
      ap (λ t. held_in t filter key) (fold-append after s es1 es2)
      ∙ by (last_said second.more filter key) refl (sym (parts filter key) ∙ is)
    where
      by : (o : Option Bool) → last_said second.more filter key ≡ o
          → later_of (last_said first.more filter key) o ≡ Some is_in
          → held_in (fold after (fold after s es1) es2) filter key ≡ is_in
      by None none told = second.unsaid filter key none es2 [] (sym (append-nil es2))
          ∙ first.said filter key is_in told
      by (Some v) there told = second.said filter key is_in (there ∙ told)

  on_the_way : (filter : ℕ) (key : List ℕ) → last_said whole filter key ≡ None
      → (some others : List Event) → es1 ++ es2 ≡ some ++ others
      → held_in (fold after s some) filter key ≡ held_in s filter key
  on_the_way filter key none some others is =
      let both = sym (parts filter key) ∙ none in
      let one = earlier (last_said first.more filter key) (last_said second.more filter key) both in
      let other = last (last_said first.more filter key) (last_said second.more filter key) both in
      ⊎_elim
      (λ (w : Within es1 some). first.unsaid filter key one some w.rest w.is)
      (λ (b : Beyond es1 es2 some others).
      ap (λ l. held_in (fold after s l) filter key) b.is
      ∙ ap (λ t. held_in t filter key) (fold-append after s es1 b.rest)
      ∙ second.unsaid filter key other b.rest others b.left
      ∙ first.unsaid filter key one es1 [] (sym (append-nil es1)))
      (begins es1 es2 some others is)

  filters_stand : (some others : List Event) → es1 ++ es2 ≡ some ++ others
      → (fold after s some).config.filters ≡ s.config.filters
  filters_stand some others is =
      ⊎_elim
      (λ (w : Within es1 some). first.filters some w.rest w.is)
      (λ (b : Beyond es1 es2 some others).
      ap (λ l. (fold after s l).config.filters) b.is
      ∙ ap (λ (t : State). t.config.filters) (fold-append after s es1 b.rest)
      ∙ second.filters b.rest others b.left
      ∙ first.filters es1 [] (sym (append-nil es1)))
      (begins es1 es2 some others is)

  pub tells_all_then : TellsAll s (es1 ++ es2) x z
  unfolding whole
  tells_all_then = record {
    more = first.more ++ second.more;
    known = first.known;
    added = added_then x y z first.more second.more first.added second.added;
    filters = filters_stand;
    said = at_end;
    unsaid = on_the_way;
  }

pub if_known_then : (s : State) (es1 es2 : List Event) (x y z : Flipped)
    → TellsAllIfKnown s es1 x y → TellsAllIfKnown (fold after s es1) es2 y z
    → TellsAllIfKnown s (es1 ++ es2) x z
if_known_then s es1 es2 x y z first second = λ known.
    let later = second known in
    tells_all_then s es1 es2 x y z (first later.known) later

-- ---- one event
said_is : (o : Option Bool) (before is_in : Bool) → o ≡ Some is_in
    → unwrap_or o before ≡ is_in
said_is None before is_in is = cc
said_is (Some v) before is_in is = cc

unsaid_is : (o : Option Bool) (before : Bool) → o ≡ None
    → unwrap_or o before ≡ before
unsaid_is None before is = refl
unsaid_is (Some v) before is = cc

pub tells_one : (s later : State) (e : Event) (x y : Flipped) → later ≡ after s e
    → TellsStepIfKnown s later x y → TellsAllIfKnown s (e ∷ []) x y
tells_one s later e x y turned steps = λ known.
    let step = steps known in
    let told = step.told in
    let before : (filter : ℕ) (key : List ℕ) → last_said told.more filter key ≡ None
    → held_in later filter key ≡ held_in s filter key = λ filter key none.
    told.said filter key
    ∙ unsaid_is (last_said told.more filter key) (held_in s filter key) none in
    record {
      more = told.more;
      known = told.known;
      added = told.added;
      filters = λ some others is. stand (λ (t : State). t.config.filters) step.filters some others
          is;
      said = λ filter key is_in is. ap (λ t. held_in t filter key) (sym turned)
          ∙ told.said filter key
          ∙ said_is (last_said told.more filter key) (held_in s filter key) is_in is;
      unsaid = λ filter key none some others is.
          stand (λ (t : State). held_in t filter key) (before filter key none) some others is;
    }
  where
    stand : {X : Type 0} (f : State → X) → f later ≡ f s → (some others : List Event)
        → e ∷ [] ≡ some ++ others → f (fold after s some) ≡ f s
    stand f same [] others is = refl
    stand f same (d ∷ []) others is =
        let one : d ≡ e = cc in
        ap (λ d. f (after s d)) one ∙ ap f (sym turned) ∙ same
    stand f same (d ∷ c ∷ some) others is = cc

-- ---- verdicts that are kept
pub kept_told : (s later : State) (old new : List Watched) (x y : Flipped)
    → ((filter : ℕ) (key : List ℕ) → held_in s filter key ≡ holding old filter key)
    → ((filter : ℕ) (key : List ℕ) → held_in later filter key ≡ holding new filter key)
    → later.config ≡ s.config → TellsIfKnown (holding old) (holding new) x y
    → TellsStepIfKnown s later x y
kept_told s later old new x y before after config told = λ known. record {
  filters = ap (λ (c : Config). c.filters) config;
  told = tells_same (holding old) (held_in s) (holding new) (held_in later) x y before after
      (told known);
}

-- ---- no set has changed
pub same_told : (s later : State) (x : Flipped) → later.config.filters ≡ s.config.filters
    → ((filter : ℕ) (key : List ℕ) → held_in later filter key ≡ held_in s filter key)
    → TellsStepIfKnown s later x x
same_told s later x filters same = λ known. record {
  filters = filters;
  told = tells_same (held_in s) (held_in s) (held_in s) (held_in later) x x (λ filter key. refl)
      same (tells_none (held_in s) x known);
}

pub stays_told : (s later : State) (x : Flipped) → Stays s later → TellsStepIfKnown s later x x
stays_told s later x stays = same_told s later x (ap (λ (c : Config). c.filters) stays.config)
    (λ filter key. λ i. held_in (record s {
      config = stays.config i;
      moment = stays.moment i;
      rows = stays.rows i;
    }) filter key)

-- no filter of a table is at a place
none_at : (p : Filter → Bool) (filters : List Filter) (place : ℕ) (d : Filter)
    → list_any p filters ≡ false → place < length filters → p (get_or filters place d) ≡ false
none_at p [] place d none inside = absurd (omega arith)
none_at p (f ∷ filters) zero d none inside = (or_parts (p f) (list_any p filters) none).0
none_at p (f ∷ filters) (suc place) d none inside =
    none_at p filters place d (or_parts (p f) (list_any p filters) none).1 (omega arith)

-- what a filter's key is read off
reading : State → ℕ → Rows → Bool
reading s filter rows = has_live rows s.moment
    && meet_at (cols_of s.config.tables (filter_of s filter).table) rows
    (filter_of s filter).conds s.moment

rows_apart : (s later : State) (table filter : ℕ) (key : List ℕ) → ChangesTable table s later
    → list_any (λ (f : Filter). f.table == table) later.config.filters ≡ false
    → (b : Bool) → nat_lt filter (length later.config.filters) ≡ b
    → held_in later filter key ≡ held_in (record later { rows = s.rows }) filter key
unfolding reading
rows_apart s later table filter key changes none false is =
    ap (λ b. b && reading later filter (key_rows later.rows (filter_of later filter).table key)) is
    ∙ sym (ap (λ b. b && reading later filter
    (key_rows s.rows (filter_of later filter).table key)) is)
rows_apart s later table filter key changes none true is =
    let inside : filter < length later.config.filters = grind (arith, nat_tests) in
    let apart = none_at (λ (f : Filter). f.table == table) later.config.filters filter
    no_filter none inside in
    ap (λ rows. nat_lt filter (length later.config.filters) && reading later filter rows)
    (changes.others (filter_of later filter).table key
    (λ same. false≢true (sym apart ∙ eq-eqb (filter_of later filter).table table same)))

-- where the rows of a table have changed that no filter is of
pub elsewhere_told : (s later : State) (table : ℕ) (x : Flipped) → ChangesTable table s later
    → list_any (λ (f : Filter). f.table == table) later.config.filters ≡ false
    → TellsStepIfKnown s later x x
elsewhere_told s later table x changes none = same_told s later x
    (ap (λ (c : Config). c.filters) changes.config)
    (λ filter key. rows_apart s later table filter key changes none
    (nat_lt filter (length later.config.filters)) refl
    ∙ (λ i. held_in (record s { config = changes.config i; moment = changes.moment i }) filter key))
