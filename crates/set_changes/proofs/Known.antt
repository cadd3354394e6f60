-- What is known of the changes of all filters.
use Rattle.std.proofs.Common.{◌≡◌, ◌≢◌, ℕ, suc, ◌+◌, ◌≤◌, ◌<◌, Bool, true, false, List, []}
use Rattle.std.proofs.Common.{◌∷◌, ◌++◌}
use Rattle.std.proofs.Common.{length, Option, None, Some, refl, sym, ap, ◌∙◌, subst, arith}
use Rattle.std.proofs.Common.{append-nil, append_assoc, if◌then◌else◌, ◌&&◌, ◌==◌, ◌⊎◌, inl, inr}
use Rattle.std.proofs.lemmas.Bool.Decides.{nat_tests}
use Rattle.std.proofs.lemmas.List.{get_or-set_other, get_or-set_same, length-append}
use Rattle.std.proofs.Math.ListN.{set}
use Rattle.std.specs.Prelude.{slice_index_or}
use Rattle.agg_types.specs.declared.event.Event.{Event}
use Rattle.standing_filters.specs.Flips.{last_said, later_of}
use Rattle.standing_filters.specs.Turns.{same_key}
use Rattle.standing_filters.specs.declared.flips.Flip.{Flip}
use Rattle.set_changes.specs.Noting.{AreKept, IsNoted, Takes}
use Rattle.set_changes.specs.Numbered.{AreChangesOf, FlipsSay, Logged, Numbered, Says, Sets, log_at}
use Rattle.set_changes.specs.Numbered.{said_of, since}
use Rattle.set_changes.specs.declared.change.Change.{Change}
use Rattle.set_changes.proofs.Kept.{kept_at, since_none}

-- ---- what is said last

later_none : (said : Option Bool) → later_of None said ≡ said
later_none None = refl
later_none (Some b) = refl

later_assoc : (first second third : Option Bool)
    → later_of (later_of first second) third ≡ later_of first (later_of second third)
later_assoc first second None = refl
later_assoc first second (Some b) = refl

last_said-append : (some others : List Flip) (place : ℕ) (key : List ℕ)
    → last_said (some ++ others) place key
    ≡ later_of (last_said some place key) (last_said others place key)
last_said-append [] others place key = sym (later_none (last_said others place key))
last_said-append (flip ∷ some) others place key =
    let first = (if flip.filter == place && same_key flip.key key then Some flip.is_in else None) in
    ap (later_of first) (last_said-append some others place key)
    ∙ sym (later_assoc first (last_said some place key) (last_said others place key))

said_of-append : (some others : List Change) (key : List ℕ)
    → said_of (some ++ others) key ≡ later_of (said_of some key) (said_of others key)
said_of-append [] others key = sym (later_none (said_of others key))
said_of-append (change ∷ some) others key =
    let first = (if same_key change.key key then Some change.is_in else None) in
    ap (later_of first) (said_of-append some others key)
    ∙ sym (later_assoc first (said_of some key) (said_of others key))

-- ---- what is said on the way

pub parts : {E : Type 0} (a b c d : List E) → a ++ b ≡ c ++ d → length c ≤ length a
    → (m : List E) × (a ≡ c ++ m) × (d ≡ m ++ b)
parts a b [] d e le = (a, refl, sym e)
parts [] b (x ∷ c) d e le = absurd (omega arith)
parts (y ∷ a) b (x ∷ c) d e le =
    let r = parts a b c d (cc e) (omega arith) in (r.0, cc (e, r.1), r.2)

module _ (sets : Sets) (place : ℕ) where
  -- nothing is said, and nothing came
  pub says_end : (saying : List ℕ → Option Bool) (early late : List Event)
      → ((key : List ℕ) → saying key ≡ None) → late ≡ [] → Says sets place saying early late
  says_end saying early late none gone = record {
    stay = λ some others e. ap sets.filters (same some others (sym gone ∙ e));
    said = λ key v h. absurd (cc (none key, h));
    unsaid = λ key h some others e. ap (λ events. sets.held events place key)
        (same some others (sym gone ∙ e));
  }
    where
      same : (some others : List Event) → [] ≡ some ++ others → early ++ some ≡ early
      same [] others e = append-nil early
      same (x ∷ some) others e = absurd (cc e)

  -- the same in other words
  pub says_as : (saying other : List ℕ → Option Bool) (early late : List Event)
      → ((key : List ℕ) → other key ≡ saying key) → Says sets place saying early late
      → Says sets place other early late
  says_as saying other early late same says = record {
    stay = says.stay;
    said = λ key v h. says.said key v (sym (same key) ∙ h);
    unsaid = λ key h some others e. says.unsaid key (sym (same key) ∙ h) some others e;
  }

  -- one of two lists begins the other
  by_parts : (R : Type 0) (middle late some others : List Event) → middle ++ late ≡ some ++ others
      → ((more : List Event) → middle ≡ some ++ more → R)
      → ((more : List Event) → some ≡ middle ++ more → late ≡ more ++ others → R) → R
  by_parts R middle late some others e short long = cases (which (length some) (length middle))
    where
      which : (a b : ℕ) → (a ≤ b) ⊎ (b ≤ a)
      which a b = grind arith

      cases : (length some ≤ length middle) ⊎ (length middle ≤ length some) → R
      cases (inl le) = let p = parts middle late some others e le in short p.0 p.1
      cases (inr le) = let p = parts some others middle late (sym e) le in long p.0 p.1 p.2

  pub says_then : (first second : List ℕ → Option Bool) (early middle late : List Event)
      → Says sets place first early middle → Says sets place second (early ++ middle) late
      → Says sets place (λ key. later_of (first key) (second key)) early (middle ++ late)
  says_then first second early middle late one two = record {
    stay = λ some others e. by_parts
        (sets.filters (early ++ some) ≡ sets.filters early) middle late some others e
        (λ more m. one.stay some more m)
        (λ more s l. ap (λ es. sets.filters (early ++ es)) s
        ∙ (ap sets.filters (sym (append_assoc early middle more))
        ∙ (two.stay more others l ∙ one.stay middle [] (sym (append-nil middle)))));
    said = λ key v h. said key v (second key) refl h;
    unsaid = λ key h some others e. unsaid key (second key) refl h some others e;
  }
    where
      moved : (key : List ℕ) (more : List Event) → sets.held (early ++ (middle ++ more)) place key
          ≡ sets.held ((early ++ middle) ++ more) place key
      moved key more =
          ap (λ events. sets.held events place key) (sym (append_assoc early middle more))

      said : (key : List ℕ) (v : Bool) (found : Option Bool) → second key ≡ found
          → later_of (first key) (second key) ≡ Some v
          → sets.held (early ++ (middle ++ late)) place key ≡ v
      said key v None is h =
          moved key late
          ∙ (two.unsaid key is late [] (sym (append-nil late))
          ∙ one.said key v (ap (later_of (first key)) (sym is) ∙ h))
      said key v (Some w) is h =
          moved key late ∙ two.said key v (is ∙ (ap (later_of (first key)) (sym is) ∙ h))

      unsaid : (key : List ℕ) (found : Option Bool) → second key ≡ found
          → later_of (first key) (second key) ≡ None → (some others : List Event)
          → middle ++ late ≡ some ++ others
          → sets.held (early ++ some) place key ≡ sets.held early place key
      unsaid key (Some w) is h some others e =
          absurd (cc (ap (later_of (first key)) (sym is) ∙ h))
      unsaid key None is h some others e =
          let none : first key ≡ None = ap (later_of (first key)) (sym is) ∙ h in
          by_parts (sets.held (early ++ some) place key ≡ sets.held early place key) middle late
          some others e (λ more m. one.unsaid key none some more m)
          (λ more s l. ap (λ es. sets.held (early ++ es) place key) s
          ∙ (moved key more
          ∙ (two.unsaid key is more others l
          ∙ one.unsaid key none middle [] (sym (append-nil middle)))))

  -- from a later list on
  pub says_from : (saying : List ℕ → Option Bool) (early middle late : List Event)
      → Says sets place saying early (middle ++ late)
      → Says sets place saying (early ++ middle) late
  says_from saying early middle late says = record {
    stay = λ some others e. ap sets.filters (append_assoc early middle some)
        ∙ (says.stay (middle ++ some) others (longer some others e)
        ∙ sym (says.stay middle late refl));
    said = λ key v h. ap (λ events. sets.held events place key) (append_assoc early middle late)
        ∙ says.said key v h;
    unsaid = λ key h some others e.
        ap (λ events. sets.held events place key) (append_assoc early middle some)
        ∙ (says.unsaid key h (middle ++ some) others (longer some others e)
        ∙ sym (says.unsaid key h middle late refl));
  }
    where
      longer : (some others : List Event) → late ≡ some ++ others
          → middle ++ late ≡ (middle ++ some) ++ others
      longer some others e =
          ap (λ l. middle ++ l) e ∙ sym (append_assoc middle some others)

-- ---- all filters

pub takes_none : (numbered : Numbered) → Takes [] numbered numbered
takes_none numbered = record {
  count = refl;
  up = λ place. omega arith;
  behind = λ place n key from below. refl;
}

pub takes_then : (some others : List Flip) (a b c : Numbered) → Takes some a b → Takes others b c
    → Takes (some ++ others) a c
takes_then some others a b c one two = record {
  count = two.count ∙ one.count;
  up = λ place. (let x = one.up place in let y = two.up place in omega arith);
  behind = λ place n key from below.
      (let y = two.up place in
      let low : n < b.count = (let s = one.count in omega arith) in
      let le : (log_at b place).from ≤ n = omega arith in
      two.behind place n key from low
      ∙ (ap (λ x. later_of x (last_said others place key)) (one.behind place n key le below)
      ∙ (later_assoc (said_of (since n (log_at a place).changes) key) (last_said some place key)
      (last_said others place key)
      ∙ ap (later_of (said_of (since n (log_at a place).changes) key))
      (sym (last_said-append some others place key)))));
}

-- nothing is kept from now on
pub takes_anew : (flips : List Flip) (old new : Numbered) → AreKept old → new.count ≡ old.count
    → new.start ≡ old.count → new.logs ≡ [] → Takes flips old new
takes_anew flips old new kept count start none =
    let from : (place : ℕ) → (log_at new place).from ≡ old.count =
    (λ place. ap (λ (logs : List Logged).
    (slice_index_or logs place (record { from = new.start; changes = [] })).from) none ∙ start) in
    record {
      count = count;
      up = λ place. (let k = (kept_at old place kept).from in let f = from place in omega arith);
      behind = λ place n key le below. absurd (let f = from place in omega arith);
    }

-- a change is noted in the log of its filter
pub takes_one : (flip : Flip) (old mid new : Numbered) (log : Logged) → mid.count ≡ old.count
    → ((place : ℕ) → log_at mid place ≡ log_at old place) → flip.filter < length mid.logs
    → new ≡ record mid { logs = set mid.logs flip.filter log }
    → IsNoted (record { number = mid.count; key = flip.key; is_in = flip.is_in })
    (log_at mid flip.filter) log → Takes (flip ∷ []) old new
takes_one flip old mid new log count same within is noted = record {
  count = ap (λ (n : Numbered). n.count) is ∙ count;
  up = λ place. up place (flip.filter == place) refl;
  behind = λ place n key from below. behind place n key (flip.filter == place) refl from below;
}
  where
    change : Change
    change = record { number = mid.count; key = flip.key; is_in = flip.is_in }

    here : (place : ℕ) → (flip.filter == place) ≡ true → log_at new place ≡ log
    here place eq =
        let e : place ≡ flip.filter = grind (arith, nat_tests) in
        ap (λ (n : Numbered). log_at n place) is
        ∙ (ap (λ p. log_at (record mid { logs = set mid.logs flip.filter log }) p) e
        ∙ get_or-set_same mid.logs flip.filter log (record { from = mid.start; changes = [] })
        within)

    old_here : (place : ℕ) → (flip.filter == place) ≡ true
        → log_at mid flip.filter ≡ log_at old place
    old_here place eq =
        let e : flip.filter ≡ place = grind (arith, nat_tests) in
        ap (log_at mid) e ∙ same place

    there : (place : ℕ) → (flip.filter == place) ≡ false → log_at new place ≡ log_at old place
    there place eq =
        let other : place ≢ flip.filter = (λ e. grind (arith, nat_tests, e)) in
        ap (λ (n : Numbered). log_at n place) is
        ∙ (get_or-set_other mid.logs flip.filter place log
        (record { from = mid.start; changes = [] }) other ∙ same place)

    up : (place : ℕ) (b : Bool) → (flip.filter == place) ≡ b
        → (log_at old place).from ≤ (log_at new place).from
    up place true eq =
        let h : (log_at new place).from ≡ log.from = ap (λ (l : Logged). l.from) (here place eq) in
        let o : (log_at mid flip.filter).from ≡ (log_at old place).from =
        ap (λ (l : Logged). l.from) (old_here place eq) in
        let u = noted.up in
        omega arith
    up place false eq =
        let h : (log_at new place).from ≡ (log_at old place).from =
        ap (λ (l : Logged). l.from) (there place eq) in
        omega arith

    behind : (place n : ℕ) (key : List ℕ) (b : Bool) → (flip.filter == place) ≡ b
        → (log_at new place).from ≤ n → n < old.count
        → said_of (since n (log_at new place).changes) key
        ≡ later_of (said_of (since n (log_at old place).changes) key)
        (last_said (flip ∷ []) place key)
    behind place n key true eq from below =
        let h : (log_at new place).from ≡ log.from = ap (λ (l : Logged). l.from) (here place eq) in
        let low : log.from ≤ n = omega arith in
        let later : n < mid.count = omega (arith, count) in
        ap (λ (l : Logged). said_of (since n l.changes) key) (here place eq)
        ∙ (ap (λ cs. said_of cs key) (noted.behind n low later)
        ∙ (said_of-append (since n (log_at mid flip.filter).changes) (change ∷ []) key
        ∙ (ap (λ (l : Logged). later_of (said_of (since n l.changes) key)
        (said_of (change ∷ []) key)) (old_here place eq)
        ∙ ap (λ b. later_of (said_of (since n (log_at old place).changes) key)
        (if b && same_key flip.key key then Some flip.is_in else None)) (sym eq))))
    behind place n key false eq from below =
        ap (λ (l : Logged). said_of (since n l.changes) key) (there place eq)
        ∙ ap (λ b. later_of (said_of (since n (log_at old place).changes) key)
        (if b && same_key flip.key key then Some flip.is_in else None)) (sym eq)

-- ---- what the contracts promise

pub known_none : (sets : Sets)
    → AreChangesOf (record { count = 0; start = 0; logs = [] }) sets []
known_none sets = record {
  count = refl;
  known = λ place early late e from. says_end sets place
      (λ key. said_of (since (length early) []) key) early late (λ key. refl)
      (nothing early late e);
}
  where
    nothing : (early late : List Event) → [] ≡ early ++ late → late ≡ []
    nothing [] late e = sym e
    nothing (x ∷ early) late e = absurd (cc e)

no_more : (late : List Event) → length late ≡ 0 → late ≡ []
no_more [] l = refl
no_more (x ∷ late) l = absurd (omega arith)

known_anew : (numbered : Numbered) (sets : Sets) (events : List Event)
    → numbered.count ≡ length events → numbered.start ≡ length events → numbered.logs ≡ []
    → AreChangesOf numbered sets events
known_anew numbered sets events count start none = record {
  count = count;
  known = λ place early late e from. says_end sets place
      (λ key. said_of (since (length early) (log_at numbered place).changes) key) early late
      (λ key. ap (λ (logs : List Logged). said_of (since (length early) (slice_index_or logs place
      (record { from = numbered.start; changes = [] })).changes) key) none)
      (nothing place early late e from);
}
  where
    nothing : (place : ℕ) (early late : List Event) → events ≡ early ++ late
        → (log_at numbered place).from ≤ length early → late ≡ []
    nothing place early late e from =
        let f : (log_at numbered place).from ≡ numbered.start =
        ap (λ (logs : List Logged). (slice_index_or logs place
        (record { from = numbered.start; changes = [] })).from) none in
        let l : length events ≡ length early + length late =
        ap length e ∙ length-append early late in
        no_more late (omega arith)

pub noted_anew : (old bumped new : Numbered) (events : ℕ)
    (sets : Sets) (early late : List Event)
    → bumped.count ≡ old.count + events → new.count ≡ bumped.count → new.start ≡ bumped.count
    → new.logs ≡ [] → AreChangesOf old sets early → length late ≡ events
    → AreChangesOf new sets (early ++ late)
noted_anew old bumped new events sets early late grown count start none known len =
    let l : length (early ++ late) ≡ length early + length late = length-append early late in
    let c = known.count in
    known_anew new sets (early ++ late) (omega arith) (omega arith) none

pub noted_all : (old bumped new : Numbered) (events : ℕ) (flips : List Flip)
    (sets : Sets) (early late : List Event)
    → AreKept old → AreKept new → bumped ≡ record old { count = old.count + events }
    → Takes flips bumped new → AreChangesOf old sets early → length late ≡ events
    → FlipsSay sets flips early late → AreChangesOf new sets (early ++ late)
noted_all old bumped new events flips sets early late kept kept_new bumped_is takes known len say =
    record {
      count = (let b = count_is in let t = takes.count in let l = total in omega arith);
      known = known_at;
    }
  where
    count_is : bumped.count ≡ length early + length late
    count_is =
        let b : bumped.count ≡ old.count + events = ap (λ (n : Numbered). n.count) bumped_is in
        let c = known.count in
        omega (arith, len)

    total : length (early ++ late) ≡ length early + length late
    total = length-append early late

    same_at : (place : ℕ) → log_at bumped place ≡ log_at old place
    same_at place = ap (λ (n : Numbered). log_at n place) bumped_is

    -- what is said since a number
    saying : (place n : ℕ) (key : List ℕ) → (log_at new place).from ≤ n
        → n < length early + length late
        → said_of (since n (log_at new place).changes) key
        ≡ later_of (said_of (since n (log_at old place).changes) key) (last_said flips place key)
    saying place n key from below =
        let b = count_is in
        takes.behind place n key from (omega arith)
        ∙ ap (λ (l : Logged). later_of (said_of (since n l.changes) key)
        (last_said flips place key)) (same_at place)

    up : (place : ℕ) → (log_at old place).from ≤ (log_at new place).from
    up place =
        let s : (log_at bumped place).from ≡ (log_at old place).from =
        ap (λ (l : Logged). l.from) (same_at place) in
        let u = takes.up place in
        omega arith

    inside : (place : ℕ) (e l m : List Event) → early ≡ e ++ m → l ≡ m ++ late
        → (log_at new place).from ≤ length e → length e < length early + length late
        → Says sets place (λ key. said_of (since (length e) (log_at new place).changes) key) e l
    inside place e l m split l_is from below =
        let first : List ℕ → Option Bool =
        (λ key. said_of (since (length e) (log_at old place).changes) key) in
        let u = up place in
        let one = known.known place e m split (omega arith) in
        let flipped : List ℕ → Option Bool = (λ key. last_said flips place key) in
        let two = subst (λ (x : List Event). Says sets place flipped x late)
        split (say place) in
        subst (λ (x : List Event). Says sets place
        (λ key. said_of (since (length e) (log_at new place).changes) key) e x) (sym l_is)
        (says_as sets place (λ key. later_of (first key) (last_said flips place key))
        (λ key. said_of (since (length e) (log_at new place).changes) key) e (m ++ late)
        (λ key. saying place (length e) key from below)
        (says_then sets place first (λ key. last_said flips place key) e m late one two))

    beyond : (place : ℕ) (e l m : List Event) → e ≡ early ++ m → late ≡ m ++ l
        → (log_at new place).from ≤ length e → length early ≤ length e
        → length e < length early + length late
        → Says sets place (λ key. said_of (since (length e) (log_at new place).changes) key) e l
    beyond place e l m e_is late_is from le below =
        let k = kept_at old place kept in
        let c = known.count in
        let none : (key : List ℕ)
        → said_of (since (length e) (log_at old place).changes) key ≡ None =
        (λ key. ap (λ cs. said_of cs key)
        (since_none (length e) old.count (log_at old place).changes k.recent (omega arith))) in
        let flipped : List ℕ → Option Bool = (λ key. last_said flips place key) in
        let two = subst (λ (x : List Event). Says sets place flipped early x)
        late_is (say place) in
        says_as sets place (λ key. last_said flips place key)
        (λ key. said_of (since (length e) (log_at new place).changes) key) e l
        (λ key. saying place (length e) key from below
        ∙ (ap (λ x. later_of x (last_said flips place key)) (none key)
        ∙ later_none (last_said flips place key)))
        (subst (λ (x : List Event). Says sets place flipped x l) (sym e_is)
        (says_from sets place (λ key. last_said flips place key) early m l two))

    at_end : (place : ℕ) (e l : List Event) → length l ≡ 0 → length early + length late ≤ length e
        → Says sets place (λ key. said_of (since (length e) (log_at new place).changes) key) e l
    at_end place e l gone le =
        let k = kept_at new place kept_new in
        let b = count_is in
        let t = takes.count in
        says_end sets place
        (λ key. said_of (since (length e) (log_at new place).changes) key) e l
        (λ key. ap (λ cs. said_of cs key)
        (since_none (length e) new.count (log_at new place).changes k.recent (omega arith)))
        (no_more l gone)

    total_order : (a b : ℕ) → (a ≤ b) ⊎ (b ≤ a)
    total_order a b = grind arith

    known_at : (place : ℕ) (e l : List Event) → early ++ late ≡ e ++ l
        → (log_at new place).from ≤ length e
        → Says sets place (λ key. said_of (since (length e) (log_at new place).changes) key) e l
    known_at place e l same from =
        let t : length early + length late ≡ length e + length l =
        sym total ∙ (ap length same ∙ length-append e l) in
        by_end (total_order (length early + length late) (length e)) t
      where
        by_early : (length e ≤ length early) ⊎ (length early ≤ length e)
            → length e < length early + length late
            → Says sets place
            (λ key. said_of (since (length e) (log_at new place).changes) key) e l
        by_early (inl le) below =
            let p = parts early late e l same le in
            inside place e l p.0 p.1 p.2 from below
        by_early (inr le) below =
            let p = parts e l early late (sym same) le in
            beyond place e l p.0 p.1 p.2 from le below

        by_list : (left : List Event) → l ≡ left
            → length early + length late ≡ length e + length l
            → Says sets place
            (λ key. said_of (since (length e) (log_at new place).changes) key) e l
        by_list [] is t =
            let z : length l ≡ 0 = ap length is in at_end place e l z (omega arith)
        by_list (x ∷ left) is t =
            let z : length l ≡ suc (length left) = ap length is in
            by_early (total_order (length e) (length early)) (omega arith)

        by_end : (length early + length late ≤ length e)
            ⊎ (length e ≤ length early + length late)
            → length early + length late ≡ length e + length l
            → Says sets place
            (λ key. said_of (since (length e) (log_at new place).changes) key) e l
        by_end (inl le) t = at_end place e l (omega arith) le
        by_end (inr le) t = by_list l refl t

-- what is told since an earlier list, where its log knows it
pub told : (numbered : Numbered) (sets : Sets) (place number : ℕ)
    (early late : List Event) (changes : List Change) (log : Logged)
    → AreChangesOf numbered sets (early ++ late) → length early ≡ number
    → log_at numbered place ≡ log → log.from ≤ number → changes ≡ since number log.changes
    → Says sets place (λ key. said_of changes key) early late
told numbered sets place number early late changes log known len log_is from is =
    let f : (log_at numbered place).from ≡ log.from = ap (λ (l : Logged). l.from) log_is in
    says_as sets place (λ key. said_of (since (length early) (log_at numbered place).changes) key)
    (λ key. said_of changes key) early late
    (λ key. ap (λ cs. said_of cs key)
    (is ∙ (ap (λ (l : Logged). since number l.changes) (sym log_is)
    ∙ ap (λ n. since n (log_at numbered place).changes) (sym len))))
    (known.known place early late refl (omega (arith, len)))
