-- Which Puts come too late, told by what is counted.
use Rattle.std.proofs.Common.{◌≡◌, ℕ, suc, ◌+◌, ◌<◌, ◌≤◌, ◌==◌, ◌&&◌, Bool, true, false, cond, not}
use Rattle.std.proofs.Common.{nat_lt, List, [], ◌∷◌, ◌++◌, length, get_or, take, drop, Option, None}
use Rattle.std.proofs.Common.{Some, refl, sym, ap, ◌∙◌, subst, arith, length-append}
use Rattle.std.proofs.lemmas.Bool.Decides.{nat_tests}
use Rattle.std.proofs.lemmas.List.Folds.{list_any-append}
use Rattle.std.proofs.Math.Seq.{get_or-append_seam, split_at, take-append_seam}
use Rattle.std.specs.Prelude.{◌||◌, MatchOption}
use Rattle.std.specs.Bool.{then_some}
use Rattle.std.specs.List.{list_any}
use Rattle.std.specs.Option.{option_or}
use Rattle.agg_types.specs.declared.event.Event.{Event}
use Rattle.agg_types.specs.declared.event.What.{What}
use Rattle.agg_types.specs.declared.event.What.TheVariants.{Leave}
use Rattle.fleet_model.specs.Laws.{opens_at}
use Rattle.fleet_model.specs.Rows.{putter}
use Rattle.fleet_model.specs.Seats.{is_number, numbered}
use Rattle.fleet_model.specs.Sessions.{last_opener, opens}
use mathlib.Core.List.{IsPrefix}
use Rattle.hub.specs.History.{Beginning, own}
use Rattle.hub.specs.Posts.{FindsReplaced, IsReplacedPut, NoneReplaced, Seated, is_put, is_replaced}
use Rattle.hub.specs.Roll.{Counted, IsCountOf}
use Rattle.hub.specs.Sitting.{Recalled, Recalls, other_than, replacer, replacer_at}
use Rattle.hub.proofs.Recalling.{recalls_all}
use Rattle.hub.proofs.Rolling.{last_opener-append}

-- ---- what a seat made itself

last_opener-made : (peer seat number : ℕ) (whats : List What)
    → last_opener peer (numbered seat number whats) ≡ then_some (list_any (opens peer) whats) seat
last_opener-made peer seat number [] = refl
last_opener-made peer seat number (what ∷ whats) =
    ap (λ o. option_or o (then_some (opens peer what) seat))
    (last_opener-made peer seat (number + 1) whats)
    ∙ either (list_any (opens peer) whats) (opens peer what)
  where
    either : (a b : Bool) → option_or (then_some a seat) (then_some b seat)
        ≡ then_some (b || a) seat
    either true true = refl
    either true false = refl
    either false true = refl
    either false false = refl

opens-made : (peer seat number : ℕ) (whats : List What)
    → list_any (opens_at seat peer) (numbered seat number whats) ≡ list_any (opens peer) whats
opens-made peer seat number [] = refl
opens-made peer seat number (what ∷ whats) =
    let this : (seat == seat) ≡ true = grind (arith, nat_tests) in
    ap (λ s. (s && opens peer what)
    || list_any (opens_at seat peer) (numbered seat (number + 1) whats))
    this
    ∙ ap (λ a. opens peer what || a) (opens-made peer seat (number + 1) whats)

-- a seat that opened a peer itself was replaced by nobody; else its own posts make no difference
behind : (seat by : ℕ) (a : Bool) (last : Option ℕ) (again : Bool)
    → ((a || again) && is_number (option_or (then_some again seat) last) by) && not (by == seat)
    ≡ not again && ((a && is_number last by) && not (by == seat))
behind seat by true last true = grind (arith, nat_tests)
behind seat by false last true = grind (arith, nat_tests)
behind seat by true last false = refl
behind seat by false last false = refl

replaced-made : (seat by number peer : ℕ) (before : List Event) (whats : List What)
    → is_replaced seat by (before ++ numbered seat number whats) peer
    ≡ not (list_any (opens peer) whats) && is_replaced seat by before peer
replaced-made seat by number peer before whats =
    let again = list_any (opens peer) whats in
    let openings : list_any (opens_at seat peer) (before ++ numbered seat number whats)
    ≡ (list_any (opens_at seat peer) before || again)
    = list_any-append (opens_at seat peer) before (numbered seat number whats)
    ∙ ap (λ a. list_any (opens_at seat peer) before || a) (opens-made peer seat number whats) in
    let lasts : last_opener peer (before ++ numbered seat number whats)
    ≡ option_or (then_some again seat) (last_opener peer before)
    = last_opener-append peer before (numbered seat number whats)
    ∙ ap (λ o. option_or o (last_opener peer before))
    (last_opener-made peer seat number whats) in
    ap (λ a. (a && is_number (last_opener peer (before ++ numbered seat number whats)) by)
    && not (by == seat)) openings
    ∙ (ap (λ o. ((list_any (opens_at seat peer) before || again) && is_number o by)
    && not (by == seat)) lasts
    ∙ behind seat by (list_any (opens_at seat peer) before) (last_opener peer before) again)

-- ---- one Put

abbrev found_by : ℕ → Bool → Option ℕ → Option ℕ
found_by seat a last = cond a (other_than seat last) None

some_found : (seat by : ℕ) (a : Bool) (last : Option ℕ) → found_by seat a last ≡ Some by
    → (a && is_number last by) && not (by == seat) ≡ true
some_found seat by false last is = absurd (cc is)
some_found seat by true None is = absurd (cc is)
some_found seat by true (Some m) is = by_test (m == seat) refl is
  where
    by_test : (b : Bool) → (m == seat) ≡ b → cond b None (Some m) ≡ Some by
        → (m == by) && not (by == seat) ≡ true
    by_test true same is = absurd (cc is)
    by_test false apart is = let eq : m ≡ by = cc is in grind (arith, nat_tests)

none_found : (seat by : ℕ) (a : Bool) (last : Option ℕ) → found_by seat a last ≡ None
    → (a && is_number last by) && not (by == seat) ≡ false
none_found seat by false last is = refl
none_found seat by true None is = refl
none_found seat by true (Some m) is = by_test (m == seat) refl is
  where
    by_test : (b : Bool) → (m == seat) ≡ b → cond b None (Some m) ≡ None
        → (m == by) && not (by == seat) ≡ false
    by_test true same is = grind (arith, nat_tests)
    by_test false apart is = absurd (cc is)

-- what is kept of a seat and counted tells whether its Put comes too late
abbrev pub Tells : Seated → List Event → List What → What → Option ℕ → Type 0
Tells p before first what found = MatchOption found ((by : ℕ) → IsReplacedPut p before first what by
    → ⊥) (IsReplacedPut p before first what)

found_tells : (p : Seated) (before : List Event) (first : List What) (what : What)
    → is_put what ≡ true → list_any (opens (putter what)) first ≡ false
    → (o : Option ℕ) → found_by p.seat (list_any (opens_at p.seat (putter what)) before)
    (last_opener (putter what) before) ≡ o → Tells p before first what o
found_tells p before first what puts new None is =
    λ by h. absurd (cc (
      h.replaced,
      replaced-made p.seat by p.number (putter what) before first,
      ap not new,
      none_found p.seat by _ _ is,
    ))
found_tells p before first what puts new (Some by) is = record {
  puts = puts;
  replaced = replaced-made p.seat by p.number (putter what) before first
      ∙ (ap (λ again. not again && is_replaced p.seat by before (putter what)) new
      ∙ some_found p.seat by _ _ is);
}

tells_by : (p : Seated) (before : List Event) (first : List What) (what : What) (o : Option ℕ)
    → found_by p.seat (list_any (opens_at p.seat (putter what)) before)
    (last_opener (putter what) before) ≡ o
    → (puts again : Bool) → is_put what ≡ puts → list_any (opens (putter what)) first ≡ again
    → Tells p before first what (cond (puts && not again) o None)
tells_by p before first what o is false again not_put new = λ by h. absurd (cc (not_put, h.puts))
tells_by p before first what o is true true puts new =
    λ by h. absurd (cc (
      h.replaced,
      replaced-made p.seat by p.number (putter what) before first
          ∙ ap (λ again. not again && is_replaced p.seat by before (putter what)) new,
    ))
tells_by p before first what o is true false puts new =
    found_tells p before first what puts new o is

pub replacer_tells : (r : Recalled) (counted : Counted) (p : Seated) (b : Beginning)
    → p.seat ≡ r.seat → Recalls r b → IsCountOf counted b → (first : List What) (what : What)
    → Tells p b.events first what (replacer_at r counted first what)
replacer_tells r counted p b same h is first what =
    let peer = putter what in
    let eq : found_by p.seat (list_any (opens_at p.seat peer) b.events) (last_opener peer b.events)
    ≡ replacer r counted peer
    = ap (λ s. found_by s (list_any (opens_at s peer) b.events) (last_opener peer b.events)) same
    ∙ (ap (λ a. found_by r.seat a (last_opener peer b.events)) (sym (h.opened peer))
    ∙ ap (found_by r.seat (get_or r.opened peer false)) (sym (is.last peer))) in
    tells_by p b.events first what (replacer r counted peer) eq (is_put what)
    (list_any (opens peer) first) refl refl

-- the same of a seat whose own events all stand in an earlier list
pub told_at : (r : Recalled) (counted : Counted) (p : Seated) (stored b : Beginning)
    → p.seat ≡ r.seat → p.number ≡ r.number → Recalls r stored → b.config ≡ stored.config
    → IsPrefix stored.events b.events
    → length (own p.seat b.events) ≡ p.number → IsCountOf counted b
    → (first : List What) (what : What) (found : Option ℕ)
    → found ≡ replacer_at r counted first what → Tells p b.events first what found
told_at r counted p stored b seat number h config prefix owns is first what found found_is =
    let all : length (own r.seat b.events) ≡ r.number = ap (λ s. length (own s b.events)) (sym seat)
    ∙ (owns ∙ number) in
    subst (Tells p b.events first what) (sym found_is)
    (replacer_tells r counted p b seat (recalls_all r stored b h config prefix all)
    is first what)

-- ---- a batch

-- none of the first i posts of a batch is one
abbrev pub NoneYet : Seated → List Event → List What → ℕ → Type 0
NoneYet p before whats i = (first later : List What) (put : What) (by : ℕ)
    → whats ≡ first ++ put ∷ later → length first < i → IsReplacedPut p before first put by → ⊥

pub none_more : (p : Seated) (before : List Event) (whats : List What) (i : ℕ) (what : What)
    → NoneYet p before whats i → what ≡ get_or whats i what
    → Tells p before (take i whats) what None → NoneYet p before whats (i + 1)
none_more p before whats i what old at tells first later put by split below h =
    by_test (nat_lt (length first) i) refl
  where
    by_test : (b : Bool) → nat_lt (length first) i ≡ b → ⊥
    by_test true less = old first later put by split (grind (arith, nat_tests)) h
    by_test false more =
        let here : length first ≡ i = grind (arith, nat_tests) in
        let first_is : take i whats ≡ first = ap (take i) split
        ∙ (ap (λ n. take n (first ++ put ∷ later)) (sym here)
        ∙ take-append_seam first (put ∷ later)) in
        let put_is : what ≡ put = at ∙ (ap (λ ws. get_or ws i what) split
        ∙ (ap (λ n. get_or (first ++ put ∷ later) n what) (sym here)
        ∙ get_or-append_seam first put later what)) in
        tells by (subst (λ w. IsReplacedPut p before (take i whats) w by) (sym put_is)
        (subst (λ ws. IsReplacedPut p before ws put by) (sym first_is) h))

pub none_all : (p : Seated) (before : List Event) (whats : List What) (i : ℕ) → length whats ≤ i
    → NoneYet p before whats i → NoneReplaced p before whats
none_all p before whats i all none by found =
    let len : length whats ≡ length found.first + suc (length found.later) = ap length found.split
    ∙ length-append found.first (found.put ∷ found.later) in
    none found.first found.later found.put by found.split (omega (arith, all, len)) found.at

pub found_at : (p : Seated) (before : List Event) (whats : List What) (i : ℕ) (what : What) (by : ℕ)
    → i < length whats → what ≡ get_or whats i what → Tells p before (take i whats) what (Some by)
    → FindsReplaced p before whats by
found_at p before whats i what by below at tells = record {
  first = take i whats;
  put = what;
  later = drop (suc i) whats;
  split = split_at whats i what below ∙ ap (λ w. take i whats ++ w ∷ drop (suc i) whats) (sym at);
  at = tells;
}

-- leaving puts nothing
pub none_leaves : (p : Seated) (before : List Event) → NoneReplaced p before (Leave ∷ [])
none_leaves p before by found = no found.first found.put found.later found.split found.at.puts
  where
    no : (first : List What) (put : What) (later : List What) → Leave ∷ [] ≡ first ++ put ∷ later
        → is_put put ≡ true → ⊥
    no [] put later split puts = let same : Leave ≡ put = cc split in absurd (cc (same, puts))
    no (what ∷ []) put later split puts = absurd (cc split)
    no (what ∷ other ∷ first) put later split puts = absurd (cc split)
