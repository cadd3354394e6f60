-- A seat's own events, as its posts add to them.
use Rattle.std.proofs.Common.{◌≡◌, ℕ, ◌+◌, ◌==◌, Bool, true, List, [], ◌∷◌, ◌++◌, length, Option}
use Rattle.std.proofs.Common.{None, Some, IfSome, refl, sym, ap, subst, ◌∙◌, cond, arith}
use Rattle.std.proofs.Common.{append-nil, length-append}
use Rattle.std.proofs.lemmas.Bool.Decides.{nat_tests}
use Rattle.std.proofs.lemmas.List.Elements.{filter-append}
use mathlib.Core.List.{IsPrefix}
use Rattle.agg_types.specs.declared.event.Event.{Event}
use Rattle.agg_types.specs.declared.event.What.{What}
use Rattle.agg_types.specs.declared.event.What.TheVariants.{Sit, Leave}
use Rattle.book.proofs.Updates.{length-numbered}
use Rattle.fleet_model.specs.Seats.{numbered}
use Rattle.hub.proofs.Posting.{batch_follows, learned_later}
use Rattle.hub.proofs.Showing.{later_on}
use Rattle.hub.specs.Views.{Learns}
use Rattle.hub.specs.History.{Beginning, longer_by, own}
use Rattle.hub.specs.declared.faults.PostFault.{PostFault}
use Rattle.hub.specs.declared.faults.PostFault.TheVariants.{Replaced, NotNext, NoMemory, Pending}
use Rattle.hub.specs.declared.faults.PostFault.TheVariants.{Spent}
use Rattle.hub.specs.Posts.{Appends, Follows, PostRefused, PostsAfter, Seated, ShowsBatch, advanced}
use Rattle.worker_frame.specs.declared.poster.Poster.{Poster}
use Rattle.worker_frame.specs.Told.{HasTold, IsLeft, IsWaiting, Tells, stored_of}

same_seat : (seat : ℕ) → (seat == seat) ≡ true
same_seat seat = grind (arith, nat_tests)

own_cons : (seat : ℕ) (e : Event) (events : List Event) (b : Bool) → (e.seat == seat) ≡ b → b ≡ true
    → own seat (e ∷ events) ≡ e ∷ own seat events
own_cons seat e events b is true_is = ap (λ b. cond b (e ∷ own seat events) (own seat events))
    (is ∙ true_is)

-- what is made at a seat is its own
pub own-made : (seat n : ℕ) (whats : List What) → own seat (numbered seat n whats)
    ≡ numbered seat n whats
own-made seat n [] = refl
own-made seat n (what ∷ whats) =
    let e : Event = record { seat = seat; seq = n; what = what } in
    own_cons seat e (numbered seat (n + 1) whats) (seat == seat) refl (same_seat seat)
    ∙ ap (λ es. e ∷ es) (own-made seat (n + 1) whats)

pub made-append : (seat n : ℕ) (some more : List What) → numbered seat n (some ++ more)
    ≡ numbered seat n some ++ numbered seat (n + length some) more
made-append seat n [] more = ap (λ k. numbered seat k more) (omega arith)
made-append seat n (what ∷ some) more =
    let e : Event = record { seat = seat; seq = n; what = what } in
    ap (λ es. e ∷ es) (made-append seat (n + 1) some more
    ∙ ap (λ k. numbered seat (n + 1) some ++ numbered seat k more) (omega arith))

-- what a seat told, and how many events more stand in a list that shows a batch, before the batch
pub before_batch : (seat : ℕ) (whats : List What) (seen before : Beginning) (waiting : ℕ)
    → Tells seat whats seen → IsPrefix seen.events before.events → length (own seat before.events)
    ≡ 1 + length whats + waiting
    → (more : List Event) × (length more ≡ waiting)
    × (own seat before.events ≡ numbered seat 0 (Sit ∷ whats) ++ more)
before_batch seat whats seen before waiting tells prefix count =
    let more : List Event = own seat prefix.0 in
    let split : own seat before.events ≡ numbered seat 0 (Sit ∷ whats) ++ more =
    ap (own seat) (sym prefix.1) ∙ (filter-append (λ (e : Event). e.seat == seat)
    seen.events prefix.0
    ∙ ap (λ es. es ++ more) tells) in
    let lengths = ap length split in (
      more,
      omega (
        arith,
        length-append (numbered seat 0 (Sit ∷ whats)) more,
        length-numbered seat 0 (Sit ∷ whats),
      ),
      split,
    )

-- the events of a list that shows a batch
pub own-batch : (seat n : ℕ) (before shown : Beginning) (batch : List What)
    → shown ≡ longer_by before (numbered seat n batch)
    → own seat shown.events ≡ own seat before.events ++ numbered seat n batch
own-batch seat n before shown batch is =
    ap (λ (b : Beginning). own seat b.events) is
    ∙ (filter-append (λ (e : Event). e.seat == seat) before.events (numbered seat n batch)
    ∙ ap (λ es. own seat before.events ++ es) (own-made seat n batch))

nothing : (more : List Event) → length more ≡ 0 → more ≡ []
nothing [] is = refl
nothing (e ∷ more) is = absurd (omega arith)

-- a list that shows a batch of a pass with nothing waiting tells the batch more
pub tells_batch : (p : Seated) (whats batch : List What) (shown : Beginning)
    → Tells p.seat whats p.seen → p.number ≡ 1 + length whats
    → ShowsBatch p batch shown → Tells p.seat (whats ++ batch) shown
tells_batch p whats batch shown tells number shows =
    let b = before_batch p.seat whats p.seen shows.before 0 tells shows.seen.events (shows.owns
    ∙ omega arith) in
    let none : b.0 ≡ [] = nothing b.0 b.1 in
    let before : own p.seat shows.before.events ≡ numbered p.seat 0 (Sit ∷ whats) =
    b.2 ∙ (ap (λ es. numbered p.seat 0 (Sit ∷ whats) ++ es) none
    ∙ append-nil (numbered p.seat 0 (Sit ∷ whats))) in
    own-batch p.seat p.number shows.before shown batch shows.posted
    ∙ (ap (λ es. es ++ numbered p.seat p.number batch) before
    ∙ (ap (λ k. numbered p.seat 0 (Sit ∷ whats) ++ numbered p.seat k batch) (number ∙ omega arith)
    ∙ sym (made-append p.seat 0 (Sit ∷ whats) batch)))

-- a list that shows the leave of a pass
pub left_with : (p : Seated) (whats : List What) (waiting : ℕ) (shown : Beginning)
    → Tells p.seat whats p.seen → p.number ≡ 1 + length whats + waiting
    → ShowsBatch p (Leave ∷ []) shown → IsLeft p.seat whats waiting shown
left_with p whats waiting shown tells number shows =
    let b = before_batch p.seat whats p.seen shows.before waiting tells shows.seen.events
    (shows.owns ∙ number) in
    record {
      more = b.0;
      count = b.1;
      events = own-batch p.seat p.number shows.before shown (Leave ∷ []) shows.posted
          ∙ (ap (λ es. es ++ numbered p.seat p.number (Leave ∷ [])) b.2
          ∙ ap (λ k. numbered p.seat 0 (Sit ∷ whats) ++ b.0
          ++ numbered p.seat k (Leave ∷ [])) number);
    }

-- what a leave shows, if it shows something
pub left_shown : (p : Seated) (whats : List What) (waiting : ℕ) (shown : Option Beginning)
    → Tells p.seat whats p.seen → p.number ≡ 1 + length whats + waiting
    → IfSome shown (ShowsBatch p (Leave ∷ [])) → IfSome shown (IsLeft p.seat whats waiting)
left_shown p whats waiting None tells number shows = tt
left_shown p whats waiting (Some shown) tells number shows =
    left_with p whats waiting shown tells number shows

abbrev pub poster_of : Seated → Option Beginning → Poster
poster_of pass last = record { pass = pass; last = last }

-- a list that shows a batch of a pass of a hub is of its history
pub shown_follows : (hub : Beginning) (p : Seated) (shown : Beginning) (batch : List What)
    → Follows hub p.seen → ShowsBatch p batch shown → Follows hub shown
shown_follows hub p shown batch seen shows =
    later_on hub p.seen shown seen (batch_follows p batch shown shows)

-- the same of a leave, if it shows something
pub left_follows : (hub : Beginning) (p : Seated) (shown : Option Beginning)
    → Follows hub p.seen
    → IfSome shown (ShowsBatch p (Leave ∷ [])) → IfSome shown (Follows hub)
left_follows hub p None seen shows = tt
left_follows hub p (Some shown) seen shows = shown_follows hub p shown (Leave ∷ []) seen shows

-- a poster after a post
pub posted : (hub : Beginning) (p q : Seated) (last : Option Beginning) (whats batch : List What)
    (shown : Beginning) → HasTold hub (poster_of p last) whats 0
    → PostsAfter p q batch shown → HasTold hub (poster_of q (Some shown)) (whats ++ batch) 0
posted hub p q last whats batch shown told after =
    let tells : Tells p.seat (whats ++ batch) shown =
    tells_batch p whats batch shown told.tells (told.number ∙ omega arith) after.0 in
    let made_of : Poster = poster_of (record {
      seat = p.seat;
      number = p.number + length batch;
      seen =
          shown;
    }) (Some shown) in
    let number : p.number + length batch ≡ 1 + length (whats ++ batch) + 0 = let n = told.number in
    omega (arith, length-append whats batch) in
    let done : HasTold hub made_of (whats ++ batch) 0 = record {
      seen = shown_follows hub p shown batch told.seen after.0;
      number = number;
      tells = tells;
      last = tells;
      shown = shown_follows hub p shown batch told.seen after.0;
    } in
    subst (λ (r : Seated). HasTold hub (poster_of r (Some shown)) (whats ++ batch) 0)
    (sym after.1) done

same_told : (hub : Beginning) (p q : Seated) (last : Option Beginning) (whats : List What)
    → HasTold hub (poster_of p last) whats 0 → q ≡ p
    → HasTold hub (poster_of q last) whats 0
same_told hub p q last whats told same =
    subst (λ (r : Seated). HasTold hub (poster_of r last) whats 0) (sym same) told

-- a poster after a refused post
pub refused : (hub : Beginning) (p q : Seated) (last : Option Beginning) (whats batch : List What)
    (fault : PostFault) → HasTold hub (poster_of p last) whats 0
    → PostRefused p q batch fault → HasTold hub (poster_of q last) whats
    (stored_of fault (length batch))
refused hub p q last whats batch (Replaced by shown) told why =
    same_told hub p q last whats told why.0
refused hub p q last whats batch (NotNext found shown) told why =
    same_told hub p q last whats told why.0
refused hub p q last whats batch (NoMemory back) told why = same_told hub p q last whats told why.0
refused hub p q last whats batch Pending told why =
    let done : HasTold hub (poster_of (advanced p (length batch)) last) whats (length batch) =
    record {
      seen = told.seen;
      number = let n = told.number in omega arith;
      tells = told.tells;
      last = told.last;
      shown = told.shown;
    } in
    subst (λ (r : Seated). HasTold hub (poster_of r last) whats (length batch)) (sym why) done
refused hub p q last whats batch Spent told why = same_told hub p q last whats told why.0

-- a poster after a refused append, whose batch came back
pub refused_back : (hub : Beginning) (p q : Seated) (last : Option Beginning)
    (whats batch back : List What) (fault : PostFault) → HasTold hub (poster_of p last) whats 0
    → q ≡ p → back ≡ batch → PostRefused q q back fault
    → HasTold hub (poster_of q last) whats (stored_of fault (length batch))
refused_back hub p q last whats batch back fault told same is why =
    subst (λ (b : List What). HasTold hub (poster_of q last) whats (stored_of fault (length b))) is
    (refused hub q q last whats back fault (same_told hub p q last whats told same) why)

-- a poster after an append
pub appended : (hub : Beginning) (p q : Seated) (last : Option Beginning) (whats batch : List What)
    (ticket : Beginning) → HasTold hub (poster_of p last) whats 0 → Appends p q batch ticket
    → IsWaiting hub (poster_of q last) whats batch ticket
appended hub p q last whats batch ticket told after =
    let tells : Tells p.seat (whats ++ batch) ticket =
    tells_batch p whats batch ticket told.tells (told.number ∙ omega arith) after.0 in record {
      told = refused hub p q last whats batch Pending told after.1;
      tells = subst (λ (r : Seated). Tells r.seat (whats ++ batch) ticket) (sym after.1) tells;
      shown = shown_follows hub p ticket batch told.seen after.0;
      behind = subst (λ (r : Seated). Follows r.seen ticket) (sym after.1)
          (batch_follows p batch ticket after.0);
    }

-- a poster that took up the receipt for what it appended
pub taken_up : (hub : Beginning) (p q : Seated) (last : Option Beginning) (whats batch : List What)
    (receipt : Beginning) → q ≡ record p { seen = q.seen } → Learns p.seen receipt q.seen
    → IsWaiting hub (poster_of p last) whats batch receipt
    → HasTold hub (poster_of q (Some receipt)) (whats ++ batch) 0
taken_up hub p q last whats batch receipt same learns waits =
    let seen : q.seen ≡ receipt = learned_later p.seen receipt q.seen waits.behind learns in
    let made_of : Poster = poster_of (record p { seen = receipt }) (Some receipt) in
    let number : p.number ≡ 1 + length (whats ++ batch) + 0 = let n = waits.told.number in
    omega (arith, length-append whats batch) in
    let done : HasTold hub made_of (whats ++ batch) 0 = record {
      seen = waits.shown;
      number = number;
      tells = waits.tells;
      last = waits.tells;
      shown = waits.shown;
    } in
    subst (λ (r : Seated). HasTold hub (poster_of r (Some receipt)) (whats ++ batch) 0)
    (sym (same ∙ ap (λ (b : Beginning). record p { seen = b }) seen)) done
