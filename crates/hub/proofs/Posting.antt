-- What a post tells, once it is shown or refused.
use Rattle.std.proofs.Common.{◌≡◌, ◌≢◌, ◌⊎◌, ℕ, List, Option, Some, None}
use Rattle.std.proofs.Common.{IfSome, ap, inl, inr, length, refl, sym, ◌∙◌, subst}
use Rattle.fleet_model.specs.Seats.{numbered}
use Rattle.hub.proofs.Publishes.{same_beginning}
use Rattle.hub.proofs.Showing.{later_on}
use Rattle.hub.specs.History.{Beginning, longer_by, own}
use Rattle.hub.specs.Posts.{Appends, Follows, IsNotNext, PostsAfter, Seated, ShowsBatch}
use Rattle.hub.specs.Views.{Learns}
use Rattle.agg_types.specs.declared.event.What.{What}

-- the history has another number of a seat's events, and is shown
pub not_next : (p : Seated) (all shown : Beginning) (found number : ℕ) → number ≡ p.number
    → Follows p.seen all → length (own p.seat all.events) ≡ found → shown ≡ all
    → found ≢ number → (p ≡ p) × IsNotNext p found shown
not_next p all shown found number is follows owns same other = (
  refl,
  record {
    seen = subst (Follows p.seen) (sym same) follows;
    owns = subst (λ (b : Beginning). length (own p.seat b.events) ≡ found) (sym same) owns;
    other = λ e. other (e ∙ sym is);
  },
)

longer_is : (before told later : Beginning) → Follows before told → Follows told later
    → (later ≡ before) ⊎ (later ≡ told) → later ≡ told
longer_is before told later goes learned (inr same) = same
longer_is before told later goes learned (inl same) =
    let back : Follows told before = subst (Follows told) same learned in
    same ∙ same_beginning told before (ap (λ (b : Beginning). b.of) back.same)
    (ap (λ (b : Beginning). b.config) back.same) (ap (λ (b : Beginning). b.opening) back.same)
    back.events goes.events

-- who learns a list that goes on behind what was seen has seen that list then
pub learned_later : (before told later : Beginning) → Follows before told
    → Learns before told later → later ≡ told
learned_later before told later goes learns =
    longer_is before told later goes learns.learned learns.longer

-- the list of a batch goes on behind what its pass had seen
pub batch_follows : (p : Seated) (whats : List What) (shown : Beginning)
    → ShowsBatch p whats shown → Follows p.seen shown
batch_follows p whats shown shows =
    let made = numbered p.seat p.number whats in
    subst (λ (b : Beginning). Follows p.seen b) (sym shows.posted)
    (later_on p.seen shows.before (longer_by shows.before made) shows.seen
    (record { same = refl; events = (made, refl) }))

-- what was appended is shown, and the pass has seen it
pub posted : (p p' later : Seated) (whats : List What) (ticket receipt : Beginning)
    → Appends p p' whats ticket → receipt ≡ ticket → later ≡ record p' { seen = later.seen }
    → Learns p'.seen receipt later.seen → PostsAfter p later whats receipt
posted p p' later whats ticket receipt appends same later_is learns =
    let shows : ShowsBatch p whats receipt = subst (ShowsBatch p whats) (sym same) appends.0 in
    let goes : Follows p'.seen receipt = subst (λ (s : Seated). Follows s.seen receipt)
    (sym appends.1) (batch_follows p whats receipt shows) in
    let seen : later.seen ≡ receipt = learned_later p'.seen receipt later.seen goes learns in (
      shows,
      later_is ∙ ap (λ (b : Beginning). record p' { seen = b }) seen
          ∙ ap (λ (s : Seated). record s { seen = receipt }) appends.1,
    )

-- what holds of a ticket's list holds of its receipt
pub if_shown : (P : Beginning → Type 0) (shown : Option Beginning) (ticket : Beginning)
    → IfSome shown (λ r. r ≡ ticket) → P ticket → IfSome shown P
if_shown P None ticket same holds = tt
if_shown P (Some receipt) ticket same holds = subst P (sym same) holds
