-- What an append does to all that lies under the lock.
use Rattle.std.specs.Prelude.{◌≡◌, ℕ, true, false, List, [], ◌∷◌}
use Rattle.std.specs.List.{All}
use Rattle.agg_types.specs.declared.event.What.{What}
use Rattle.agg_types.specs.declared.event.What.TheVariants.{Leave}
use Rattle.hub.specs.Freeing.{IsFreeing}
use Rattle.hub.specs.History.{Beginning, longer_by}
use Rattle.hub.specs.Kept.{Kept}
use Rattle.hub.specs.Posts.{Follows, IsNotNext, Seated, ShowsBatch, SitsDown}
use Rattle.logbook.specs.Pages.{Book}
use Rattle.fleet_model.specs.Seats.{numbered}

-- readers are shown what they were, and nothing was refused to them
abbrev pub ShowsSame : Kept → Kept → Type 0
ShowsSame k k' = (k'.shown ≡ k.shown) × (k'.stuck ≡ k.stuck)

-- the history has the batch more, and nothing else
abbrev pub AddsBatch : Kept → Kept → Seated → List What → Type 0
AddsBatch k k' p whats = k'.all ≡ longer_by k.all (numbered p.seat p.number whats)

-- while a showing is refused nothing is appended but what frees memory
abbrev pub MayAppend : Kept → List What → Type 0
MayAppend k whats = k.stuck ≡ true → All IsFreeing whats

-- a batch that may be is appended, and the ticket is for all
pub record IsAppended (k k' : Kept) (p : Seated) (whats : List What) (ticket : Beginning) : Type 0
  where
    pub may : MayAppend k whats
    pub adds : AddsBatch k k' p whats
    pub all : k'.all ≡ ticket

-- the seat's Leave was appended, and the ticket is for all
pub record IsLeft (k k' : Kept) (p : Seated) (ticket : Beginning) : Type 0 where
  pub adds : AddsBatch k k' p (Leave ∷ [])
  pub all : k'.all ≡ ticket
  pub shows : ShowsBatch p (Leave ∷ []) ticket

-- the pass came back, and the ticket is for a history that has another number of its events
pub record IsBehind (k k' : Kept) (p p' : Seated) (found : ℕ) (ticket : Beginning) : Type 0 where
  pub all : k'.all ≡ k.all
  pub pass : p' ≡ p
  pub not_next : IsNotNext p found ticket

-- a fleet that was just opened, with no event
pub record IsOpened (k : Kept) (b : Beginning) : Type 0 where
  pub all : k.all ≡ b
  pub shown : k.shown ≡ b
  pub runs : k.stuck ≡ false

-- a seat that sat down, and the history that ends with it
pub record SitsDownIn (k k' : Kept) (book : Book) (p : Seated) : Type 0 where
  pub sits : SitsDown p
  pub of : p.seen.of ≡ book
  pub follows : Follows k.all p.seen
  pub all : k'.all ≡ p.seen
  pub runs : k.stuck ≡ false
