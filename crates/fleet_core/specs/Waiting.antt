-- Events that wait for the book.
use Rattle.std.specs.Prelude.{◌≡◌, Bool, true, false, List, [], ◌∷◌, ◌++◌, fold}
use Rattle.agg_types.specs.declared.event.Event.{Event}
use Rattle.agg_types.specs.declared.event.What.{What}
use Rattle.agg_types.specs.declared.event.What.TheVariants.{Leave}
use Rattle.fleet_model.specs.Machine.{after}
use Rattle.fleet_model.specs.State.{State}

abbrev pub leave_if : Bool → List What
leave_if true = Leave ∷ []
leave_if false = []

-- these events are the last of those
pub record IsEndOf (last all : List Event) : Type 0 where
  pub first : List Event
  pub split : all ≡ first ++ last

-- the book took the first of the events that waited
abbrev pub IsOneHandedOver : List Event → State → List Event → State → Type 0
IsOneHandedOver [] book waiting later = (waiting ≡ []) × (later ≡ book)
IsOneHandedOver (e ∷ rest) book waiting later = (waiting ≡ rest) × (later ≡ after book e)

-- the book took some of the events that waited, in order, and the others wait
pub record AreHandedOver (waiting : List Event) (book : State) (left : List Event)
    (later : State) : Type 0 where
  pub gone : List Event
  pub split : waiting ≡ gone ++ left
  pub taken : later ≡ fold after book gone
