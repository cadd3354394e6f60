-- What a connection carries.
use Rattle.std.specs.Prelude.{ℕ, List, Option}
use Rattle.std.specs.Io.KnownBytes.{Appends}

-- the bytes that a connection's source gave so far, and those that its writer took, where they tell
pub record Traffic : Type 0 where
  pub given : Option (List ℕ)
  pub taken : Option (List ℕ)

abbrev pub so_far : Option (List ℕ) → Option (List ℕ) → Traffic
so_far given taken = record { given = given; taken = taken }

-- from then to now its source gave these bytes more, and its writer took those
pub record Advances (then now : Traffic) (bytes written : List ℕ) : Type 0 where
  pub gave : Appends then.given now.given bytes
  pub took : Appends then.taken now.taken written
