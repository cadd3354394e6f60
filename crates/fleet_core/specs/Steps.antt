-- What a list of steps brought of each connection. Lists of steps begin with the newest.
use Rattle.std.specs.Prelude.{ℕ, ◌+◌, Bool, true, false, ◌==◌, if◌then◌else◌, List, [], ◌∷◌, ◌++◌}
use Rattle.std.specs.Prelude.{Option, None, Some}
use Rattle.std.specs.List.{list_any}
use Rattle.agg_types.specs.declared.event.What.{What}
use Rattle.agg_types.specs.declared.event.What.TheVariants as whats
use Rattle.fleet_core.specs.declared.step.Step.{Step}
use Rattle.fleet_core.specs.declared.step.Step.TheVariants.{Connect, Bytes, Lost, Clear, AddFilter}
use Rattle.fleet_core.specs.declared.step.Step.TheVariants.{DropFilter, Moment, Told}

abbrev pub is_connect : Step → Bool
is_connect Connect = true
is_connect (Bytes conn piece) = false
is_connect (Lost conn) = false
is_connect (Clear table sel) = false
is_connect (AddFilter filter) = false
is_connect (DropFilter name) = false
is_connect (Moment moment) = false
is_connect (Told conn) = false

-- how many connections came; they are numbered from 1
abbrev pub connects : List Step → ℕ
connects [] = 0
connects (step ∷ past) = if is_connect step then connects past + 1 else connects past

-- what a step brings of a connection's stream
abbrev pub piece_of : ℕ → Step → List ℕ
piece_of conn Connect = []
piece_of conn (Bytes of piece) = if of == conn then piece else []
piece_of conn (Lost of) = []
piece_of conn (Clear table sel) = []
piece_of conn (AddFilter filter) = []
piece_of conn (DropFilter name) = []
piece_of conn (Moment moment) = []
piece_of conn (Told of) = []

-- the bytes of a connection's stream
unfoldable pub stream : List Step → ℕ → List ℕ
stream [] conn = []
stream (step ∷ past) conn = stream past conn ++ piece_of conn step

-- whether a step loses a connection
abbrev pub loses : ℕ → Step → Bool
loses conn Connect = false
loses conn (Bytes of piece) = false
loses conn (Lost of) = of == conn
loses conn (Clear table sel) = false
loses conn (AddFilter filter) = false
loses conn (DropFilter name) = false
loses conn (Moment moment) = false
loses conn (Told of) = false

abbrev pub is_lost : List Step → ℕ → Bool
is_lost past conn = list_any (loses conn) past

-- whether a step brings bytes of a connection, loses it or tells it something
abbrev pub names : ℕ → Step → Bool
names conn Connect = false
names conn (Bytes of piece) = of == conn
names conn (Lost of) = of == conn
names conn (Clear table sel) = false
names conn (AddFilter filter) = false
names conn (DropFilter name) = false
names conn (Moment moment) = false
names conn (Told of) = of == conn

-- what a step makes happen at seat 0: a clear, a filter that is added or dropped, or a moment
abbrev pub what_at : Step → Option What
what_at Connect = None
what_at (Bytes conn piece) = None
what_at (Lost conn) = None
what_at (Clear table sel) = Some (whats.Clear table sel)
what_at (AddFilter filter) = Some (whats.AddFilter filter)
what_at (DropFilter name) = Some (whats.DropFilter name)
what_at (Moment moment) = Some (whats.Moment moment)
what_at (Told conn) = None

-- the connection that a step names
abbrev pub conn_of : Step → ℕ
conn_of Connect = 0
conn_of (Bytes conn piece) = conn
conn_of (Lost conn) = conn
conn_of (Clear table sel) = 0
conn_of (AddFilter filter) = 0
conn_of (DropFilter name) = 0
conn_of (Moment moment) = 0
conn_of (Told conn) = conn
