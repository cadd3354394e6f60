-- What is kept of each connection after one more step.
use Rattle.std.proofs.Common.{◌≡◌, ℕ, ◌+◌, Bool, true, false, List, ◌∷◌, Some, None, if◌then◌else◌}
use Rattle.std.proofs.Common.{nat_le, refl, ap}
use Rattle.std.specs.Bool.{then_some}
use Rattle.agg_types.specs.declared.config.Config.{Config}
use Rattle.agg_types.specs.declared.event.Event.{Event}
use Rattle.fleet_core.specs.declared.step.Step.{Step}
use Rattle.fleet_core.specs.Events.{count_of, talk_of}
use Rattle.fleet_core.specs.Links.{Link, is_open, link_of, open_link}
use Rattle.fleet_core.specs.Steps.{connects, is_connect, is_lost, names, stream}
use Rattle.fleet_core.proofs.Counts.{lost_other, stream_other}

-- a connection with as many events at its seat, the same stream and the same loss is kept as before
pub link_same : (config : Config) (events events' : List Event) (past past' : List Step) (conn : ℕ)
    → count_of conn events' ≡ count_of conn events → stream past' conn ≡ stream past conn
    → is_lost past' conn ≡ is_lost past conn → nat_le conn (connects past')
    ≡ nat_le conn (connects past) → link_of config events' past' conn
    ≡ link_of config events past conn
unfolding link_of is_open open_link talk_of
link_same config events events' past past' conn counts streams losses came =
    rw (counts, streams, losses, came) refl

-- a connection that a step doesn't name, and at whose seat it makes nothing happen, is kept as
-- before
pub link_kept : (config : Config) (events events' : List Event) (past : List Step) (step : Step)
    (conn : ℕ) → is_connect step ≡ false → names conn step ≡ false
    → count_of conn events' ≡ count_of conn events → link_of config events' (step ∷ past) conn
    ≡ link_of config events past conn
link_kept config events events' past step conn quiet other counts =
    link_same config events events' past (step ∷ past) conn counts
    (stream_other step past conn other) (lost_other step past conn other)
    (ap (λ b. nat_le conn (if b then connects past + 1 else connects past)) quiet)

-- number 0 is no connection's
pub no_link : (config : Config) (events : List Event) (past : List Step)
    → link_of config events past 0 ≡ None
unfolding link_of is_open
no_link config events past = refl

-- what is found of an open connection is what its steps say
pub is_kept : (config : Config) (events : List Event) (past : List Step) (conn : ℕ) (link : Link)
    → Some link ≡ link_of config events past conn → (is_open config events past conn ≡ true)
    × (link ≡ open_link config events past conn)
unfolding link_of
is_kept config events past conn link is =
    by (is_open config events past conn) (open_link config events past conn) is
  where
    by : (b : Bool) (kept : Link) → Some link ≡ then_some b kept → (b ≡ true) × (link ≡ kept)
    by true kept e = (refl, cc)
    by false kept e = cc

pub is_closed : (config : Config) (events : List Event) (past : List Step) (conn : ℕ)
    → None ≡ link_of config events past conn → is_open config events past conn ≡ false
unfolding link_of
is_closed config events past conn is =
    by (is_open config events past conn) (open_link config events past conn) is
  where
    by : (b : Bool) (kept : Link) → None ≡ then_some b kept → b ≡ false
    by true kept e = cc
    by false kept e = refl
