use Rattle.std.proofs.Common.{◌≡◌, ℕ, List, Some, Result, Ok, Err, IfOk, OnErr, sym, ap, subst, ◌∙◌}
use Rattle.std.proofs.Common.{if◌then◌else◌}
use Rattle.std.specs.BTreeMap.{is_at}
use Rattle.std.specs.Ordering.{nat_cmp}
use Rattle.std.proofs.lemmas.Map.Steps.{set_value_same}
use Rattle.agg_types.specs.declared.no_memory.NoMemory.{NoMemory}
use Rattle.fleet_model.proofs.Seats.{is_eq_back}
use Rattle.fleet_core.specs.declared.connection.Connection.{Connection}
use Rattle.fleet_core.specs.declared.connection.Outcome.{Outcome}
use Rattle.fleet_core.specs.Feeding.{Feeds, FeedsAt, IsAfter, IsSet}
use Rattle.fleet_core.specs.Links.{found}
use Rattle.fleet_core.proofs.Counts.{some_is}
use Rattle.fleet_core.proofs.connections.feed.Goals as goal

pub returns-clause-ok : goal.returns-clause-ok
returns-clause-ok c = λ before bytes is stands.
    let here : c.in-Some.connection.now ≡ before = some_is (c.in-Some.ensures.value ∙ is) in
    by before bytes c.feed.result (subst (λ (b : Connection). IsAfter b c.args.config.now bytes
    → IfOk c.feed.result (λ given. Feeds given b c.feed.new.self c.args.config.now bytes
    c.args.piece.now)) here (c.feed.ensures.ok bytes) stands)
  where
    set : IsSet c.args.connections.now.entries (c.get_mut.follows.lender c.feed.new.self).entries
        c.args.conn (Some c.feed.new.self)
    set other =
        ((c.get_mut.follows.holds c.feed.new.self).3 c.requires.open).0 other
        ∙ ap (λ b. if b then Some c.feed.new.self else found c.args.connections.now.entries other)
        (is_eq_back c.args.conn other)

    by : (before : Connection) (bytes : List ℕ) (r : Result Outcome NoMemory)
        → IfOk r (λ given. Feeds given before c.feed.new.self c.args.config.now bytes
        c.args.piece.now) → IfOk r (λ given. FeedsAt given c.args.connections.now.entries
        (c.get_mut.follows.lender c.feed.new.self).entries c.args.conn before c.args.config.now
        bytes c.args.piece.now)
    by before bytes (Ok given) feeds = record { after = c.feed.new.self; feeds = feeds; set = set }
    by before bytes (Err e) feeds = feeds

pub returns-clause-err : goal.returns-clause-err
returns-clause-err c = by c.feed.result c.feed.ensures.err
  where
    by : (r : Result Outcome NoMemory) → OnErr r (c.feed.new.self ≡ c.in-Some.connection.now)
        → OnErr r ((c.get_mut.follows.lender c.feed.new.self).entries
        ≡ c.args.connections.now.entries)
    by (Ok given) same = same
    by (Err e) same =
        (c.get_mut.follows.holds c.feed.new.self).0
        ∙ rw same (set_value_same (is_at (nat_cmp c.args.conn)) c.args.connections.now.entries
        c.in-Some.connection.now (sym c.in-Some.ensures.value))
