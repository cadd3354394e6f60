use Rattle.std.proofs.Common.{◌≡◌, ℕ, Result, Ok, Err, OnErr, sym, ◌∙◌, Vec, Global}
use Rattle.std.specs.BTreeMap.{is_at}
use Rattle.std.specs.Ordering.{nat_cmp}
use Rattle.std.proofs.lemmas.Map.Steps.{set_value_same}
use Rattle.agg_types.specs.declared.no_memory.NoMemory.{NoMemory}
use Rattle.fleet_core.proofs.connections.tell.Goals as goal

pub returns-clause-err : goal.returns-clause-err
returns-clause-err c = by c.tell.result c.tell.ensures.err
  where
    by : (r : Result (Vec ℕ Global) NoMemory) → OnErr r (c.tell.new.self ≡ c.in-Some.connection.now)
        → OnErr r ((c.get_mut.follows.lender c.tell.new.self).entries
        ≡ c.args.connections.now.entries)
    by (Ok given) same = same
    by (Err e) same =
        (c.get_mut.follows.holds c.tell.new.self).0
        ∙ rw same (set_value_same (is_at (nat_cmp c.args.conn)) c.args.connections.now.entries
        c.in-Some.connection.now (sym c.in-Some.ensures.value))
