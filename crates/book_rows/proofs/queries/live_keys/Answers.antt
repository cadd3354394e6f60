use Rattle.std.proofs.Common.{◌≡◌, ◌∙◌, ap}
use Rattle.std.specs.Prelude.{filter, map}
use Rattle.std.specs.List.{dedup}
use Rattle.std.proofs.lemmas.Result.{IfOk-weaker}
use Rattle.fleet_model.specs.Moments.{is_live}
use Rattle.fleet_model.specs.Values.{live_keys, same_key}
use Rattle.book_rows.specs.Shown.{as_arrival}
use Rattle.book_rows.proofs.Reading.{live_from, live_none, walk_none, walk_some}
use Rattle.book_rows.proofs.queries.live_keys.Goals as goal

pub returns-in-None : goal.returns-in-None
returns-in-None c = ap (map (λ key. key.now)) c.new.ensures.items
    ∙ live_none c.args.table c.args.t c.args.store.now.rows
    (walk_none c.args.store.now.rows c.args.table c.in_ok-found.found
    c.in_ok-found.ensures c.in-None.is)

pub returns-in-Some : goal.returns-in-Some
returns-in-Some c =
    IfOk-weaker c.distinct_keys.result (λ keys. map (λ key. key.now) keys.items
    ≡ dedup same_key (map (λ s. s.0.0) (filter (λ s. is_live c.args.t (as_arrival s.1))
    c.in-Some.rows))) (λ keys. map (λ key. key.now) keys.items ≡ live_keys c.args.store.now.rows
    c.args.table c.args.t)
    (λ keys is. is ∙ live_from c.args.table c.args.t c.in-Some.rows c.args.store.now.rows
    (walk_some c.args.store.now.rows c.args.table c.in_ok-found.found c.in-Some.rows
    c.in_ok-found.ensures c.in-Some.is))
    c.distinct_keys.ensures
