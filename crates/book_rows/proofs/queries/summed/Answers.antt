use Rattle.std.proofs.Common.{◌∙◌, [], ap}
use Rattle.std.specs.Prelude.{map}
use Rattle.agg_types.specs.Col.{all_cols}
use Rattle.fleet_model.specs.Answers.{tally}
use Rattle.fleet_model.specs.Keys.{key_rows, worth_of}
use Rattle.book_rows.specs.Shown.{of_peer}
use Rattle.book_rows.proofs.Reading.{summed_from, tally_same, worths_shown}
use Rattle.book_rows.proofs.queries.summed.Goals as goal

pub returns : goal.returns
returns c =
    let own = key_rows c.args.store.now.rows c.args.table c.args.key.now in
    summed_from c.in_ok-peers.peers c.in_ok-peers.left c.values.result
    (map (λ col. worth_of c.args.cols.now own col c.args.t) all_cols) c.args.t own
    c.tally.result
    (c.tally.ensures ∙ ap (λ rows. tally c.args.t (map (of_peer 0 []) rows)) c.duplicate.ensures
    ∙ tally_same c.args.t 0 c.args.table [] c.args.key.now c.in_ok-rows.rows
    ∙ ap (tally c.args.t) c.in_ok-rows.ensures.value)
    c.in_ok-peers.was
    (c.values.ensures ∙ worths_shown c.args.table c.args.key.now c.args.cols.now c.args.t
    c.in_ok-rows.rows own c.in_ok-rows.ensures.value)
