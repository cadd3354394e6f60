use Rattle.std.proofs.Common.{◌+◌, ◌∙◌, ◌∷◌, drop, ap, sym}
use Rattle.std.proofs.lemmas.List.{drop_all, drop_more}
use Rattle.book_rows.proofs.Reading.{cleared_more, none_more, rest_left}
use Rattle.book_machine.proofs.clears.clear_keys.Goals as goal

pub loop-key-preserved : goal.loop-key-preserved
loop-key-preserved c =
    let keys = c.args.keys.now in
    let at = c.loop-key.key-index in
    let rest = drop (at + 1) keys in
    record {
      rows = cleared_more c.args.table c.key-item.result rest (drop at keys)
          (rest_left c.args.table keys c.args.store.now) c.loop-key.store c.clear_key.new.store
          (drop_more keys at c.key-item.result c.loop-key-test.true
          ∙ ap (λ item. item ∷ rest) (sym c.key-item.is))
          c.loop-key.invariant.rows c.clear_key.ensures.rows;
      count = c.clear_key.ensures.count ∙ c.loop-key.invariant.count;
      led = λ tables led. c.clear_key.ensures.led tables (c.loop-key.invariant.led tables led);
    }

pub returns-clause-rows : goal.returns-clause-rows
returns-clause-rows c =
    let keys = c.args.keys.now in
    none_more c.args.table (drop c.loop-key.key-index keys)
    (rest_left c.args.table keys c.args.store.now) c.loop-key.store
    (drop_all c.loop-key.key-index keys c.loop-key-test.false) c.loop-key.invariant.rows
