use Rattle.agg_types.proofs.Packing.{put-says}
use Rattle.agg_types.proofs.entry.Entry.put.Goals as goal

pub returns-clause-says : goal.returns-clause-says
returns-clause-says c = λ before cells begins counts.
    put-says before cells c.args.count c.args.table c.args.peer c.args.start c.life_word.result
    c.args.key c.args.life counts begins c.life_word.ensures
