use Rattle.book.proofs.Dropped.{fewer_kept}
use Rattle.book.proofs.verdicts.Verdicts.drop_place.Goals as goal

pub returns : goal.returns
returns c = λ state later name fewer added held.
    fewer_kept state later name c.args.place c.args.self.now.standing.filters
    c.drop_at.new.standing.filters fewer added held c.drop_at.ensures
