use Rattle.book_frame.proofs.Listings.{same_keys}
use Rattle.book_frame.proofs.keys.are_same.Goals as goal

pub returns : goal.returns
returns c = same_keys c.args.keys.now c.args.others.now _ c.eq.ensures
