use Rattle.std.proofs.Common.{subst}
use Rattle.peers_msg.specs.DecoderState.{DecoderState, IsKept}
use Rattle.peers_msg.proofs.Streams.{feed_stays, goes_on_stream, stands_for_stream}
use Rattle.peers_msg.proofs.feed.Feed.feed.Goals as goal

pub returns-clause-so_far : goal.returns-clause-so_far
returns-clause-so_far c = goes_on_stream c.take_piece-handed_out.result c.args.self.now
    c.args.piece.now c.take_piece-handed_out.ensures.answer

pub returns-clause-stands : goal.returns-clause-stands
returns-clause-stands c = stands_for_stream c.take_piece-handed_out.result c.args.self.now
    c.take_piece-handed_out.new.self c.args.piece.now c.take_piece-handed_out.ensures.after

pub returns-clause-for_good : goal.returns-clause-for_good
returns-clause-for_good c =
    λ cause is.
    let kept : IsKept c.args.self.now.rest c.args.self.now.fault =
    subst (λ (kept : DecoderState). IsKept kept.rest kept.fault) c.self.view_is c.self.invariant in
    feed_stays c.args.self.now c.take_piece-handed_out.new.self c.args.piece.now
    c.take_piece-handed_out.result cause kept is
    (c.take_piece-handed_out.ensures.faulty cause is) c.take_piece-handed_out.ensures.after
