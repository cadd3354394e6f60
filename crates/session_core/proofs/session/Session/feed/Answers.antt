use Rattle.session_core.specs.Piece.{setup_of}
use Rattle.session_core.proofs.FitLemmas.{answer_fits}
use Rattle.session_core.proofs.OverLemmas.{answer_over, no_memory_over, stays_over}
use Rattle.session_core.proofs.TalkAnswerLemmas.{tells}
use Rattle.session_core.proofs.session.Session.feed.Goals as goal

pub returns-clause-talk : goal.returns-clause-talk
returns-clause-talk c =
    λ taken stands. tells (setup_of c.args.config.now) taken c.args.piece.now c.args.now _ _
    c.feed_piece.result c.feed_piece.ensures.exact stands

pub returns-clause-fits : goal.returns-clause-fits
returns-clause-fits c =
    λ taken stands.
    let told = tells (setup_of c.args.config.now) taken c.args.piece.now c.args.now c.args.self.now
    c.feed_piece.new.self c.feed_piece.result c.feed_piece.ensures.exact stands in
    answer_fits c.args.config.now c.args.self.now.seated taken c.args.piece.now c.feed_piece.result
    c.args.self.now c.feed_piece.new.self c.args.now _ told c.feed_piece.ensures.exact

pub returns-clause-ended : goal.returns-clause-ended
returns-clause-ended c =
    answer_over (setup_of c.args.config.now) c.args.self.now c.feed_piece.new.self c.args.piece.now
    c.args.now c.feed_piece.result c.feed_piece.ensures.exact

pub returns-clause-for_good : goal.returns-clause-for_good
returns-clause-for_good c =
    λ cause over. (
      no_memory_over c.args.self.now.stage cause over,
      stays_over (setup_of c.args.config.now) c.args.self.now c.feed_piece.new.self c.args.piece.now
          c.args.now c.feed_piece.result cause over c.feed_piece.ensures.exact,
      c.feed_piece.ensures.over cause over,
    )
