use Rattle.std.proofs.Common.{◌≡◌, ◌∙◌, ap, sym}
use Rattle.peers_msg.specs.Message.{Short, frame_at, Reading}
use Rattle.peers_msg.specs.DecoderState.{DecoderState}
use Rattle.peers_msg.specs.Feed.{fed, decoder_of}
use Rattle.peers_msg.proofs.Streams.{short_read, short_kept}
use Rattle.peers_msg.proofs.feed.Feed.read.Goals as goal

pub invariant_of-self-in-Short : goal.invariant_of-self-in-Short
invariant_of-self-in-Short c =
    let kept = c.extend_from_slice.new.self.items in
    let short : frame_at kept ≡ Short = ap frame_at (sym c.as_slice.ensures)
    ∙ c.in-Short.ensures.exact in
    short_kept c.self.inside.fault kept c.in_default.is short

pub returns-in-Short-clause-reading : goal.returns-in-Short-clause-reading
returns-in-Short-clause-reading c =
    let kept = c.extend_from_slice.new.self.items in
    let short : frame_at kept ≡ Short = ap frame_at (sym c.as_slice.ensures)
    ∙ c.in-Short.ensures.exact in
    let old : DecoderState =
    record { rest = c.self.inside.kept.items; fault = c.self.inside.fault } in
    let same : c.args.self.now ≡ old = sym c.self.view_is in
    let read = ap (λ (state : DecoderState). fed state c.args.piece.now) same
    ∙ short_read old c.args.piece.now kept c.in_default.is
    c.in_ok-extend_from_slice.ensures.ok short in (
      read,
      ap (λ fault. let state : DecoderState = record { rest = kept; fault = fault } in state)
          c.in_default.is ∙ ap (λ (reading : Reading). decoder_of reading) (sym read),
    )
