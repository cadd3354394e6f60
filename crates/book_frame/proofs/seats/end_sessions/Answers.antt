use Rattle.std.proofs.Common.{rules, not, ◌==◌}
use Rattle.std.proofs.lemmas.Map.Made.{filter_same_pairs}
use Rattle.book_frame.proofs.seats.end_sessions.Goals as goal

pub returns : goal.returns
returns c = filter_same_pairs _ (λ session. not (session.1 == c.args.seat)) _
    (λ k v b w f' t. search rules) _ _ c.retain.ensures.filtered
