use Rattle.session_core.specs.Piece.{piece_of}
use Rattle.session_core.specs.Talk.{stage_of}
use Rattle.session_core.proofs.PieceTalk.{piece_gives}
use Rattle.session_core.proofs.TalkAnswerLemmas.{ended_stays}
use Rattle.session_core.proofs.laws.longer_talk.Goals as goal

pub returns-clause-facts : goal.returns-clause-facts
returns-clause-facts c =
    λ setup seated bytes more. (
      (piece_of setup seated (stage_of setup seated bytes)
          more).batch.facts,
      (piece_gives setup seated bytes more).grows.facts,
    )

pub returns-clause-replies : goal.returns-clause-replies
returns-clause-replies c =
    λ setup seated bytes more. (
      (piece_of setup seated (stage_of setup seated bytes)
          more).batch.replies,
      (piece_gives setup seated bytes more).grows.replies,
    )

pub returns-clause-ended : goal.returns-clause-ended
returns-clause-ended c = λ setup seated bytes more end is. ended_stays setup seated
    bytes more end is
