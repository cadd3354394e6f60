use Rattle.std.proofs.Common.{◌∙◌, refl, ap, [], ◌∷◌, ◌++◌}
use Rattle.agg_types.specs.declared.event.What.TheVariants.{Open}
use Rattle.session_core.specs.declared.stage.Stage.{Stage}
use Rattle.session_core.specs.Piece.{with_stage}
use Rattle.session_core.specs.Run.{settled}
use Rattle.session_core.proofs.PieceLemmas.{opened_is}
use Rattle.peers_msg.specs.Spelling.{message_spelling}
use Rattle.peers_msg.specs.declared.message.Message.TheVariants as messages
use Rattle.session_core.proofs.stage.open.Goals as goal

pub converse-requires : goal.converse-requires
unfolding settled
converse-requires c = rw c.new-2.ensures refl

pub returns-clause-opened : goal.returns-clause-opened
returns-clause-opened c =
    ap (λ (stage : Stage). with_stage c.in_ok-batch.field-0 stage) c.end_stage.ensures
    ∙ c.in_ok-batch.ensures.ok ∙ opened_is c.args.tables.now c.args.peer c.args.rest.now _ _ _ _
    (c.in_ok-push.ensures.ok ∙ ap (λ xs. xs ++ Open c.args.peer ∷ [])
    c.new-facts.ensures) (c.in_ok-write_message.ensures.ok
    ∙ ap (λ xs. xs ++ message_spelling messages.Request) (c.in_ok-replies.ensures.items
    ∙ c.status_text.ensures)) c.new.ensures c.new-2.ensures
