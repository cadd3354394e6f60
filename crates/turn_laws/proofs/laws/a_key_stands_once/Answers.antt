use Rattle.std.proofs.Common.{◌∙◌, ap, sym, ℕ, List}
use Rattle.std.specs.Prelude.{slice_get}
use Rattle.peers_msg.specs.declared.message.Message.{Message}
use Rattle.pushed_keys.specs.Turns.{changes}
use Rattle.telling.specs.Telling.{table_at, turn_at}
use Rattle.turn_laws.proofs.Once.{update_once}
use Rattle.turn_laws.proofs.Places.{updates_there}
use Rattle.turn_laws.proofs.Sides.{order_changed}
use Rattle.turn_laws.proofs.Tables.{standing, standing_order}
use Rattle.turn_laws.proofs.laws.a_key_stands_once.Goals as goal

pub returns : goal.returns
returns c = λ pushed sets now told place table key i j is s k a b.
    let at = λ (n : ℕ). ap (λ (us : List Message). slice_get us n)
    (sym (updates_there pushed sets now told place table is)) in
    update_once table (table_at told place).last
    (changes table (turn_at now told) (standing pushed sets now told place)) i j a.0 b.0 key a.1
    b.1 (order_changed table (turn_at now told) (standing pushed sets now told place)
    (standing_order pushed sets now told place s k)) (at i ∙ a.2) (at j ∙ b.2)
