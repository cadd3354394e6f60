use Rattle.std.proofs.Common.{◌≡◌, ℕ, Bool, true, false, List, ◌∙◌, ap, sym}
use Rattle.admin_worker.proofs.Commanded.{obeys_loud, obeys_silent}
use Rattle.admin_worker.proofs.Kept.{kept_silent}
use Rattle.admin_worker.specs.Commanding.{kept_of}
use Rattle.admin_worker.specs.Commands.{is_silent}
use Rattle.admin_worker.proofs.obeying.obey_part.Goals as goal

-- what is said of what is kept holds of the part
said_kept : (behind said is : Bool) (line kept : List ℕ) → kept ≡ kept_of line
    → said ≡ is_silent behind kept → said ≡ is → is_silent behind line ≡ is
said_kept behind said is line kept of says value =
    sym (kept_silent behind line) ∙ (ap (λ (l : List ℕ). is_silent behind l) (sym of)
    ∙ (sym says ∙ value))

pub returns-then-is_silent-clause-obeys : goal.returns-then-is_silent-clause-obeys
returns-then-is_silent-clause-obeys g c =
    λ since seat whats line learned kept stays.
    obeys_silent (is_silent c.args.worker.now.manner.behind line) c.args.context.now.hub.now since seat
    c.args.worker.now whats line (g.W.Write.contents c.args.writer.now)
    (said_kept c.args.worker.now.manner.behind c.is_silent.result true line
    c.args.worker.now.line.bytes.items kept c.is_silent.ensures c.if-is_silent.true) learned

pub returns-clause-obeys : goal.returns-clause-obeys
returns-clause-obeys g c =
    λ since seat whats line learned kept stays.
    obeys_loud c.args.worker.now.manner (is_silent c.args.worker.now.manner.behind line) c.args.context.now.hub.now
    since seat
    c.obey.new.worker whats line (g.W.Write.contents c.args.writer.now)
    (g.W.Write.contents c.obey.new.writer) c.obey.result
    (said_kept c.args.worker.now.manner.behind c.is_silent.result false line
    c.args.worker.now.line.bytes.items kept c.is_silent.ensures c.if-is_silent.false)
    (c.obey.ensures.obeys since seat whats line learned kept stays)
