use Rattle.std.proofs.Common.{sym, ◌∙◌, refl}
use Rattle.peer_rows.proofs.Keying.{lookup_held, lookup_not_held}
use Rattle.peer_rows.proofs.keyed.Keyed.row_at.Goals as goal

pub returns-in_err-get : goal.returns-in_err-get
returns-in_err-get c = let none = lookup_not_held c.args.self.now c.args.key.now c.args.peer
    (sym c.in_err-get.ensures.value) in rw (c.from_residual.ensures, none) refl

pub returns : goal.returns
returns c = c.get-2.ensures ∙ sym (lookup_held c.args.self.now c.args.key.now c.args.peer
    c.in_ok-get.field-0.now c.in_ok-get.ensures.ordered (sym c.in_ok-get.ensures.value))
