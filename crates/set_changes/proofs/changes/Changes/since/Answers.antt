use Rattle.std.proofs.Common.{◌∙◌, ◌≤◌, ap, length, ℕ, List, map, subst, sym, []}
use Rattle.std.specs.Prelude.{slice_index_or}
use Rattle.set_changes.specs.Numbered.{Logged, Numbered, log_at}
use Rattle.set_changes.proofs.Kept.{at_past}
use Rattle.set_changes.proofs.Known.{told}
use Rattle.set_changes.proofs.changes.Changes.since.Goals as goal

pub returns-then-self-number : goal.returns-then-self-number
returns-then-self-number c sets early late known len =
    let inside = c.self.inside in
    let none : Logged = record { from = inside.start; changes = [] } in
    told c.args.self.now sets c.args.filter c.args.number early late _ none known len
    (ap (λ (n : Numbered). log_at n c.args.filter) (sym c.self.view_is)
    ∙ at_past inside.logs.items c.args.filter none
    (subst (λ (logs : List Logged). length logs ≤ c.args.filter) c.deref.ensures.value
    c.in-None.ensures.lookup.3))
    c.if-self-number.true (ap (map (λ change. change.now)) c.new.ensures.items)

pub returns-in_ok-since-in-Some : goal.returns-in_ok-since-in-Some
returns-in_ok-since-in-Some c sets early late known len =
    let inside = c.self.inside in
    let log = c.in-Some.log.now in
    let none : Logged = record { from = inside.start; changes = [] } in
    told c.args.self.now sets c.args.filter c.args.number early late _ log known len
    (ap (λ (n : Numbered). log_at n c.args.filter) (sym c.self.view_is)
    ∙ (ap (λ (logs : List Logged). slice_index_or logs c.args.filter none)
    (sym c.deref.ensures.value) ∙ sym (c.in-Some.ensures.lookup.3.1 none)))
    (subst (λ (from : ℕ). from ≤ c.args.number) c.from.ensures c.if-from-number.true)
    c.in_ok-since-in-Some.ensures
