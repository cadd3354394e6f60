use Rattle.std.proofs.Common.{◌≡◌, ◌∙◌, rules, sym}
use Rattle.standing_filters.proofs.Said.{tells_none}
use Rattle.standing_filters.specs.Flips.{holding}
use Rattle.book.proofs.Judging.{elsewhere_held, kept_holds}
use Rattle.book.proofs.Screening.{passed_held}
use Rattle.book.proofs.Updates.{update_changes}
use Rattle.book.proofs.ToldAll.{elsewhere_told, kept_told}
use Rattle.book.proofs.verdicts.Verdicts.follow_update.Goals as goal

pub returns-then-not-table_use-clause-held : goal.returns-then-not-table_use-clause-held
returns-then-not-table_use-clause-held c = λ state follows held.
    elsewhere_held state c.args.machine.now c.args.table_use.now.table
    c.args.self.now.standing.filters
    (update_changes c.args.table_use.now.table c.args.what state c.args.machine.now c.requires.lent
    follows) (sym c.requires.found.judged
    ∙ c.if-not-table_use.true) held

pub returns-then-not-table_use-clause-flips : goal.returns-then-not-table_use-clause-flips
returns-then-not-table_use-clause-flips c = λ state sound follows held.
    elsewhere_told state c.args.machine.now c.args.table_use.now.table c.args.flips.now
    (update_changes c.args.table_use.now.table c.args.what state c.args.machine.now c.requires.lent
    follows) (sym c.requires.found.judged
    ∙ c.if-not-table_use.true)

pub returns-clause-held : goal.returns-clause-held
returns-clause-held c = rw c.in-Put.is (λ state follows held.
    c.judge.ensures.held state follows held)

pub returns-then-passes-clause-held : goal.returns-then-passes-clause-held
returns-then-passes-clause-held c = rw c.in-Put.is (λ state changes held.
    passed_held state c.args.machine.now c.in-Put.table c.in-Put.key.now
    c.args.self.now.standing.filters changes
    (c.passes.ensures.unheld (search (rules, c.if-passes.true)))
    (c.passes.ensures.unmet (search (rules, c.if-passes.true))) held)

pub returns-then-passes-clause-flips : goal.returns-then-passes-clause-flips
returns-then-passes-clause-flips c = rw c.in-Put.is (λ state sound changes held.
    let ws = c.args.self.now.standing.filters in
    let later = c.args.machine.now in
    kept_told state later ws ws c.args.flips.now c.args.flips.now (kept_holds state ws sound held)
    (kept_holds later ws c.requires.sound
    (passed_held state later c.in-Put.table c.in-Put.key.now ws changes
    (c.passes.ensures.unheld (search (rules, c.if-passes.true)))
    (c.passes.ensures.unmet (search (rules, c.if-passes.true))) held))
    changes.config (λ known. tells_none (holding ws) c.args.flips.now known))
