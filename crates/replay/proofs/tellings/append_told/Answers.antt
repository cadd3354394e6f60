use Rattle.std.proofs.Common.{◌≡◌, ◌∙◌, ap, sym, append-nil, List, ℕ, ◌++◌}
use Rattle.std.proofs.lemmas.Result.{on_ok_weaker}
use Rattle.fleet_model.specs.State.{State}
use Rattle.pushed_keys.specs.Pushes.{pushed_of}
use Rattle.fleet_core.proofs.Opening.{all_taken}
use Rattle.replay.specs.Tellings.{tables_from, tables_text}
use Rattle.replay.proofs.Shown.{none_shown, some_shown}
use Rattle.replay.proofs.tellings.append_told.Goals as goal

pub returns-in_default : goal.returns-in_default
returns-in_default c = λ config opening past settled.
    sym (append-nil c.args.out.now.items) ∙ ap (λ (text : List ℕ). c.args.out.now.items ++ text)
    (sym (none_shown config opening past c.args.conn
    (c.in_default.ensures config opening past settled.stands)))

pub returns : goal.returns
returns c = λ config opening past settled.
    let p : c.as_slice.result.now ≡ pushed_of c.args.fleet.now.book.config =
    c.as_slice.ensures ∙ c.in_ok-pushed.ensures ∙ ap (λ config. pushed_of config)
    (c.config.ensures.value ∙ ap (λ (b : State). b.config) c.book.ensures) in
    let m : c.moment.result ≡ c.args.fleet.now.book.moment =
    c.moment.ensures.value ∙ ap (λ (b : State). b.moment) c.book-2.ensures in
    on_ok_weaker c.append_tables.result
    (λ h. h ∙ ap (λ (text : List ℕ). c.args.out.now.items ++ text)
    ((λ i. tables_from c.args.conn (p i) c.in-Some.teller.now (m i) 0 (p i))
    ∙ ap (λ (b : State). tables_text c.args.conn b c.in-Some.teller.now)
    (all_taken c.args.fleet.now config opening past settled.stands settled.waiting)
    ∙ sym (some_shown config opening past c.args.conn c.in-Some.teller.now
    (c.in-Some.ensures config opening past settled.stands)))) c.append_tables.ensures
