use Rattle.std.proofs.Common.{rules, ◌≡◌, ◌∙◌, List, subst, sym, ap}
use Rattle.std.proofs.lemmas.List.Sorted.{answers_always}
use Rattle.pushed_keys.specs.Moves.{AreInOrder, last_words, moved_keys, said_of}
use Rattle.pushed_keys.specs.declared.moved.Moved.{Moved}
use Rattle.pushed_keys.proofs.Words.{order_words, rising, said_stable, said_words}
use Rattle.pushed_keys.proofs.ordered.in_order.Goals as goal

pub returns-clause-order : goal.returns-clause-order
returns-clause-order c =
    let keys = answers_always _ _ _ (λ f a r next called. search rules) in
    let sorted = c.in_ok-sort_by_key.ensures.sorted (λ (move : Moved). move.key) keys in
    subst (λ (ms : List Moved). AreInOrder (moved_keys ms))
    (sym (c.in_ok-kept.ensures ∙ ap last_words c.as_slice.ensures.value))
    (order_words _ (rising _ sorted))

pub returns-clause-said : goal.returns-clause-said
returns-clause-said c = λ key was.
    let keys = answers_always _ _ _ (λ f a r next called. search rules) in
    let stable = c.in_ok-sort_by_key.ensures.stable (λ (move : Moved). move.key) keys in
    let all : c.extend_from_slice.new.self.items ≡ c.args.moves.now = search rules in
    ap (λ (ms : List Moved). said_of key ms was)
    (c.in_ok-kept.ensures ∙ ap last_words c.as_slice.ensures.value)
    ∙ said_words key c.sort_by_key.new.self.items was
    ∙ said_stable c.extend_from_slice.new.self.items c.sort_by_key.new.self.items stable key was
    ∙ ap (λ (ms : List Moved). said_of key ms was) all
