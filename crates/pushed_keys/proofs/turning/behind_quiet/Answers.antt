use Rattle.std.proofs.Common.{◌≡◌, true, ap, map, sym, ◌∙◌}
use Rattle.std.specs.Prelude.{bytes_eq}
use Rattle.std.proofs.lemmas.List.{take_rest}
use Rattle.pushed_keys.specs.Packed.{lent}
use Rattle.pushed_keys.proofs.Rest.{drop_here}
use Rattle.pushed_keys.proofs.Still.{held_first, still_first}
use Rattle.pushed_keys.proofs.turning.behind_quiet.Goals as goal

pub returns-then-are_above : goal.returns-then-are_above
returns-then-are_above c =
    held_first c.args.pushed.now c.args.turn (lent c.in_ok-mark.mark) _ _ _ c.in_ok-mark.ensures
    c.if-not-mark.true (sym c.if-is_held.ensures) (c.are_above.ensures c.if-are_above.true)

pub returns-then-eq : goal.returns-then-eq
returns-then-eq c =
    let same : bytes_eq c.key-item.result.now c.in_ok-mark.mark.key.now ≡ true =
    rw (← c.as_slice.ensures) (sym c.eq.ensures ∙ c.if-eq.true) in
    still_first c.args.pushed.now c.args.turn c.args.from c.key-item.result.now
    (lent c.in_ok-mark.mark) _ _ _ _ _ c.requires
    (ap (map (λ key. key.now)) (drop_here c.args.set.now 0 c.key-item.result
    c.in-len1-up.len_at_least c.key-item.is))
    (ap (map (λ key. key.now)) (take_rest c.args.set.now 1)) c.in_ok-mark.ensures
    c.if-not-mark.false c.if-from-mark.true same
