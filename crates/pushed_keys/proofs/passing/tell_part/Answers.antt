use Rattle.std.proofs.Common.{◌∙◌, ◌++◌, ◌∷◌, [], ap, refl, subst, sym, ℕ, List}
use Rattle.std.proofs.lemmas.Result.{on_ok_weaker}
use Rattle.std.specs.List.{AllByRecursion}
use Rattle.pushed_keys.specs.Packed.{IsFrom, in_lists, lent, with_puts}
use Rattle.pushed_keys.specs.Stands.{Stand}
use Rattle.pushed_keys.specs.Turns.{key_change}
use Rattle.pushed_keys.specs.declared.told.Mark.{Mark}
use Rattle.pushed_keys.proofs.Through.{all_renewed, late_renewed, one_renewed}
use Rattle.pushed_keys.proofs.passing.tell_part.Goals as goal

pub loop-mark-preserved : goal.loop-mark-preserved
loop-mark-preserved c = record {
  told = one_renewed c.args.pushed.now c.args.turn c.args.part.now (in_lists c.loop-mark.left)
      (in_lists c.in-Some.rest) (lent c.in-Some.mark) c.loop-mark.puts.items c.push.new.self.items
      c.loop-mark.least c.with-least.result c.args.done.now.changes c.loop-mark.done.changes
      c.say.new.changes c.loop-mark.invariant.told c.in-Some.ensures
      (c.in_ok-push.ensures.items
      ∙ ap (λ (put : ℕ). c.loop-mark.puts.items ++ put ∷ []) c.put_again-put.ensures)
      (rw (c.with-least.ensures, c.put_again-put.ensures) refl)
      (c.in_ok-say.ensures ∙ ap (λ (stand : Stand). c.loop-mark.done.changes
      ++ key_change c.args.pushed.now c.args.turn stand) c.standing_on.ensures);
  kept = c.loop-mark.invariant.kept;
}

pub renewed-requires-clause-late : goal.renewed-requires-clause-late
renewed-requires-clause-late c =
    subst (λ (puts : List ℕ). AllByRecursion (λ mark. IsFrom c.loop-mark.least mark)
    (with_puts c.args.part.now puts)) (sym c.as_slice.ensures.value)
    (late_renewed _ _ _ _ _ _ _ _ c.loop-mark.invariant.told c.in_default.ensures)

pub returns : goal.returns
returns c =
    on_ok_weaker c.add.result (λ h. all_renewed c.args.pushed.now c.args.turn c.args.part.now
    (in_lists c.loop-mark.left) c.loop-mark.puts.items c.loop-mark.least c.args.done.now _
    c.in_ok-renewed.field-0 c.requires c.loop-mark.invariant.told c.in_default.ensures
    (c.in_ok-renewed.ensures ∙ ap (with_puts c.args.part.now) c.as_slice.ensures.value)
    (h ∙ ap (λ (ms : List Mark). ms ++ c.in_ok-renewed.field-0) c.loop-mark.invariant.kept))
    c.add.ensures
