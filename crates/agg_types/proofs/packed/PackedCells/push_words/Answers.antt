use Rattle.std.proofs.Common.{◌+◌, ◌*◌, ◌∙◌, [], ◌∷◌, ◌++◌, List, ap, arith, refl, sym}
use Rattle.std.proofs.lemmas.Bool.{le-ltb, lt-ltb}
use Rattle.agg_types.specs.Packed.{cell_at, fit_words, width}
use Rattle.agg_types.specs.declared.event.Cell.{Cell}
use Rattle.agg_types.proofs.Fitting.{fit-room, kinds-few}
use Rattle.agg_types.proofs.PackedWords.{are-pushed, cells-pushed, width-some}
use Rattle.agg_types.proofs.packed.PackedCells.push_words.Goals as goal

pub overflow_mul-self : goal.overflow_mul-self
overflow_mul-self c = omega (
  arith,
  kinds-few _ _ _ (width c.args.digit) c.self.invariant (width-some c.args.digit)
      (omega (arith, c.if-used-own-gt-WORDS.false, c.requires.words)),
)

pub overflow_add-self : goal.overflow_add-self
overflow_add-self c = omega (
  arith,
  kinds-few _ _ _ (width c.args.digit) c.self.invariant (width-some c.args.digit)
      (omega (arith, c.if-used-own-gt-WORDS.false, c.requires.words)),
  c.requires.small,
)

pub invariant_of-self : goal.invariant_of-self
invariant_of-self c =
    are-pushed c.self.inside.len c.self.inside.used c.self.inside.kinds
    (c.self.inside.kinds * 4 + c.args.digit) c.args.digit _ c.self.invariant
    refl c.requires.small c.requires.kind c.requires.words
    (omega (arith, c.if-used-own-gt-WORDS.false))

pub returns-clause-cells : goal.returns-clause-cells
returns-clause-cells c =
    cells-pushed c.self.inside.len c.self.inside.kinds (c.self.inside.kinds * 4 + c.args.digit)
    c.args.digit c.self.inside.used c.self.inside.words c.write_words.new.words c.args.own.now
    refl c.requires.small c.self.invariant.width c.requires.words
    c.write_words.ensures.here c.write_words.ensures.before
    ∙ ap (λ (cells : List Cell). cells ++ cell_at c.args.digit c.args.own.now 0 ∷ [])
    c.self.view_is

pub returns-then-used-own-gt-WORDS-clause-fit : goal.returns-then-used-own-gt-WORDS-clause-fit
returns-then-used-own-gt-WORDS-clause-fit c =
    sym (ap (λ (cells : List Cell). fit_words (cells ++ cell_at c.args.digit c.args.own.now 0 ∷ []))
    (sym c.self.view_is)
    ∙ fit-room c.self.inside.len c.self.inside.kinds c.self.inside.used c.args.digit
    c.self.inside.words c.args.own.now c.tell.ensures c.tell-2.ensures c.self.invariant.width
    ∙ le-ltb _ 8 (omega (arith, c.if-used-own-gt-WORDS.true, c.requires.words)))

pub returns-clause-fit : goal.returns-clause-fit
returns-clause-fit c =
    sym (ap (λ (cells : List Cell). fit_words (cells ++ cell_at c.args.digit c.args.own.now 0 ∷ []))
    (sym c.self.view_is)
    ∙ fit-room c.self.inside.len c.self.inside.kinds c.self.inside.used c.args.digit
    c.self.inside.words c.args.own.now c.tell.ensures c.tell-2.ensures c.self.invariant.width
    ∙ lt-ltb _ 8 (omega (arith, c.if-used-own-gt-WORDS.false, c.requires.words)))
