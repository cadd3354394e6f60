use Rattle.std.proofs.Common.{◌≡◌, ◌<◌, Some, length, slice_get, subst, arith, inl, inr}
use Rattle.std.proofs.lemmas.Bool.{cases_eq}
use Rattle.std.proofs.lemmas.Option.{slice_get_within}
use Rattle.place_index.proofs.Leading.{if_none_at}
use Rattle.hash_windows.specs.Windows.{word_of}
use Rattle.place_index.proofs.reach.named_in.Goals as goal

pub loop-index-preserved : goal.loop-index-preserved
loop-index-preserved g c =
    λ k at within is_held is.
    elim (cases_eq k c.loop-index.index) [
      | inl e ↦
          if_none_at c.named_at.result c.named_at.ensures.none c.in_default.is at is_held
          (subst (λ n. slice_get c.args.window.now n ≡ Some (word_of c.args.hash at)) e
          is)
      | inr e ↦ c.loop-index.invariant k at (omega arith) is_held is
    ]

pub returns-clause-none : goal.returns-clause-none
returns-clause-none g c =
    λ at is_held there.
    let w : there.index < length c.args.window.now =
    slice_get_within c.args.window.now there.index (word_of c.args.hash at) there.is in
    c.loop-index.invariant there.index at (omega arith) is_held there.is
