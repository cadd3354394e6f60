use Rattle.std.proofs.Common.{◌≡◌, ◌<◌, ◌%◌, ◌∙◌, length, arith}
use Rattle.std.proofs.lemmas.List.{length-set}
use Rattle.std.proofs.lemmas.Option.{slice_get_within}
use Rattle.hash_windows.proofs.Words.{parted_more}
use Rattle.hash_windows.specs.Windows.{hash_in}
use Rattle.hash_windows.specs.declared.windows.Word.{Word}
use Rattle.hash_windows.proofs.parting.parted.Goals as goal

pub loop-index-preserved : goal.loop-index-preserved
loop-index-preserved c =
    record {
      stays = parted_more c.args.window.now c.loop-index.stay
          (λ (w : Word). hash_in w % c.args.wide ≡ c.args.number → ⊥) c.loop-index.index
          c.sides-sides.result.0 (omega arith) c.sides-sides.ensures.stay
          c.loop-index.invariant.stays;
      goes = parted_more c.args.window.now c.loop-index.go
          (λ (w : Word). hash_in w % c.args.wide ≡ c.args.number) c.loop-index.index
          c.sides-sides.result.1 (omega arith) c.sides-sides.ensures.go
          c.loop-index.invariant.goes;
      stay_len = length-set c.loop-index.stay c.loop-index.index c.sides-sides.result.0
          ∙ c.loop-index.invariant.stay_len;
      go_len = length-set c.loop-index.go c.loop-index.index c.sides-sides.result.1
          ∙ c.loop-index.invariant.go_len;
    }

pub returns-clause-stay : goal.returns-clause-stay
returns-clause-stay c =
    λ word there other.
    let w : there.index < length c.args.window.now =
    slice_get_within c.args.window.now there.index word there.is in
    record {
      index = there.index;
      is = c.loop-index.invariant.stays there.index word (omega arith) there.is other;
    }

pub returns-clause-go : goal.returns-clause-go
returns-clause-go c =
    λ word there other.
    let w : there.index < length c.args.window.now =
    slice_get_within c.args.window.now there.index word there.is in
    record {
      index = there.index;
      is = c.loop-index.invariant.goes there.index word (omega arith) there.is other;
    }
