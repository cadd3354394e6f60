use Rattle.std.proofs.Common.{◌≡◌, ◌+◌, [], refl, slice_index_or, subst}
use Rattle.std.proofs.lemmas.Option.{get_or_from_slice_get}
use Rattle.hash_windows.proofs.Words.{kept_by_free}
use Rattle.hash_windows.specs.Windows.{IsIn, Names, short_of}
use Rattle.hash_windows.proofs.windows.Windows.free.Goals as goal

pub returns : goal.returns
returns c =
    λ h q other has.
    let ws = c.args.self.now.windows.items in
    let window = c.item_mut-window.result.now in
    let own : slice_index_or ws c.args.near.window [] ≡ window =
    get_or_from_slice_get ws c.args.near.window window [] c.item_mut-window.ensures.value in
    record {
      word = kept_by_free c.args.self.now.wide c.args.self.now.half c.args.near.window
          c.in-Some.index ws _ window _ c.args.at (short_of h) q
          refl (λ w there. subst (λ l. IsIn l w) own there)
          (subst (λ w. Names w c.in-Some.index (c.args.at + 1)) own
          c.in-Some.ensures.is) other has.word;
    }
