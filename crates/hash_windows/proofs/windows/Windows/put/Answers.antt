use Rattle.std.proofs.Common.{◌≡◌, [], refl, slice_index_or, subst}
use Rattle.std.proofs.lemmas.Option.{get_or_from_slice_get}
use Rattle.hash_windows.proofs.Words.{kept_by_put}
use Rattle.hash_windows.specs.Windows.{IsFreeAt, IsIn, short_of}
use Rattle.hash_windows.proofs.windows.Windows.put.Goals as goal

pub returns-clause-others : goal.returns-clause-others
returns-clause-others c =
    λ h q has.
    let ws = c.args.self.now.windows.items in
    let window = c.item_mut-window.result.now in
    let own : slice_index_or ws c.home-home.result [] ≡ window =
    get_or_from_slice_get ws c.home-home.result window [] c.item_mut-window.ensures.value in
    record {
      word = kept_by_put c.args.self.now.wide c.args.self.now.half c.home-home.result
          c.in-Some-free_index.free ws _ window _ (short_of h) q
          refl (λ w there. subst (λ l. IsIn l w) own there)
          (subst (λ w. IsFreeAt w c.in-Some-free_index.free) own
          c.in-Some-free_index.ensures.free) has.word;
    }
