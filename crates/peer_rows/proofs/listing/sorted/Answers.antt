use Rattle.std.proofs.Common.{ap}
use Rattle.std.specs.Cmp.Lexicographic.{slice_cmp, nat_list_cmp_total}
use Rattle.std.specs.Ordering.{is_lt, nat_cmp}
use Rattle.std.proofs.lemmas.List.Sorted.{ranks_by, answers_always}
use Rattle.peer_rows.specs.Places.{one_shown}
use Rattle.peer_rows.proofs.Listed.{sorted-listed, rises_from_sort}
use Rattle.peer_rows.proofs.listing.sorted.Goals as goal

pub returns : goal.returns
returns c = sorted-listed c.args.index.now.places c.in_ok-keys.keys.items
    c.sort_unstable_by.new.self.items c.count-count.ensures.distinct c.in_ok-keys.ensures
    c.sort_unstable_by.ensures.permutation
    (rises_from_sort one_shown c.sort_unstable_by.new.self.items (c.sort_unstable_by.ensures.sorted
    (λ a b. is_lt (slice_cmp nat_cmp a.0.now b.0.now))
    (ranks_by nat_list_cmp_total (λ e. e.0.now))
    (answers_always _ _ _ (λ f a r g k. ap is_lt k.met))))
