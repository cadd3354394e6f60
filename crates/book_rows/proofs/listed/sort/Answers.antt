use Rattle.std.proofs.Common.{ap, sym, subst}
use Rattle.std.specs.Cmp.Lexicographic.{slice_cmp, nat_list_cmp_total}
use Rattle.std.specs.List.{IsDistinct}
use Rattle.std.specs.List.Sorted.{IsStrictlySortedBy}
use Rattle.std.specs.Map.{keys_of}
use Rattle.std.specs.Ordering.{eq_by_cmp, is_lt, nat_cmp}
use Rattle.std.proofs.lemmas.Cmp.{eq_by_cmp_equiv}
use Rattle.std.proofs.lemmas.List.Sorted.{ranks_by, answers_always, IsPermutation-map}
use Rattle.std.proofs.lemmas.Map.Keys.{IsDistinct-IsPermutation}
use Rattle.peer_rows.specs.Places.{Keys}
use Rattle.peer_rows.proofs.Listed.{rises_from_sort, rising}
use Rattle.book_rows.proofs.KeysMeeting.{same_map}
use Rattle.book_rows.proofs.listed.sort.Goals as goal

pub returns-clause-in_order : goal.returns-clause-in_order
returns-clause-in_order c once =
    let keys : Keys = c.args.keys.now.items in
    let sorted : Keys = c.sort_unstable_by.new.self.items in
    let apart = IsDistinct-IsPermutation (eq_by_cmp (slice_cmp nat_cmp))
    (eq_by_cmp_equiv nat_list_cmp_total).symm (keys_of keys) (keys_of sorted)
    (IsPermutation-map (λ e. e.0) keys sorted c.sort_unstable_by.ensures.permutation) once in
    let up = rises_from_sort (λ e. e) sorted (c.sort_unstable_by.ensures.sorted
    (λ a b. is_lt (slice_cmp nat_cmp a.0 b.0))
    (ranks_by nat_list_cmp_total (λ e. e.0))
    (answers_always _ _ _ (λ f a r g k. ap is_lt k.met))) in
    subst (λ (l : Keys). IsStrictlySortedBy (slice_cmp nat_cmp) (keys_of l)) (same_map sorted)
    (rising (λ e. e) sorted up
    (subst (λ (l : Keys). IsDistinct (eq_by_cmp (slice_cmp nat_cmp)) (keys_of l))
    (sym (same_map sorted)) apart))
