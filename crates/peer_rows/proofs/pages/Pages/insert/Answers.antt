use Rattle.std.proofs.Common.{◌≡◌, ◌∙◌, ◌+◌, ap, sym, length}
use Rattle.std.specs.BTreeMap.{insert_entry, is_at}
use Rattle.std.specs.Map.{lookup}
use Rattle.std.specs.Ordering.{nat_cmp}
use Rattle.std.specs.Prelude.{None}
use Rattle.peer_rows.specs.Pages.{IsPageOf, joined}
use Rattle.peer_rows.proofs.Paging.{Rows, joined_sorted, length_put, own_lookup, own_pages_put}
use Rattle.peer_rows.proofs.Paging.{own_put, own_sorted}
use Rattle.peer_rows.proofs.pages.Pages.insert.Goals as goal

pub insert-requires-clause-sorted : goal.insert-requires-clause-sorted
insert-requires-clause-sorted c =
    let page : IsPageOf c.args.peer 0 c.part_last.new.pages.items c.page_of-at.result =
    rw c.as_slice.ensures.value at c.page_of-at.ensures.page in
    own_sorted c.args.peer c.page_of-at.result c.part_last.new.pages.items c.index_mut.result.now
    c.index_mut.result.now c.part_last.ensures.are page c.index_mut.ensures.value

pub insert-requires-clause-none : goal.insert-requires-clause-none
insert-requires-clause-none c =
    let page : IsPageOf c.args.peer 0 c.part_last.new.pages.items c.page_of-at.result =
    rw c.as_slice.ensures.value at c.page_of-at.ensures.page in
    let none : lookup (is_at (nat_cmp c.args.peer)) (joined c.self.inside.pages.items) ≡ None =
    rw (← c.self.view_is) at c.requires in
    own_lookup c.args.peer c.page_of-at.result c.part_last.new.pages.items c.index_mut.result.now
    c.index_mut.result.now c.part_last.ensures.are page c.index_mut.ensures.value
    ∙ ap (λ (rows : Rows). lookup (is_at (nat_cmp c.args.peer)) rows) c.part_last.ensures.rows
    ∙ none

pub invariant_of-self-2 : goal.invariant_of-self-2
invariant_of-self-2 c =
    let page : IsPageOf c.args.peer 0 c.part_last.new.pages.items c.page_of-at.result =
    rw c.as_slice.ensures.value at c.page_of-at.ensures.page in
    let none : lookup (is_at (nat_cmp c.args.peer)) (joined c.self.inside.pages.items) ≡ None =
    rw (← c.self.view_is) at c.requires in
    let same = c.part_last.ensures.rows in
    let put = own_put c.args.peer c.page_of-at.result c.part_last.new.pages.items
    c.index_mut.result.now
    c.insert.new.self c.part_last.ensures.are page c.index_mut.ensures.value c.args.row
    c.in_ok-insert.ensures.ok in (
      own_pages_put c.args.peer c.page_of-at.result c.part_last.new.pages.items
          c.index_mut.result.now
          c.insert.new.self c.part_last.ensures.are page c.index_mut.ensures.value c.args.row
          c.in_ok-insert.ensures.ok,
      c.in-Some.ensures.1
          ∙ ap (λ n. n + 1) (c.self.invariant.1 ∙ sym (ap (λ (rows : Rows). length rows) same))
          ∙ sym (ap (λ (rows : Rows). length rows) put
          ∙ length_put c.args.peer (joined c.part_last.new.pages.items) c.args.row
          (joined_sorted 0 c.part_last.new.pages.items c.part_last.ensures.are)
          (ap (λ (rows : Rows). lookup (is_at (nat_cmp c.args.peer)) rows) same ∙ none)),
    )

pub returns-clause-ok : goal.returns-clause-ok
returns-clause-ok c =
    let page : IsPageOf c.args.peer 0 c.part_last.new.pages.items c.page_of-at.result =
    rw c.as_slice.ensures.value at c.page_of-at.ensures.page in
    rw (← c.self.view_is) (own_put c.args.peer c.page_of-at.result
    c.part_last.new.pages.items c.index_mut.result.now
    c.insert.new.self c.part_last.ensures.are page c.index_mut.ensures.value
    c.args.row c.in_ok-insert.ensures.ok
    ∙ ap (λ (rows : Rows). insert_entry nat_cmp rows c.args.peer c.args.row)
    c.part_last.ensures.rows)
