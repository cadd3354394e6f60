use Rattle.std.proofs.Common.{◌≡◌, ◌∙◌, ap, sym, arith, length}
use Rattle.std.specs.BTreeMap.{is_at}
use Rattle.std.specs.Map.{lookup}
use Rattle.std.specs.Ordering.{nat_cmp}
use Rattle.std.specs.Prelude.{None, Some}
use Rattle.peer_rows.specs.Pages.{IsPageOf, joined}
use Rattle.peer_rows.proofs.Living.{length_removed}
use Rattle.peer_rows.proofs.Paging.{Rows, own_lookup, own_pages_taken, own_sorted, own_taken}
use Rattle.peer_rows.proofs.Selecting.{remove_entry-missing}
use Rattle.peer_rows.proofs.pages.Pages.take.Goals as goal

pub take-requires : goal.take-requires
take-requires c =
    let page : IsPageOf c.args.peer 0 c.self.inside.pages.items c.page_of-at.result =
    rw c.as_slice.ensures.value at c.page_of-at.ensures.page in
    own_sorted c.args.peer c.page_of-at.result c.self.inside.pages.items c.index_mut.result.now
    c.index_mut.result.now c.self.invariant.0 page c.index_mut.ensures.value

pub invariant_of-self : goal.invariant_of-self
invariant_of-self c =
    let page : IsPageOf c.args.peer 0 c.self.inside.pages.items c.page_of-at.result =
    rw c.as_slice.ensures.value at c.page_of-at.ensures.page in
    let own = is_at (nat_cmp c.args.peer) in
    let none : lookup own (joined c.self.inside.pages.items) ≡ None =
    sym (own_lookup c.args.peer c.page_of-at.result c.self.inside.pages.items c.index_mut.result.now
    c.take.new.self c.self.invariant.0 page c.index_mut.ensures.value)
    ∙ sym c.take.ensures.value ∙ c.in_err-row.was in (
      own_pages_taken c.args.peer c.page_of-at.result c.self.inside.pages.items
          c.index_mut.result.now
          c.take.new.self c.self.invariant.0 page c.index_mut.ensures.value c.take.ensures.after,
      c.self.invariant.1 ∙ sym (ap (λ (rows : Rows). length rows)
          (own_taken c.args.peer c.page_of-at.result c.self.inside.pages.items
          c.index_mut.result.now
          c.take.new.self c.self.invariant.0 page c.index_mut.ensures.value c.take.ensures.after
          ∙ remove_entry-missing own (joined c.self.inside.pages.items) none)),
    )

pub returns-in_err-row-clause-value : goal.returns-in_err-row-clause-value
returns-in_err-row-clause-value c =
    let page : IsPageOf c.args.peer 0 c.self.inside.pages.items c.page_of-at.result =
    rw c.as_slice.ensures.value at c.page_of-at.ensures.page in
    rw (← c.self.view_is) (c.from_residual.ensures ∙ sym c.in_err-row.was ∙ c.take.ensures.value
    ∙ own_lookup c.args.peer c.page_of-at.result c.self.inside.pages.items c.index_mut.result.now
    c.take.new.self c.self.invariant.0 page c.index_mut.ensures.value)

pub returns-in_err-row-clause-after : goal.returns-in_err-row-clause-after
returns-in_err-row-clause-after c =
    let page : IsPageOf c.args.peer 0 c.self.inside.pages.items c.page_of-at.result =
    rw c.as_slice.ensures.value at c.page_of-at.ensures.page in
    rw (← c.self.view_is) (own_taken c.args.peer c.page_of-at.result
    c.self.inside.pages.items c.index_mut.result.now
    c.take.new.self c.self.invariant.0 page c.index_mut.ensures.value
    c.take.ensures.after)

pub overflow_sub-self : goal.overflow_sub-self
overflow_sub-self c =
    let page : IsPageOf c.args.peer 0 c.self.inside.pages.items c.page_of-at.result =
    rw c.as_slice.ensures.value at c.page_of-at.ensures.page in
    let own = is_at (nat_cmp c.args.peer) in
    let here : lookup own (joined c.self.inside.pages.items) ≡ Some c.in_ok-row.row =
    sym (own_lookup c.args.peer c.page_of-at.result c.self.inside.pages.items c.index_mut.result.now
    c.take.new.self c.self.invariant.0 page c.index_mut.ensures.value)
    ∙ sym c.take.ensures.value ∙ c.in_ok-row.was in
    let less = length_removed own (joined c.self.inside.pages.items) c.in_ok-row.row here in
    omega (arith, less, c.self.invariant.1)

pub invariant_of-self-2 : goal.invariant_of-self-2
invariant_of-self-2 c =
    let page : IsPageOf c.args.peer 0 c.self.inside.pages.items c.page_of-at.result =
    rw c.as_slice.ensures.value at c.page_of-at.ensures.page in
    let own = is_at (nat_cmp c.args.peer) in
    let here : lookup own (joined c.self.inside.pages.items) ≡ Some c.in_ok-row.row =
    sym (own_lookup c.args.peer c.page_of-at.result c.self.inside.pages.items c.index_mut.result.now
    c.take.new.self c.self.invariant.0 page c.index_mut.ensures.value)
    ∙ sym c.take.ensures.value ∙ c.in_ok-row.was in
    let less = length_removed own (joined c.self.inside.pages.items) c.in_ok-row.row here in
    let after = ap (λ (rows : Rows). length rows) (own_taken c.args.peer c.page_of-at.result
    c.self.inside.pages.items c.index_mut.result.now
    c.take.new.self c.self.invariant.0 page c.index_mut.ensures.value
    c.take.ensures.after) in (
      own_pages_taken c.args.peer c.page_of-at.result c.self.inside.pages.items
          c.index_mut.result.now
          c.take.new.self c.self.invariant.0 page c.index_mut.ensures.value c.take.ensures.after,
      omega (arith, less, after, c.self.invariant.1),
    )

pub returns-clause-value : goal.returns-clause-value
returns-clause-value c =
    let page : IsPageOf c.args.peer 0 c.self.inside.pages.items c.page_of-at.result =
    rw c.as_slice.ensures.value at c.page_of-at.ensures.page in
    rw (← c.self.view_is) (sym c.in_ok-row.was ∙ c.take.ensures.value
    ∙ own_lookup c.args.peer c.page_of-at.result c.self.inside.pages.items c.index_mut.result.now
    c.take.new.self c.self.invariant.0 page c.index_mut.ensures.value)

pub returns-clause-after : goal.returns-clause-after
returns-clause-after c =
    let page : IsPageOf c.args.peer 0 c.self.inside.pages.items c.page_of-at.result =
    rw c.as_slice.ensures.value at c.page_of-at.ensures.page in
    rw (← c.self.view_is) (own_taken c.args.peer c.page_of-at.result
    c.self.inside.pages.items c.index_mut.result.now
    c.take.new.self c.self.invariant.0 page c.index_mut.ensures.value
    c.take.ensures.after)
