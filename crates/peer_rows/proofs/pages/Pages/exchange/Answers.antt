use Rattle.std.proofs.Common.{◌≡◌, ◌∙◌, ap, subst}
use Rattle.std.specs.Prelude.{MatchBool, Option, Some, is_some}
use Rattle.peer_rows.specs.Pages.{IsPageOf}
use Rattle.peer_rows.specs.declared.row.Row.{Row}
use Rattle.peer_rows.proofs.Paging.{own_exchanged, own_lookup, own_sorted, own_stay}
use Rattle.peer_rows.proofs.pages.Pages.exchange.Goals as goal

pub exchange-requires : goal.exchange-requires
exchange-requires c =
    let page : IsPageOf c.args.peer 0 c.self.inside.pages.items c.page_of-at.result =
    rw c.as_slice.ensures.value at c.page_of-at.ensures.page in
    own_sorted c.args.peer c.page_of-at.result c.self.inside.pages.items c.index_mut.result.now
    c.index_mut.result.now c.self.invariant.0 page c.index_mut.ensures.value

pub invariant_of-self : goal.invariant_of-self
invariant_of-self c =
    let page : IsPageOf c.args.peer 0 c.self.inside.pages.items c.page_of-at.result =
    rw c.as_slice.ensures.value at c.page_of-at.ensures.page in
    own_stay c.args.peer c.page_of-at.result c.self.inside.pages.items c.index_mut.result.now
    c.exchange.new.self c.self.invariant.0 page c.index_mut.ensures.value c.self.inside.len
    c.args.row.now c.exchange.result c.exchange.ensures.found c.exchange.ensures.rows
    c.self.invariant.1

pub returns-clause-found : goal.returns-clause-found
returns-clause-found c =
    let page : IsPageOf c.args.peer 0 c.self.inside.pages.items c.page_of-at.result =
    rw c.as_slice.ensures.value at c.page_of-at.ensures.page in
    rw (← c.self.view_is) (c.exchange.ensures.found ∙ ap (λ (o : Option Row). is_some o)
    (own_lookup c.args.peer c.page_of-at.result c.self.inside.pages.items c.index_mut.result.now
    c.exchange.new.self c.self.invariant.0 page c.index_mut.ensures.value))

pub returns-clause-rows : goal.returns-clause-rows
returns-clause-rows c =
    let page : IsPageOf c.args.peer 0 c.self.inside.pages.items c.page_of-at.result =
    rw c.as_slice.ensures.value at c.page_of-at.ensures.page in
    rw (← c.self.view_is) (own_exchanged c.args.peer c.page_of-at.result
    c.self.inside.pages.items c.index_mut.result.now
    c.exchange.new.self c.self.invariant.0 page c.index_mut.ensures.value
    c.args.row.now c.exchange.result c.exchange.ensures.rows)

pub returns-clause-row : goal.returns-clause-row
returns-clause-row c =
    let page : IsPageOf c.args.peer 0 c.self.inside.pages.items c.page_of-at.result =
    rw c.as_slice.ensures.value at c.page_of-at.ensures.page in
    rw (← c.self.view_is) (subst (λ (o : Option Row). MatchBool c.exchange.result
    (o ≡ Some c.exchange.new.row) (c.exchange.new.row ≡ c.args.row.now))
    (own_lookup c.args.peer c.page_of-at.result c.self.inside.pages.items c.index_mut.result.now
    c.exchange.new.self c.self.invariant.0 page c.index_mut.ensures.value) c.exchange.ensures.row)
