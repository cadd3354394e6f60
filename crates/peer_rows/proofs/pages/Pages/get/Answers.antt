use Rattle.std.proofs.Common.{◌∙◌}
use Rattle.peer_rows.specs.Pages.{IsPageOf}
use Rattle.peer_rows.proofs.Paging.{own_lookup, own_sorted}
use Rattle.peer_rows.proofs.pages.Pages.get.Goals as goal

pub get-requires : goal.get-requires
get-requires c =
    let page : IsPageOf c.args.peer 0 c.self.inside.pages.items c.page_of-at.result =
    rw c.as_slice.ensures.value at c.page_of-at.ensures.page in
    own_sorted c.args.peer c.page_of-at.result c.self.inside.pages.items c.index.result.now
    c.index.result.now c.self.invariant.0 page c.index.ensures

pub returns : goal.returns
returns c =
    let page : IsPageOf c.args.peer 0 c.self.inside.pages.items c.page_of-at.result =
    rw c.as_slice.ensures.value at c.page_of-at.ensures.page in
    rw (← c.self.view_is) (c.get.ensures
    ∙ own_lookup c.args.peer c.page_of-at.result c.self.inside.pages.items c.index.result.now
    c.index.result.now c.self.invariant.0 page c.index.ensures)
