use Rattle.std.proofs.Common.{arith}
use Rattle.peer_rows.proofs.Paging.{is_page, some_page}
use Rattle.peer_rows.proofs.pages.page_of.Goals as goal

pub returns-clause-page : goal.returns-clause-page
returns-clause-page c =
    let some = some_page 0 c.args.pages.now c.requires in
    is_page c.args.peer 0 c.min.result c.args.pages.now c.requires (omega (arith, some))
    (omega arith) (λ more. omega (arith, some, more))
