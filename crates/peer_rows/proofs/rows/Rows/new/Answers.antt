use Rattle.std.proofs.Common.{◌≡◌, ◌∙◌, ap, replicate, length, arith, List}
use Rattle.std.proofs.lemmas.List.{replicate_more, length-replicate}
use Rattle.peer_rows.specs.Table.{TableRows}
use Rattle.peer_rows.specs.Rows.{placed}
use Rattle.peer_rows.proofs.Placing.{no_rows, new_tables, placed-empty, same_map}
use Rattle.peer_rows.proofs.rows.Rows.new.Goals as goal

pub loop-table-init : goal.loop-table-init
loop-table-init c = c.new-empty.ensures.items

pub loop-table-preserved : goal.loop-table-preserved
loop-table-preserved c = rw (
  c.in_ok-push.ensures.items,
  c.in_ok-new.ensures,
  c.loop-table.invariant,
) (replicate_more c.loop-table._table (no_rows c.args.peers))

pub invariant_of-result : goal.invariant_of-result
invariant_of-result c = rw c.loop-table.invariant (new_tables c.loop-table._table c.args.peers)

pub returns : goal.returns
returns c =
    let is : c.loop-table.empty.items ≡ replicate c.loop-table._table (no_rows c.args.peers) =
    c.loop-table.invariant in
    same_map c.args.peers _ _ _ _
    (ap (λ (ts : List TableRows). length ts) is
    ∙ length-replicate c.loop-table._table (no_rows c.args.peers) ∙ omega arith)
    (ap (λ (ts : List TableRows). placed ts) is ∙ placed-empty c.loop-table._table c.args.peers 0)
