use Rattle.std.proofs.Common.{◌∙◌, sym, ap, arith, ℕ}
use Rattle.std.specs.Prelude.{Some}
use Rattle.std.specs.Ordering.{nat_cmp}
use Rattle.std.specs.BTreeMap.{is_at}
use Rattle.peer_rows.specs.declared.row.Row.{Row}
use Rattle.peer_rows.specs.Peers.{IsFound, IsGap}
use Rattle.peer_rows.proofs.Selecting.{remove_entry-missing}
use Rattle.peer_rows.proofs.Peers.{found_in, found_value, found_taken, gap_none}
use Rattle.peer_rows.proofs.page.take_among.Goals as goal

pub remove-requires : goal.remove-requires
remove-requires c = omega (
  arith,
  found_in c.args.peer c.as_slice.result.now c.in-Ok.at
      c.in-Ok.ensures,
  c.as_slice.ensures.len,
)

pub returns-in-Ok-clause-value : goal.returns-in-Ok-clause-value
returns-in-Ok-clause-value c =
    let found : IsFound c.args.peer c.args.rows.now.items c.in-Ok.at = rw c.as_slice.ensures.value
    at c.in-Ok.ensures in
    ap (λ (r : ℕ × Row). Some r.1) c.remove.ensures.value
    ∙ sym (found_value c.args.peer c.args.rows.now.items c.in-Ok.at c.remove.result found)

pub returns-in-Ok-clause-after : goal.returns-in-Ok-clause-after
returns-in-Ok-clause-after c =
    let found : IsFound c.args.peer c.args.rows.now.items c.in-Ok.at = rw c.as_slice.ensures.value
    at c.in-Ok.ensures in
    c.remove.ensures.items ∙ sym (found_taken c.args.peer c.args.rows.now.items c.in-Ok.at found)

pub returns-in-Err-clause-value : goal.returns-in-Err-clause-value
returns-in-Err-clause-value c =
    let gap : IsGap c.args.peer c.args.rows.now.items c.in-Err.field-0 = rw c.as_slice.ensures.value
    at c.in-Err.ensures in
    sym (gap_none c.args.peer c.args.rows.now.items c.in-Err.field-0 c.requires gap)

pub returns-in-Err-clause-after : goal.returns-in-Err-clause-after
returns-in-Err-clause-after c =
    let gap : IsGap c.args.peer c.args.rows.now.items c.in-Err.field-0 = rw c.as_slice.ensures.value
    at c.in-Err.ensures in
    sym (remove_entry-missing (is_at (nat_cmp c.args.peer)) c.args.rows.now.items
    (gap_none c.args.peer c.args.rows.now.items c.in-Err.field-0 c.requires gap))
