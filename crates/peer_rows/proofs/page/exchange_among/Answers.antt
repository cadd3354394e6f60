use Rattle.std.proofs.Common.{◌≡◌, ◌∙◌, sym, ap, arith, ℕ}
use Rattle.std.specs.Prelude.{Option, Some, is_some}
use Rattle.peer_rows.specs.declared.row.Row.{Row}
use Rattle.peer_rows.specs.Peers.{IsFound, IsGap}
use Rattle.peer_rows.proofs.Peers.{found_in, found_value, found_put, found_key, gap_none}
use Rattle.peer_rows.proofs.page.exchange_among.Goals as goal

pub index_mut-requires : goal.index_mut-requires
index_mut-requires c = omega (
  arith,
  found_in c.args.peer c.as_slice.result.now c.in-Ok.at
      c.in-Ok.ensures,
  c.as_slice.ensures.len,
)

pub returns-in-Ok-clause-found : goal.returns-in-Ok-clause-found
returns-in-Ok-clause-found c =
    let found : IsFound c.args.peer c.args.rows.now.items c.in-Ok.at = rw c.as_slice.ensures.value
    at c.in-Ok.ensures in
    sym (ap (λ (o : Option Row). is_some o) (found_value c.args.peer c.args.rows.now.items
    c.in-Ok.at c.index_mut.result.now found))

pub returns-in-Ok-clause-rows : goal.returns-in-Ok-clause-rows
returns-in-Ok-clause-rows c =
    let found : IsFound c.args.peer c.args.rows.now.items c.in-Ok.at = rw c.as_slice.ensures.value
    at c.in-Ok.ensures in
    let key : c.index_mut.result.now.0 ≡ c.args.peer =
    ap (λ (r : ℕ × Row). r.0) c.index_mut.ensures.value
    ∙ found_key c.args.peer c.args.rows.now.items c.in-Ok.at c.index_mut.result.now found in
    rw (key, c.swap.ensures.x_after)
    (sym (found_put c.args.peer c.args.rows.now.items c.in-Ok.at c.args.row.now found))

pub returns-in-Ok-clause-row : goal.returns-in-Ok-clause-row
returns-in-Ok-clause-row c =
    let found : IsFound c.args.peer c.args.rows.now.items c.in-Ok.at = rw c.as_slice.ensures.value
    at c.in-Ok.ensures in
    found_value c.args.peer c.args.rows.now.items c.in-Ok.at c.index_mut.result.now found
    ∙ ap (λ (r : ℕ × Row). Some r.1) (sym c.index_mut.ensures.value)
    ∙ ap (λ (row : Row). Some row) (sym c.swap.ensures.y_after)

pub returns-in-Err-clause-found : goal.returns-in-Err-clause-found
returns-in-Err-clause-found c =
    let gap : IsGap c.args.peer c.args.rows.now.items c.in-Err.field-0 =
    rw c.as_slice.ensures.value at c.in-Err.ensures in
    sym (ap (λ (o : Option Row). is_some o) (gap_none c.args.peer c.args.rows.now.items
    c.in-Err.field-0 c.requires gap))
