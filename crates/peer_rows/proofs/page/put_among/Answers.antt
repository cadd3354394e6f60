use Rattle.std.proofs.Common.{◌≡◌, ◌∙◌, sym, ap, arith, ℕ, List, length}
use Rattle.std.specs.Prelude.{Some}
use Rattle.peer_rows.specs.declared.row.Row.{Row}
use Rattle.peer_rows.specs.Peers.{IsFound, IsGap}
use Rattle.peer_rows.proofs.Peers.{found_in, found_value, found_put, found_key, gap_in, gap_none}
use Rattle.peer_rows.proofs.Peers.{gap_put}
use Rattle.peer_rows.proofs.page.put_among.Goals as goal

pub index_mut-requires : goal.index_mut-requires
index_mut-requires c = omega (
  arith,
  found_in c.args.peer c.as_slice.result.now c.in-Ok.at
      c.in-Ok.ensures,
  c.as_slice.ensures.len,
)

pub returns-in-Ok-clause-ok : goal.returns-in-Ok-clause-ok
returns-in-Ok-clause-ok c =
    let found : IsFound c.args.peer c.args.rows.now.items c.in-Ok.at = rw c.as_slice.ensures.value
    at c.in-Ok.ensures in
    let key : c.index_mut.result.now.0 ≡ c.args.peer =
    ap (λ (r : ℕ × Row). r.0) c.index_mut.ensures.value
    ∙ found_key c.args.peer c.args.rows.now.items c.in-Ok.at c.index_mut.result.now found in
    rw (key, c.replace.ensures.after)
    (sym (found_put c.args.peer c.args.rows.now.items c.in-Ok.at c.args.row found))

pub returns-in-Ok-clause-old : goal.returns-in-Ok-clause-old
returns-in-Ok-clause-old c =
    let found : IsFound c.args.peer c.args.rows.now.items c.in-Ok.at = rw c.as_slice.ensures.value
    at c.in-Ok.ensures in
    ap (λ (row : Row). Some row) c.replace.ensures.value
    ∙ ap (λ (r : ℕ × Row). Some r.1) c.index_mut.ensures.value
    ∙ sym (found_value c.args.peer c.args.rows.now.items c.in-Ok.at c.index_mut.result.now found)

pub returns-in_err-make_room-in-Err-clause-held :
    goal.returns-in_err-make_room-in-Err-clause-held
returns-in_err-make_room-in-Err-clause-held c = λ held.
    let gap : IsGap c.args.peer c.args.rows.now.items c.in-Err.at = rw c.as_slice.ensures.value
    at c.in-Err.ensures in
    let none = gap_none c.args.peer c.args.rows.now.items c.in-Err.at c.requires gap in
    let nothing = rw none at held in
    cc

pub returns-in_err-insert-in-Err-clause-held :
    goal.returns-in_err-insert-in-Err-clause-held
returns-in_err-insert-in-Err-clause-held c = λ held.
    let gap : IsGap c.args.peer c.args.rows.now.items c.in-Err.at = rw c.as_slice.ensures.value
    at c.in-Err.ensures in
    let none = gap_none c.args.peer c.args.rows.now.items c.in-Err.at c.requires gap in
    let nothing = rw none at held in
    cc

pub insert-requires : goal.insert-requires
insert-requires c = omega (
  arith,
  gap_in c.args.peer c.as_slice.result.now c.in-Err.at
      c.in-Err.ensures,
  c.as_slice.ensures.len,
  ap (λ (rows : List (ℕ × Row)). length rows) c.make_room.ensures,
)

pub returns-in_ok-insert-in-Err-clause-ok : goal.returns-in_ok-insert-in-Err-clause-ok
returns-in_ok-insert-in-Err-clause-ok c =
    let gap : IsGap c.args.peer c.args.rows.now.items c.in-Err.at = rw c.as_slice.ensures.value
    at c.in-Err.ensures in
    let put = gap_put c.args.peer c.args.rows.now.items c.in-Err.at c.args.row gap in
    rw (c.in_ok-insert-in-Err.ensures.items, c.make_room.ensures) (sym put)

pub returns-in_ok-insert-in-Err-clause-old : goal.returns-in_ok-insert-in-Err-clause-old
returns-in_ok-insert-in-Err-clause-old c =
    let gap : IsGap c.args.peer c.args.rows.now.items c.in-Err.at = rw c.as_slice.ensures.value
    at c.in-Err.ensures in
    sym (gap_none c.args.peer c.args.rows.now.items c.in-Err.at c.requires gap)
