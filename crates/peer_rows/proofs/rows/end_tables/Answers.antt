use Rattle.std.proofs.Common.{ap, sym, ◌∙◌, arith, inl, inr}
use Rattle.std.proofs.lemmas.Bool.{cases_lt}
use Rattle.std.proofs.lemmas.Option.{slice_get-map, slice_get_past}
use Rattle.std.specs.Option.{option_map}
use Rattle.std.specs.Prelude.{map}
use Rattle.peer_rows.specs.Ends.{ended}
use Rattle.peer_rows.proofs.Living.{same_list}
use Rattle.peer_rows.proofs.rows.end_tables.Goals as goal

pub returns : goal.returns
returns c = same_list c.loop-table.tables.items (map (ended c.args.t) c.args.tables.now.items)
    (λ i. elim (cases_lt i c.loop-table.table) [
      | inl below ↦ c.loop-table.invariant.done i below
          ∙ sym (slice_get-map (ended c.args.t) c.args.tables.now.items i)
      | inr behind ↦
          let none = slice_get_past c.args.tables.now.items i (omega arith) in
          c.loop-table.invariant.still i behind ∙ none
          ∙ sym (slice_get-map (ended c.args.t) c.args.tables.now.items i
          ∙ ap (option_map (ended c.args.t)) none)
    ])
