use Rattle.std.proofs.Common.{ap, sym, ◌∙◌, refl}
use Rattle.std.specs.Option.{option_copied}
use Rattle.peer_rows.specs.Ends.{IsLeast, rows_at}
use Rattle.peer_rows.proofs.InTime.{planned_all, rows_none, rows_value}
use Rattle.peer_rows.proofs.index.settle.Goals as goal
use Rattle.peer_rows.proofs.index.settle.Goals.{in-Some, in-None}

least : (c : goal.After-note) → IsLeast (rows_at c.args.keys.now.places c.args.at)
    c.match-value.least
least c = elim c.match-value.branch [
  | in-Some w ↦
      let value = sym c.value.ensures ∙ ap option_copied w.in-Some.is in
      rw (rows_value c.args.keys.now.places c.args.at w.in-Some.rows.now value, w.least-is)
      w.least_end-least.ensures.least
  | in-None w ↦
      let value = sym c.value.ensures ∙ ap option_copied w.in-None.is in
      rw (rows_none c.args.keys.now.places c.args.at value, w.least-is) refl
]

pub returns : goal.returns
returns c =
    planned_all c.args.keys.now.places c.args.at c.args.ends.now c.note.new.self c.requires
    c.note.ensures.missed c.note.ensures.others
    (c.note.ensures.own (rows_at c.args.keys.now.places c.args.at) (least c))
