use Rattle.std.proofs.Common.{◌∙◌, is_some, ap}
use Rattle.std.specs.List.{list_any}
use Rattle.fleet_model.specs.Values.{same_place}
use Rattle.book_rows.specs.Planned.{place_at}
use Rattle.book_rows.specs.Store.{InForce}
use Rattle.book_rows.proofs.Reading.{found_shown, is_some-copied}
use Rattle.book_rows.proofs.store.Store.has_row.Goals as goal

pub returns : goal.returns
returns c =
    c.is_some.ensures ∙ is_some-copied c.get_at.result ∙ ap is_some c.get_at.ensures.value
    ∙ found_shown (place_at c.args.at) c.self.inside.rows.entries
    ∙ ap (λ (s : InForce). list_any (λ row. same_place (place_at c.args.at) row.0) s.rows)
    c.self.view_is
