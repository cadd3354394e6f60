-- Each key of a walk with its rows.
use Rattle.std.proofs.Common.{◌≡◌, ℕ, Some, sym, ap, ◌∙◌}
use Rattle.std.specs.Prelude.{map}
use Rattle.std.specs.BTreeMap.{is_at}
use Rattle.std.specs.Cmp.{eq_by_cmp_equiv}
use Rattle.std.specs.Cmp.Lexicographic.{slice_cmp, nat_list_cmp_total}
use Rattle.std.specs.List.{AllByRecursion}
use Rattle.std.specs.Map as maps
use Rattle.std.specs.Option.{option_map}
use Rattle.std.specs.Ordering.{nat_cmp}
use Rattle.std.proofs.lemmas.Map.Entries.{lookup_from_place}
use Rattle.fleet_model.specs.Keys.{Rows, key_rows}
use Rattle.peer_rows.specs.Places.{Keys}
use Rattle.book_rows.specs.Shown.{of_peer}
use Rattle.book_rows.specs.Store.{IsEachKeyOf}
use Rattle.book_rows.proofs.KeysMeeting.{any_of, each_place}

-- the rows of each key of a walk
pub walk_rows : (rows : Rows) (table : ℕ) (walk : Keys) → IsEachKeyOf rows table walk
    → AllByRecursion (λ e. map (of_peer table e.0) e.1 ≡ key_rows rows table e.0) walk
walk_rows rows table walk each =
    each_place (λ e. map (of_peer table e.0) e.1 ≡ key_rows rows table e.0) walk
    (λ i e is.
    let found : maps.lookup (is_at (slice_cmp nat_cmp e.0)) walk ≡ Some e.1 =
    lookup_from_place (eq_by_cmp_equiv nat_list_cmp_total) walk i e.0 e.1 each.once is in
    sym (any_of (key_rows rows table e.0) (map (of_peer table e.0) e.1)
    (ap (option_map (map (of_peer table e.0))) (sym found) ∙ each.exact e.0)))
