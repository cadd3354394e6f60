-- What lacks counts 0, and what doesn't is read.
use Rattle.std.proofs.Common.{inl, inr, ◌≡◌, ℕ, suc, ◌<◌, ◌≤◌, Bool, true, false, cond, List, []}
use Rattle.std.proofs.Common.{◌∷◌, ◌++◌, length, drop, Option, Some, None, refl, sym, ap, ◌∙◌}
use Rattle.std.proofs.Common.{arith, min, max, ltb}
use Rattle.std.proofs.lemmas.Bool.{ltb-true, ltb-false, lt-ltb}
use Rattle.std.proofs.lemmas.Option.{none-some, same_Some, slice_get_past}
use Rattle.std.specs.Prelude.{slice_get, unwrap_or}
use Rattle.std.specs.Option.{option_map_or}
use Rattle.peers_msg.specs.Payload.{◌>>=◌}
use Rattle.peers_msg.specs.declared.message.Definition.{Definition}
use Rattle.peers_msg.proofs.Payloads.{bool_is}
use Rattle.agg_types.specs.Col.{is_rate, is_wide}
use Rattle.agg_types.specs.declared.column.Col.{Col}
use Rattle.update_values.specs.declared.lack.Lack.{Lack}
use Rattle.update_values.specs.declared.layout.Layout.{Layout}
use Rattle.update_values.specs.declared.layout.Place.{Place}
use Rattle.update_values.specs.Lack.{lack_at, lack_of}
use Rattle.update_values.specs.Layout.{cell_place, has_period, layout_of, needed, needed_by}
use Rattle.update_values.specs.Layout.{place_of, readable, types_read}
use Rattle.update_values.specs.Values.{blank, cell_of, numbers_of}
use Rattle.update_values.proofs.PlanLemmas.{cell_with, drop_none}

-- where a column is, if its period is that one's
abbrev with_period : Layout → Col × ℕ → Option Place → Option Place
with_period layout col o =
    o >>= λ (p : Place). cond (has_period layout p.kind col) (Some p) None

none_blank : (values : List (List ℕ)) (col : Col) → cell_with values col None ≡ blank col
none_blank values col =
    elim (bool_is (is_rate col)) [
      | inl rate ↦ rw rate refl
      | inr count ↦ rw count refl
    ]

past_blank : (values : List (List ℕ)) (col : Col) (place : Place) → length values ≤ place.kind
    → cell_with values col (Some place) ≡ blank col
past_blank values col place le =
    let none : slice_get values place.kind ≡ None = slice_get_past values place.kind le in
    elim (bool_is (is_rate col)) [
      | inl rate ↦ rw (rate, none, drop_none) refl
      | inr count ↦ rw (count, none, drop_none) refl
    ]

zero_at : (layout : Layout) (values : List (List ℕ)) (col : Col × ℕ) (o : Option Place)
    (lack : Lack) → length values ≤ readable layout → lack_at layout col o ≡ Some lack
    → cell_with values col.0 (with_period layout col o) ≡ blank col.0
zero_at layout values col None lack le is = none_blank values col.0
zero_at layout values col (Some place) lack le is =
    elim (bool_is (has_period layout place.kind col)) [
      | inl own ↦
          let e = rw own at is in
          elim (bool_is (ltb place.kind (readable layout))) [
            | inl early ↦ absurd (none-some lack (rw early at e))
            | inr late ↦ rw own (past_blank values col.0 place
                (omega (arith, le, ltb-false place.kind (readable layout) late)))
          ]
      | inr other ↦ rw other (none_blank values col.0)
    ]

pub lack_zero : (d : Definition) (col : Col × ℕ) (lack : Lack) (values : List (List ℕ))
    → lack_of d col ≡ Some lack → length values ≤ readable (layout_of d)
    → cell_of (layout_of d) values col ≡ blank col.0
unfolding cell_of
lack_zero d col lack values is le =
    zero_at (layout_of d) values col (place_of (layout_of d) col.0) lack le is

-- ---- what doesn't lack

-- a column is needed wherever it stands
needed_within : (layout : Layout) (col : Col × ℕ) (front back : List (Col × ℕ))
    → needed layout col ≤ needed_by layout (front ++ col ∷ back)
needed_within layout col [] back = omega arith
needed_within layout col (first ∷ front) back =
    omega (arith, needed_within layout col front back)

-- a place that is read as far as the columns need it
abbrev IsRead : Layout → Col × ℕ → Option Place → Type 0
IsRead layout col o =
    (place : Place) × (with_period layout col o ≡ Some place) × (place.kind < readable layout)

some_absurd : (lack : Lack) → Some lack ≡ None → ⊥
some_absurd lack e = cc

read_at : (layout : Layout) (col : Col × ℕ) (o : Option Place) → lack_at layout col o ≡ None
    → IsRead layout col o
read_at layout col None is = absurd (some_absurd _ is)
read_at layout col (Some place) is =
    elim (bool_is (has_period layout place.kind col)) [
      | inl own ↦
          let e = rw own at is in
          elim (bool_is (ltb place.kind (readable layout))) [
            | inl early ↦ (
              place,
              rw own refl,
              ltb-true place.kind (readable layout) early,
            )
            | inr late ↦ absurd (some_absurd _ (rw late at e))
          ]
      | inr other ↦ absurd (some_absurd _ (rw other at is))
    ]

pub no_lack_read : (d : Definition) (col : Col × ℕ) (front back : List (Col × ℕ))
    → lack_of d col ≡ None
    → (place : Place) × (cell_place (layout_of d) col ≡ Some place)
    × (place.kind < types_read (layout_of d) (front ++ col ∷ back))
no_lack_read d col front back is =
    let layout = layout_of d in
    let read = read_at layout col (place_of layout col.0) is in
    let need : needed layout col ≡ suc read.0.kind =
    ap (λ (o : Option Place). option_map_or (λ (p : Place). suc p.kind) o 0) read.1 in
    let within = needed_within layout col front back in
    (read.0, read.1, omega (arith, read.2, need, within))
