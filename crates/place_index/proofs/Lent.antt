-- What slots and places are once a borrow of one of their values ends.
use Rattle.std.proofs.Common.{◌≡◌, ℕ, ◌<◌, length}
use Rattle.std.proofs.Common.{Some, None, Option, refl, ap, sym, ◌∙◌, arith, slice_get}
use Rattle.std.proofs.Common.{Bool, true, false, if◌then◌else◌, inl, inr}
use Rattle.std.proofs.lemmas.Bool.{cases_lt}
use Rattle.std.proofs.lemmas.Option.{none-some, slice_get_past}
use Rattle.std.specs.Option.{option_map}
use Rattle.std.specs.Prelude.{slice_set, IsSome}
use Rattle.place_index.proofs.Held.{read_item, no_item, set_from, empty_again, item_of}
use Rattle.place_index.specs.Lending.{with_value, with_slot}
use Rattle.place_index.specs.Places.{item_at, value_at, revalued}
use Rattle.place_index.specs.Slots.{is_empty_at, held}
use Rattle.place_index.specs.declared.slots.Slot.{Slot}
use Rattle.place_index.specs.declared.slots.Slots.{Slots}

is_none : {X : Type 0} (item : Option X) → item ≡ None → IsSome item → ⊥
is_none None e some = cc
is_none (Some i) e some = none-some i (sym e)

pub some_slot : {K V : Type 0} (b : K → Bool) (s : Slots K V) (at : ℕ)
    → IsSome (item_at (held b s) at) → at < length s.slots.items
some_slot {K} {V} b s at some =
    elim (cases_lt at (length s.slots.items)) [
      | inl within ↦ within
      | inr past ↦ absurd (is_none (item_at (held b s) at)
          (no_item b s at (slice_get_past s.slots.items at past)) some)
    ]

pub lent_value : {K V : Type 0} (b : K → Bool) (s : Slots K V) (at : ℕ) (slot : Slot K V) (v : V)
    → slice_get s.slots.items at ≡ Some slot → v ≡ slot.value
    → IsSome (item_at (held b s) at) → value_at (held b s) at ≡ Some v
lent_value {K} {V} b s at slot v is value some =
    by (is_empty_at b s.own at slot.key) (read_item b s at slot is)
  where
    by : (e : Bool) → item_at (held b s) at ≡ (if e then None else Some (item_of slot))
        → value_at (held b s) at ≡ Some v
    by true none = absurd (is_none (item_at (held b s) at) none some)
    by false item = ap (option_map (λ (i : K × V). i.1)) item ∙ ap Some (sym value)

pub lent_slot : {K V : Type 0} (s : Slots K V) (at : ℕ) (slot : Slot K V) (value : V)
    → slice_get s.slots.items at ≡ Some slot
    → with_slot s (Some slot) at value ≡ with_slot s (slice_get s.slots.items at) at value
lent_slot {K} {V} s at slot value is =
    ap (λ (o : Option (Slot K V)). with_slot s o at value) (sym is)

pub held_lent : {K V : Type 0} (b : K → Bool) (s : Slots K V) (at : ℕ) (value : V)
    → held b (with_slot s (slice_get s.slots.items at) at value) ≡ revalued (held b s) at value
held_lent {K} {V} b s at value = by (slice_get s.slots.items at) refl
  where
    in_slot : (slot : Slot K V) (e : Bool)
        → (if e then None else Some (item_of (with_value slot value)))
        ≡ option_map (λ (i : K × V). (i.0, value)) (if e then None else Some (item_of slot))
    in_slot slot true = refl
    in_slot slot false = refl

    by : (o : Option (Slot K V)) → slice_get s.slots.items at ≡ o
        → held b (with_slot s o at value) ≡ revalued (held b s) at value
    by None none =
        empty_again (held b s) at (no_item b s at none)
        ∙ ap (λ (i : Option (K × V)). slice_set (held b s) at
        (option_map (λ (i : K × V). (i.0, value)) i)) (sym (no_item b s at none))
    by (Some slot) is =
        set_from b s.own s.own at 0 at s.slots.items (with_value slot value) (omega arith)
        (λ q m t e apart there. refl)
        ∙ ap (λ (i : Option (K × V)). slice_set (held b s) at i)
        (in_slot slot (is_empty_at b s.own at slot.key)
        ∙ ap (option_map (λ (i : K × V). (i.0, value))) (sym (read_item b s at slot is)))
