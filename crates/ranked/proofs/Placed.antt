-- Bounds in places, as a key's is given, becomes another or goes.
use Rattle.std.proofs.Common.{◌≡◌, ℕ, Bool, cond, List, Option, Some, None, sym, ap}
use Rattle.std.proofs.Common.{◌∙◌, subst}
use Rattle.std.specs.Prelude.{slice_set}
use Rattle.std.specs.Option.{option_map}
use Rattle.place_index.specs.Places.{AreDistinct, IsAbsent, in_order, item_at, key_at, laid}
use Rattle.place_index.specs.Places.{revalued}
use Rattle.place_index.proofs.Ordered.{is_itself, lookup-emptied, lookup-laid, lookup-revalued}
use Rattle.ranked.specs.Bounds.{AreOthersKept, zeros_at}
use Rattle.ranked.specs.Walk.{bound_of}
use Rattle.ranked.proofs.Indexed.{Becomes}

abbrev KeyBounds : Type 0
KeyBounds = List (List ℕ × ℕ)

abbrev KeyPlaces : Type 0
KeyPlaces = List (Option (List ℕ × ℕ))

-- ---- what becomes of a key's bound, and of others
module _ (old new : KeyBounds) (key : List ℕ) (zeros : Option ℕ)
    (becomes : Becomes old new key zeros) where
  pub becomes_own : zeros_at new key ≡ zeros
  becomes_own = becomes key ∙ ap (λ (b : Bool). cond b zeros (zeros_at old key)) (is_itself key)

  pub becomes_others : AreOthersKept key old new
  becomes_others = λ other apart. ap (option_map bound_of)
      (becomes other ∙ ap (λ (b : Bool). cond b zeros (zeros_at old other)) apart)

-- ---- as a place changes
module _ (old new : KeyPlaces) (at : ℕ) (key : List ℕ) where
  pub placed-laid : (own : List ℕ) (zeros : ℕ) → own ≡ key → IsAbsent old key
      → item_at old at ≡ None → new ≡ laid old at (Some (own, zeros))
      → Becomes (in_order old) (in_order new) key (Some zeros)
  placed-laid own zeros same absent empty is =
      subst (λ (places : KeyPlaces). Becomes (in_order old) (in_order places) key (Some zeros))
      (sym (is ∙ ap (λ (k : List ℕ). laid old at (Some (k, zeros))) same))
      (lookup-laid old at key zeros absent empty)

  pub placed-revalued : (zeros : ℕ) → AreDistinct old → key_at old at ≡ Some key
      → new ≡ revalued old at zeros → Becomes (in_order old) (in_order new) key (Some zeros)
  placed-revalued zeros distinct own is =
      subst (λ (places : KeyPlaces). Becomes (in_order old) (in_order places) key (Some zeros))
      (sym is) (lookup-revalued old at key zeros distinct own)

  pub placed-emptied : AreDistinct old → key_at old at ≡ Some key
      → new ≡ slice_set old at None → Becomes (in_order old) (in_order new) key None
  placed-emptied distinct own is =
      subst (λ (places : KeyPlaces). Becomes (in_order old) (in_order places) key None)
      (sym is) (lookup-emptied old at key distinct own)
