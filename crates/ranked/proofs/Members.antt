-- What holds of all that is among a list.
use Rattle.std.proofs.Common.{◌≡◌, true, ◌||◌, List, [], ◌∷◌, ap}
use Rattle.std.proofs.lemmas.Bool.{or_right}
use Rattle.std.proofs.lemmas.Cmp.{tied_itself}
use Rattle.std.specs.Cmp.{IsTotalOrder}
use Rattle.std.specs.List.{AllByRecursion}
use Rattle.std.specs.Ordering.{is_eq}
use Rattle.std.specs.declared.cmp.Ordering.{Ordering}
use Rattle.fleet_model.proofs.Members.{among}

module _ {K : Type 0} (R : K → K → Ordering) (o : IsTotalOrder R) where
  -- what holds of what is among a list holds of all of it
  pub each_among : (P : K → Type 0) (xs : List K) → ((q : K) → among R q xs ≡ true → P q)
      → AllByRecursion P xs
  each_among P [] h = tt
  each_among P (x ∷ xs) h = (
    h x (ap (λ r. is_eq r || among R x xs) (tied_itself o x)),
    each_among P xs (λ q there. h q (or_right (is_eq (R q x)) (among R q xs) there)),
  )
