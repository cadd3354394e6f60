-- Keys whose verdicts change up to a moment, and what is read for them.
use Rattle.std.proofs.Common.{◌≡◌, ℕ, ◌<◌, ◌≤◌, true, false, List, [], ◌∷◌, Option, None}
use Rattle.std.proofs.Common.{Some, length, refl, sym, subst, arith}
use Rattle.std.specs.Prelude.{map}
use Rattle.std.proofs.lemmas.Bool.{false≢true, leb-false, leb-true}
use Rattle.std.proofs.lemmas.List.Sums.{sum_by-cons}
use Rattle.std.specs.List.{AllZip, IsDistinct}
use Rattle.place_index.proofs.Ordered.{is_itself, same_if_at}
use Rattle.standing_filters.specs.Plans.{Watching, view_of_watch}
use Rattle.standing_filters.specs.Turns.{AreDue, AreReadFor, IsReadFor, has_come, same_key}
use Rattle.standing_filters.specs.Watched.{Watched}

-- ---- keys that are the same
pub one_key : (key other : List ℕ) → same_key key other ≡ true → key ≡ other
one_key key other same = same_if_at key other same

pub key_itself : (key : List ℕ) → same_key key key ≡ true
key_itself key = is_itself key

-- ---- moments that have come
pub due_moment : (t : ℕ) (o : Option ℕ) → has_come t o ≡ true → (u : ℕ) × (o ≡ Some u) × (u ≤ t)
due_moment t None come = absurd (false≢true come)
due_moment t (Some u) come = (u, refl, leb-true u t come)

pub not_come : (t u : ℕ) → has_come t (Some u) ≡ false → t < u
not_come t u stays = leb-false u t stays

-- ---- what was read for all filters
none_due : (t : ℕ) (ws : List Watched) → AllZip (λ w ks. AreDue t w ks) ws (map (λ w. []) ws)
unfolding IsDistinct
none_due t [] = tt
none_due t (w ∷ ws) = (record { due = tt; apart = tt }, none_due t ws)

pub none_read : (t : ℕ) (ws : List Watched) (count : ℕ) → AreReadFor t ws count count
none_read t ws count = record {
  keys = map (λ w. []) ws;
  due = none_due t ws;
  few = omega arith;
}

pub more_read : (t : ℕ) (watches : List Watching) (first : Watching) (rest : List Watching)
    (before between after : ℕ) → watches ≡ first ∷ rest
    → AreReadFor t (map view_of_watch rest) before between
    → IsReadFor t (view_of_watch first) between after
    → AreReadFor t (map view_of_watch watches) before after
more_read t watches first rest before between after is others own =
    let all = sum_by-cons (λ (ks : List (List ℕ)). length ks) own.keys others.keys in
    record {
      keys = own.keys ∷ others.keys;
      due = subst (λ (l : List Watching). AllZip (λ w ks. AreDue t w ks) (map view_of_watch l)
          (own.keys ∷ others.keys)) (sym is) (own.due, others.due);
      few = omega (arith, own.few, others.few, all);
    }
