-- Room for judgements of keys, from filter to filter.
use Rattle.std.proofs.Common.{◌≡◌, ◌≤◌, ◌<◌, ◌+◌, ◌-◌, ◌==◌, ◌⊎◌, ◌∷◌, ◌∙◌, [], ℕ, zero, suc, Bool}
use Rattle.std.proofs.Common.{true, false, List, Some, ap, arith, cond, inl, inr, length, refl}
use Rattle.std.proofs.Common.{subst}
use Rattle.std.specs.Prelude.{map, slice_get, unwrap_or}
use Rattle.std.specs.List.{AllByRecursion}
use Rattle.std.proofs.lemmas.List.Sums.{sum_by-cons}
use Rattle.standing_filters.specs.Plans.{Watching, view_of_watch}
use Rattle.std.proofs.lemmas.Option.{none-some, same_Some}
use Rattle.agg_types.specs.Key.{is_short}
use Rattle.standing_filters.specs.Ready.{AreCopies, AreReady, HaveRoom, IsRoomFor, copied_of}
use Rattle.standing_filters.specs.Ready.{ready_of}
use Rattle.standing_filters.specs.Watched.{Watched, filters_of}

with_first : (table : ℕ) (w : Watching) (rest : List Watching)
    → filters_of table (map view_of_watch (w ∷ rest))
    ≡ cond (w.filter.table == table) 1 0 + filters_of table (map view_of_watch rest)
with_first table w rest = sum_by-cons (λ (v : Watched). cond (v.filter.table == table) 1 0)
    (view_of_watch w) (map view_of_watch rest)

-- how many filters of a table there are, with one that isn't of it before them
pub not_counted : (table : ℕ) (all : List Watching) (w : Watching) (rest : List Watching)
    → all ≡ w ∷ rest → (w.filter.table == table) ≡ false
    → filters_of table (map view_of_watch all) ≡ filters_of table (map view_of_watch rest)
not_counted table all w rest is apart =
    let step : filters_of table (map view_of_watch all)
    ≡ 0 + filters_of table (map view_of_watch rest) =
    ap (λ ws. filters_of table (map view_of_watch ws)) is ∙ with_first table w rest
    ∙ ap (λ b. cond b 1 0 + filters_of table (map view_of_watch rest)) apart in
    omega (step, arith)

-- and with one that is
pub counted : (table : ℕ) (all : List Watching) (w : Watching) (rest : List Watching)
    → all ≡ w ∷ rest → (w.filter.table == table) ≡ true
    → filters_of table (map view_of_watch all) ≡ 1 + filters_of table (map view_of_watch rest)
counted table all w rest is of = ap (λ ws. filters_of table (map view_of_watch ws)) is
    ∙ with_first table w rest
    ∙ ap (λ b. cond b 1 0 + filters_of table (map view_of_watch rest)) of

-- copies enough for some are enough for no more
pub copies_for : (key : List ℕ) (more less : ℕ) (copies : List (List ℕ)) → more ≡ less
    → AreCopies key more copies → AreCopies key less copies
copies_for key more less copies is ready = record {
  all = ready.all;
  enough = omega (ready.enough, is, arith);
}

-- the first of some copies of a key
pub first_copy : (key : List ℕ) (copies : List (List ℕ)) → 0 < length copies
    → AllByRecursion (λ copy. copy ≡ key) copies → unwrap_or (slice_get copies 0) [] ≡ key
first_copy key [] some all = absurd (omega (some, arith))
first_copy key (copy ∷ copies) some all = all.0

-- ---- for how many judgements there is room
pub less_room : (less more table : ℕ) (watches : List Watching) → less ≤ more
    → HaveRoom more table watches → HaveRoom less table watches
less_room less more table [] below all = tt
less_room less more table (w ∷ watches) below all =
    ((λ of. omega (all.0 of, below, arith)), less_room less more table watches below all.1)

-- a judgement takes room for one
pub one_less : (table sure less : ℕ) (old new : List Watching)
    → ((count other : ℕ) → HaveRoom (count + 1) other old → HaveRoom count other new)
    → less ≡ sure - 1 → (0 < sure → HaveRoom sure table old)
    → 0 < less → HaveRoom less table new
one_less table sure less old new left is room some =
    left less table (less_room (less + 1) sure table old (omega (is, some, arith))
    (room (omega (is, some, arith))))

-- ---- what is ready
pub ready_sure : (table sure : ℕ) → 0 < sure → ready_of table sure ≡ Some table
ready_sure table zero some = absurd (omega (some, arith))
ready_sure table (suc sure) some = refl

pub sure_ready : (own sure table : ℕ) → ready_of own sure ≡ Some table
    → (0 < sure) × (own ≡ table)
sure_ready own zero table is = absurd (none-some table is)
sure_ready own (suc sure) table is = (omega arith, same_Some own table is)

pub copied_key : (is_copied : Bool) (copies : List (List ℕ)) (key : List ℕ)
    → copied_of is_copied copies ≡ Some key
    → (is_copied ≡ true) × (unwrap_or (slice_get copies 0) [] ≡ key)
copied_key false copies key is = absurd (none-some key is)
copied_key true copies key is = (refl, same_Some (unwrap_or (slice_get copies 0) []) key is)

-- there is room for a key that is ready
pub room_of : (own sure : ℕ) (is_copied : Bool) (copies : List (List ℕ)) (watches : List Watching)
    (table : ℕ) (key : List ℕ) → (ready_of own sure ≡ Some table)
    × ((is_short key ≡ true) ⊎ (copied_of is_copied copies ≡ Some key))
    → AreReady own sure is_copied copies watches → IsRoomFor table key copies watches
room_of own sure is_copied copies watches table key ready are =
    let of = sure_ready own sure table ready.0 in record {
      room = subst (λ t. HaveRoom 1 t watches) of.1 (less_room 1 sure own watches
          (omega (of.0, arith)) (are.room of.0));
      copied = elim ready.1 [
        | inl short ↦ inl short
        | inr same ↦ let made = copied_key is_copied copies key same in
            inr (subst (λ t. AreCopies key (filters_of t (map view_of_watch watches)) copies) of.1
            (subst (λ k. AreCopies k (filters_of own (map view_of_watch watches)) copies) made.1
            (are.copied made.0)))
      ];
    }
