-- What becomes of a key's rows and their plan where cells arrive at one of them.
use Rattle.std.proofs.Common.{◌≡◌, ◌≢◌, ℕ, Bool, true, false, List, Option, Some, None, refl, sym}
use Rattle.std.proofs.Common.{cond, subst, [], ap, ◌∙◌}
use Rattle.std.proofs.lemmas.Bool.{false≢true}
use Rattle.std.proofs.lemmas.Option.{none-some, same_Some}
use Rattle.std.specs.BTreeMap.{insert_entry, is_at}
use Rattle.std.specs.Cmp.Lexicographic.{slice_cmp}
use Rattle.std.specs.List.Sorted.{IsStrictlySortedBy}
use Rattle.std.specs.Map.{keys_of, lookup}
use Rattle.std.specs.Option.{option_map}
use Rattle.std.specs.Ordering.{nat_cmp}
use Rattle.std.specs.Prelude.{MatchBool, MatchOption, IsSome, IfOk, Result, Ok, Err, map}
use Rattle.place_index.specs.Places.{revalued, value_at}
use Rattle.peer_rows.specs.Arriving.{HasCome}
use Rattle.peer_rows.specs.Ends.{end_of, ArePlanned, IsEndBy}
use Rattle.peer_rows.specs.Peers.{ArePeers}
use Rattle.peer_rows.specs.Places.{Keys, Places}
use Rattle.peer_rows.specs.Table.{EachPeerOnce, IsKept, rows_in, spot_cmp}
use Rattle.peer_rows.specs.declared.arrival.Arrived.{Arrived}
use Rattle.peer_rows.specs.declared.arrival.Arrived.TheVariants as came
use Rattle.peer_rows.specs.declared.ends.Ends.{Ends}
use Rattle.peer_rows.specs.declared.row.Row.{Row}
use Rattle.peer_rows.proofs.InTime.{PeerRows, exchanged_planned}
use Rattle.peer_rows.proofs.Kept.{kept-put_held, map_some}
use Rattle.peer_rows.proofs.Peers.{are-put}

-- the rows stand by peer
pub are-arrived : (peer : ℕ) (rows new : PeerRows) (row : Row) (end : Option (Option ℕ))
    → ArePeers rows
    → MatchOption end (new ≡ rows) (λ _. new ≡ insert_entry nat_cmp rows peer row) → ArePeers new
are-arrived peer rows new row None are is = subst ArePeers (sym is) are
are-arrived peer rows new row (Some end) are is = are-put peer rows new row are is

-- a place whose row ends no sooner than the row before is planned still
pub arrived_planned : (places : Places) (at : ℕ) (rows later : PeerRows) (peer : ℕ) (new : Row)
    (end : Option ℕ) (ends : Ends) → ArePlanned places ends → value_at places at ≡ Some rows
    → later ≡ insert_entry nat_cmp rows peer new
    → option_map end_of (lookup (is_at (nat_cmp peer)) rows) ≡ Some end
    → IsEndBy end (end_of new) → ArePlanned (revalued places at later) ends
arrived_planned places at rows later peer new end ends was value put held by =
    from (lookup (is_at (nat_cmp peer)) rows) refl held
  where
    from : (o : Option Row) → lookup (is_at (nat_cmp peer)) rows ≡ o
        → option_map end_of o ≡ Some end → ArePlanned (revalued places at later) ends
    from None is ended = absurd (none-some end ended)
    from (Some back) is ended =
        exchanged_planned places at rows later peer new back true ends was value put is
        (subst (λ o. IsEndBy o (end_of new)) (sym (same_Some (end_of back) end ended)) by)

-- the counts stay, since there was a row
pub kept-arrived : (es fs : Keys) (counts : List ℕ) (key : List ℕ) (peer : ℕ)
    → IsKept es counts → IsStrictlySortedBy (slice_cmp nat_cmp) (keys_of fs) → EachPeerOnce fs
    → (row : Row) (done : Bool)
    → (done ≡ true → IsSome (lookup (is_at (spot_cmp (key, peer))) (rows_in es)))
    → MatchBool done (rows_in fs ≡ insert_entry spot_cmp (rows_in es) (key, peer) row) (fs ≡ es)
    → IsKept fs counts
kept-arrived es fs counts key peer kept ordered once row false held is =
    subst (λ (ks : Keys). IsKept ks counts) (sym is) kept
kept-arrived es fs counts key peer kept ordered once row true held is =
    from (lookup (is_at (spot_cmp (key, peer))) (rows_in es)) refl (held refl)
  where
    from : (o : Option Row) → lookup (is_at (spot_cmp (key, peer))) (rows_in es) ≡ o → IsSome o
        → IsKept fs counts
    from None e some = absurd (false≢true some)
    from (Some old) e some =
        kept-put_held es fs counts key peer kept ordered once row old is e

-- what is one of two, by whether anything was done
pub match_arrived : {X : Type 0} (new some none : X) (done : Bool) → new ≡ cond done some none
    → MatchBool done (new ≡ some) (new ≡ none)
match_arrived new some none true is = is
match_arrived new some none false is = is

-- what an answer says of rows, it says of what is made of each
module _ {A B : Type 0} (f : A → B) (rows : List A) (made : List B) (is : made ≡ map f rows) where
  came_map : (arrived : Arrived) → HasCome arrived rows → HasCome arrived made
  came_map came.New none = is ∙ ap (λ l. map f l) none
  came_map (came.Held spot) some = subst (λ (l : List B). l ≢ []) (sym is) (map_some f rows some)
  came_map came.Misfit said = said

  pub came_then : {E : Type 0} (r : Result Arrived E) → IfOk r (λ arrived. HasCome arrived rows)
      → IfOk r (λ arrived. HasCome arrived made)
  came_then (Ok arrived) said = came_map arrived said
  came_then (Err e) said = said
