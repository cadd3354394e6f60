-- The rows of one key, by peer, and what is foretold of it.
use Rattle.std.proofs.Common.{◌≡◌, ℕ, ◌+◌, ◌≤◌, true, List, [], ◌∷◌, Option, None, Some}
use Rattle.std.proofs.Common.{length, map, refl, sym, ap, ◌∙◌, subst, arith}
use Rattle.std.proofs.lemmas.List.{length-map}
use Rattle.agg_types.specs.declared.column.Col.{Col}
use Rattle.agg_types.specs.declared.config.Filter.{Filter}
use Rattle.crossing.specs.First.{IsFirstFrom}
use Rattle.fleet_model.specs.Answers.{rows_of}
use Rattle.fleet_model.specs.Changes.{IsKeyChange}
use Rattle.fleet_model.specs.Keys.{AreLiveAt, Rows, is_at_key, key_rows}
use Rattle.fleet_model.specs.Moments.{is_live}
use Rattle.fleet_model.specs.Sound.{IsSound}
use Rattle.fleet_model.specs.State.{State}
use Rattle.fleet_model.proofs.Every.{every-filter}
use Rattle.fleet_model.proofs.KeyRows.{all-stay, of-rows}
use Rattle.peer_rows.specs.declared.row.Row.{Row}
use Rattle.standing_filters.specs.Verdicts.{Foretells, IsVerdict, holds_at, meets_at}
use Rattle.standing_filters.specs.declared.judging.Verdict.{Verdict}
use Rattle.book.specs.ByPeer.{kept_row, kept_rows, peer_row}
use Rattle.book.specs.Foretold.{IsForetold}
use Rattle.book.specs.OneKey.{KeyOf, key_of, living_of_key, sums_of}
use Rattle.book_rows.specs.Shown.{of_peer}
use Rattle.book_rows.specs.Store.{AreRowsOf}
use Rattle.book.specs.Verdicts.{living_in, sums_in}
use Rattle.book_machine.proofs.Foresight.{bool_same}
use Rattle.book.proofs.Judging.{holds_in}

-- ---- the rows of a key

-- wherever they stand, they say the same
told_alike : (cols : List (Col × ℕ)) (t table : ℕ) (key : List ℕ) (found : List (ℕ × Row))
    → map (kept_row cols t) found ≡ map (peer_row cols t) (map (of_peer table key) found)
told_alike cols t table key [] = refl
told_alike cols t table key (row ∷ found) =
    ap (λ more. kept_row cols t row ∷ more) (told_alike cols t table key found)

pub count_told : (cols : List (Col × ℕ)) (t : ℕ) (found : List (ℕ × Row))
    → length (map (kept_row cols t) found) ≡ length found
count_told cols t found = length-map found (kept_row cols t)

pub rows_told : (cols : List (Col × ℕ)) (t : ℕ) (rows : Rows) (table : ℕ) (key : List ℕ)
    (found : Option (List (ℕ × Row))) → AreRowsOf rows table key found
    → kept_rows cols t found ≡ map (peer_row cols t) (key_rows rows table key)
rows_told cols t rows table key None none = ap (map (peer_row cols t)) (sym none)
rows_told cols t rows table key (Some found) are =
    told_alike cols t table key found ∙ ap (map (peer_row cols t)) are

-- all rows of a state live
pub live_rows : (state : State) (table : ℕ) (key : List ℕ) → AreLiveAt state.moment state.rows
    → rows_of state table key ≡ key_rows state.rows table key
live_rows state table key live =
    of-rows state table key
    ∙ all-stay (λ row. is_live state.moment row.1) (key_rows state.rows table key)
    (every-filter (λ row. is_live state.moment row.1 ≡ true) (λ row. is_at_key table key row.0)
    state.rows live)

-- ---- a verdict

-- the first moment at which the values say otherwise is the first at which the filter does
turns : (state : State) (filtering : Filter) (key : List ℕ) (next : Option ℕ) → IsSound state
    → IsFirstFrom (state.moment + 1)
    (λ t. holds_at (sums_in state) (living_in state) filtering key t
    ≡ holds_at (sums_in state) (living_in state) filtering key state.moment → ⊥) next
    → IsKeyChange state filtering key next
turns state filtering key None sound first = λ t later.
    sym (holds_in state filtering key t sound)
    ∙ bool_same _ _ (λ differs. first t (omega arith) differs)
    ∙ holds_in state filtering key state.moment sound
turns state filtering key (Some t) sound first =
    let since : state.moment + 1 ≤ t = first.since in
    record {
      later = omega arith;
      differs = λ same. first.holds (holds_in state filtering key t sound ∙ same
          ∙ sym (holds_in state filtering key state.moment sound));
      same_before = λ u later before. sym (holds_in state filtering key u sound)
          ∙ bool_same _ _ (λ differs. first.not_before u (omega arith) before differs)
          ∙ holds_in state filtering key state.moment sound;
    }

-- what is judged by the values of the key alone is foretold of the state
pub foretold : (state : State) (filtering : Filter) (key : List ℕ) (of : KeyOf) (now : ℕ)
    (verdict : Verdict) → IsSound state → now ≡ state.moment
    → of ≡ key_of state filtering.table key
    → IsVerdict (λ t k. sums_of of) (λ t k. living_of_key of) filtering now key verdict
    → IsForetold state filtering key verdict
foretold state filtering key of now verdict sound moment is told =
    let its : IsVerdict (sums_in state) (living_in state) filtering state.moment key verdict =
    subst (λ (v : KeyOf). Foretells (λ t. meets_at (λ other k. sums_of v)
    (λ other k. living_of_key v) filtering.table filtering.conds key t) state.moment verdict) is
    (subst (λ (t : ℕ). IsVerdict (λ other k. sums_of of) (λ other k. living_of_key of) filtering t
    key verdict) moment told) in
    record {
      holds = its.holds ∙ holds_in state filtering key state.moment sound;
      next = turns state filtering key verdict.next sound its.next;
    }
