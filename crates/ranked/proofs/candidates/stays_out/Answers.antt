use Rattle.std.proofs.Common.{◌≡◌, ◌-◌, Bool, true, false, not, length, get_or, map, take, refl, ap}
use Rattle.std.proofs.Common.{sym, ◌∙◌, arith}
use Rattle.std.proofs.lemmas.List.{length-map}
use Rattle.std.specs.Ordering.{is_lt}
use Rattle.fleet_model.specs.Ranking.{put_in_order, rank_cmp}
use Rattle.ranked.specs.Walk.{view_of_candidate}
use Rattle.ranked.proofs.Standing.{before_none, put_last}
use Rattle.ranked.proofs.candidates.stays_out.Goals as goal

not_true : (b : Bool) → not b ≡ true → b ≡ false
not_true true h = cc
not_true false h = refl

pub returns : goal.returns
returns c h =
    let cs = c.args.candidates.now in
    let x = view_of_candidate c.args.key in
    let behind : is_lt (rank_cmp x (view_of_candidate
    (get_or cs (length cs - 1) c.index-candidates-len.result))) ≡ false =
    ap (λ w. is_lt (rank_cmp x (view_of_candidate w))) (sym c.index-candidates-len.is)
    ∙ sym c.comes_before.ensures ∙ not_true c.comes_before.result h in
    let all = before_none view_of_candidate x cs (length cs - 1) c.index-candidates-len.result
    c.requires.ranked (omega (arith, c.if-len-eq0.false)) behind in
    let same : c.args.room ≡ length cs = omega (arith, c.requires.kept, c.if-len-room.false) in
    ap (λ n. take n (put_in_order rank_cmp x (map view_of_candidate cs)))
    (same ∙ sym (length-map cs view_of_candidate))
    ∙ put_last x (map view_of_candidate cs) all
