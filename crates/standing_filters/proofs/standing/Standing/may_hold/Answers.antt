use Rattle.std.proofs.Common.{◌≡◌, ◌+◌, ◌≤◌, ℕ, List, arith, length, map, take, sym, ap, subst, ◌∙◌}
use Rattle.standing_filters.specs.Plans.{Watching, kept_by, view_of_watch}
use Rattle.standing_filters.specs.Verdicts.{out}
use Rattle.standing_filters.specs.Watched.{AllWatched, HaveNone, Watched, verdict_at}
use Rattle.standing_filters.proofs.Unmarked.{one_more_none, whole_none}
use Rattle.standing_filters.proofs.standing.Standing.may_hold.Goals as goal

pub loop-watch-preserved : goal.loop-watch-preserved
loop-watch-preserved c =
    let key : List ℕ = c.args.key.now in
    let ws : List Watching = c.as_slice-watch-items.result.now in
    let seen : map view_of_watch ws ≡ c.args.self.now.filters =
    ap (map view_of_watch) c.as_slice-watch-items.ensures.value
    ∙ ap (λ (s : AllWatched). s.filters) c.self.view_is in
    subst (λ (l : List Watched). HaveNone key (take (c.loop-watch.watch-index + 1) l)) seen
    (one_more_none key c.loop-watch.watch-index ws _ c.loop-watch-test.true
    (subst (λ (l : List Watched). HaveNone key (take c.loop-watch.watch-index l)) (sym seen)
    c.loop-watch.invariant)
    (subst (λ (w : Watching). verdict_at (kept_by w) key ≡ out) c.watch-item.is
    (c.may_have.ensures c.if-may_have.false key (sym c.hash_of-hash.ensures))))

pub returns : goal.returns
returns c = λ none.
    let key : List ℕ = c.args.key.now in
    let ws : List Watching = c.as_slice-watch-items.result.now in
    let seen : map view_of_watch ws ≡ c.args.self.now.filters =
    ap (map view_of_watch) c.as_slice-watch-items.ensures.value
    ∙ ap (λ (s : AllWatched). s.filters) c.self.view_is in
    let end : length ws ≤ c.loop-watch.watch-index = omega (arith, c.loop-watch-test.false) in
    subst (λ (l : List Watched). HaveNone key l) seen
    (whole_none key c.loop-watch.watch-index ws end
    (subst (λ (l : List Watched). HaveNone key (take c.loop-watch.watch-index l)) (sym seen)
    c.loop-watch.invariant))
