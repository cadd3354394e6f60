use Rattle.std.proofs.Common.{◌≡◌, ◌+◌, ◌∷◌, drop, refl, ap, sym, ◌∙◌}
use Rattle.std.proofs.lemmas.List.{drop_more}
use Rattle.standing_filters.specs.Plans.{kept_by}
use Rattle.standing_filters.specs.Verdicts.{out}
use Rattle.standing_filters.specs.Watched.{verdict_at}
use Rattle.standing_filters.proofs.Forgotten.{left_less, verdict_left}
use Rattle.standing_filters.proofs.Said.{at_none, at_then, noted_becomes}
use Rattle.standing_filters.proofs.forgetting.forget_keys.Goals as goal

pub loop-key-init : goal.loop-key-init
loop-key-init c = record {
  watch = c.requires.watch;
  filter = refl;
  kept = λ q. refl;
  flips = λ known. at_none c.args.at (λ key. (verdict_at (kept_by c.args.watch.now) key).holds)
      c.args.flips.now known;
}

pub loop-key-preserved : goal.loop-key-preserved
loop-key-preserved c =
    let keys = c.args.keys.now in
    let old = c.loop-key.watch in
    let new = c.forget-held.new.self in
    let at = c.loop-key.key-index in
    let key = c.key-item.result in
    let rest = drop (at + 1) keys in
    let split : drop at keys ≡ key ∷ rest = drop_more keys at key c.loop-key-test.true
    ∙ ap (λ item. item ∷ rest) (sym c.key-item.is) in
    let becomes = c.forget-held.ensures.kept in
    record {
      watch = c.forget-held.ensures.stay;
      filter = c.forget-held.ensures.filter ∙ c.loop-key.invariant.filter;
      kept = λ q. left_less key rest (kept_by old) (kept_by new) becomes q
          ∙ ap (λ l. verdict_left l (kept_by old) q) (sym split) ∙ c.loop-key.invariant.kept q;
      flips = λ known.
          let noted = c.note.ensures known in
          at_then c.args.at (λ q. (verdict_at (kept_by c.args.watch.now) q).holds)
          (λ q. (verdict_at (kept_by old) q).holds) (λ q. (verdict_at (kept_by new) q).holds)
          c.args.flips.now c.loop-key.flips c.note.new.self
          (c.loop-key.invariant.flips noted.known)
          (noted_becomes c.args.at key out c.forget-held.result (kept_by old) (kept_by new)
          c.loop-key.flips c.note.new.self noted c.forget-held.ensures.was becomes);
    }
