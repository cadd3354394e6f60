use Rattle.std.proofs.Common.{◌≡◌, ℕ, suc, ◌+◌, ◌<◌, List, ◌∷◌, ◌++◌, drop, get_or, length, ap, ◌∙◌}
use Rattle.std.proofs.Common.{subst, sym, append_assoc, drop-cons, add-one}
use Rattle.agg_types.specs.declared.config.Filter.{Filter}
use Rattle.agg_types.specs.declared.config.Logged.{Logged}
use Rattle.logged_keys.specs.Telling.{logged_place, logged_places}
use Rattle.logged_keys.proofs.keys.LoggedKeys.new.Goals as goal

-- one more is found
one_more : (filters : List Filter) (logs : List Logged) (i : ℕ) (logged : Logged)
    (so more : List ℕ) → i < length logs → logged ≡ get_or logs i logged
    → more ≡ so ++ logged_place filters logged
    → so ++ logged_places filters (drop i logs) ≡ logged_places filters logs
    → more ++ logged_places filters (drop (i + 1) logs) ≡ logged_places filters logs
one_more filters logs i logged so more inside is next all =
    let rest = logged_places filters (drop (i + 1) logs) in
    let first : drop i logs ≡ logged ∷ drop (i + 1) logs =
    rw add-one (drop-cons logs i logged inside ∙ ap (λ l. l ∷ drop (suc i) logs) (sym is)) in
    ap (λ l. l ++ rest) next ∙ (append_assoc so (logged_place filters logged) rest
    ∙ (ap (λ l. so ++ logged_places filters l) (sym first) ∙ all))

pub loop-logged-preserved : goal.loop-logged-preserved
loop-logged-preserved c =
    let logs = c.args.config.now.logs in
    let same : c.as_slice-logged-items.result.now ≡ logs = c.as_slice-logged-items.ensures in
    one_more c.args.config.now.filters logs c.loop-logged.logged-index c.logged-item.result
    c.loop-logged.filters.items c.add.new.places.items
    (subst (λ (l : List Logged). c.loop-logged.logged-index < length l) same
    c.loop-logged-test.true)
    (c.logged-item.is ∙ ap (λ (l : List Logged). get_or l c.loop-logged.logged-index
    c.logged-item.result) same) c.in_ok-add.ensures c.loop-logged.invariant
