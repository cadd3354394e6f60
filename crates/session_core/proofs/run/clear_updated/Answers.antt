use Rattle.std.proofs.Common.{◌≡◌, ◌++◌, List, false, None, [], ◌∷◌, take, map, get_or, refl, sym}
use Rattle.std.proofs.Common.{ap, ◌∙◌, arith}
use Rattle.std.proofs.Math.Seq.{map-set_same}
use Rattle.std.proofs.lemmas.List.{take_more_set, take_all, map-append}
use Rattle.session_core.specs.declared.track.Entry.{Entry}
use Rattle.session_core.specs.Run.{settled, settled_entry}
use Rattle.session_core.proofs.run.clear_updated.Goals as goal

settled_more : (front : List Entry) (entry : Entry) → front ≡ map settled_entry front
    → front ++ settled_entry entry ∷ [] ≡ map settled_entry (front ++ settled_entry entry ∷ [])
settled_more front entry same = ap (λ xs. xs ++ settled_entry entry ∷ []) same
    ∙ sym (map-append settled_entry front (settled_entry entry ∷ []))

pub loop-entry-preserved : goal.loop-entry-preserved
loop-entry-preserved c = (
  map-set_same settled_entry c.loop-entry.entries c.loop-entry.entry-index _
      _ refl ∙ c.loop-entry.invariant.0,
  rw (take_more_set c.loop-entry.entries c.loop-entry.entry-index _ (omega arith))
      (settled_more _ (get_or c.loop-entry.entries c.loop-entry.entry-index
      (record { id = 0; last = 0; updated = false; followed = None })) c.loop-entry.invariant.1),
)

pub returns : goal.returns
unfolding settled
returns c =
    let whole : take c.loop-entry.entry-index c.loop-entry.entries ≡ c.loop-entry.entries =
    take_all c.loop-entry.entry-index c.loop-entry.entries (omega arith) in
    let same = rw whole at c.loop-entry.invariant.1 in
    same ∙ c.loop-entry.invariant.0
