use Rattle.std.proofs.Common.{◌≡◌, ◌∙◌, ◌∷◌, [], ◌-◌, sym, ap, ℕ, List, take, drop, length, map}
use Rattle.std.proofs.lemmas.List.{map-append}
use Rattle.peers_msg.specs.Lent.{entry_message}
use Rattle.peers_msg.proofs.Bounds.{kept_short}
use Rattle.peers_msg.proofs.Parts.{behind_all}
use Rattle.peers_msg.proofs.Readings.{so_far_more, so_far_done, so_far_faulty}
use Rattle.peers_msg.proofs.decoding.decode.Goals as goal

pub loop-entry-preserved : goal.loop-entry-preserved
loop-entry-preserved c =
    let bytes = c.args.bytes.items in
    let says = entry_message bytes in
    let entries = c.loop-entry.entries.items in
    let found = rw (c.in-Ok-Some.field-0-is, c.as_slice.ensures) at c.in-Ok-Some.ensures in (
      rw (c.in_ok-push-in-Ok-Some.ensures.items, map-append says entries (c.in-Ok-Some.entry ∷ []))
          (so_far_more bytes (drop c.loop-entry.at bytes) (drop c.in-Ok-Some.next bytes)
          (map says entries) (says c.in-Ok-Some.entry) c.loop-entry.invariant.0 found.0),
      found.2,
    )

pub whole-requires : goal.whole-requires
whole-requires c =
    let bytes = c.args.bytes.items in
    let rest = drop c.loop-entry.at bytes in
    let messages = map (entry_message bytes) c.loop-entry.entries.items in
    let first = rw (c.in-Ok-None.field-0-is, c.as_slice.ensures) at c.in-Ok-None.ensures in
    let left : c.in_ok-rest-in-Ok-None.rest.items ≡ rest = c.in_ok-rest-in-Ok-None.ensures
    ∙ ap (λ (all : List ℕ). take (length all - c.loop-entry.at) (drop c.loop-entry.at all))
    c.as_slice-in-Ok-None.ensures ∙ behind_all bytes c.loop-entry.at in
    rw left (kept_short messages rest bytes (so_far_done bytes rest messages
    c.loop-entry.invariant.0 first))

pub returns-in-Ok-None : goal.returns-in-Ok-None
returns-in-Ok-None c =
    let bytes = c.args.bytes.items in
    let rest = drop c.loop-entry.at bytes in
    let messages = map (entry_message bytes) c.loop-entry.entries.items in
    let first = rw (c.in-Ok-None.field-0-is, c.as_slice.ensures) at c.in-Ok-None.ensures in
    let left : c.in_ok-rest-in-Ok-None.rest.items ≡ rest = c.in_ok-rest-in-Ok-None.ensures
    ∙ ap (λ (all : List ℕ). take (length all - c.loop-entry.at) (drop c.loop-entry.at all))
    c.as_slice-in-Ok-None.ensures ∙ behind_all bytes c.loop-entry.at in
    rw (c.whole.ensures, c.from_vec.ensures, left)
    (sym (so_far_done bytes rest messages c.loop-entry.invariant.0 first))

pub returns-in_default : goal.returns-in_default
returns-in_default c =
    let bytes = c.args.bytes.items in
    let rest = drop c.loop-entry.at bytes in
    let messages = map (entry_message bytes) c.loop-entry.entries.items in
    let first = rw c.as_slice.ensures at c.in-Err.ensures in
    rw (c.faulty.ensures, c.from_vec-entries.ensures)
    (sym (so_far_faulty bytes rest messages c.in-Err.cause c.loop-entry.invariant.0 first
    c.in_default.not-NoMemory))
