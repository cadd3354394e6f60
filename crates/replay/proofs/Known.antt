-- A script that a source gives, where its bytes are known.
use Rattle.std.proofs.Common.{ℕ, List, [], Option, None, Some, IfSome, inl, inr, sym}
use Rattle.std.proofs.Common.{refl, append-nil}
use Rattle.std.specs.Io.KnownBytes.{Keeps}
use Rattle.std.proofs.KnownBytes.{Appends-kept}
use Rattle.replay.specs.Script.{IsReplayed, ScriptPrints}
use Rattle.replay.specs.Writing.{AppendsFront, Wrote, WroteFront}
use Rattle.replay.specs.declared.ending.Ending.{Ending}
use Rattle.replay.specs.declared.ending.Ending.TheVariants.{Failed}

-- a read or a write failed
pub cut_short : (known before after : Option (List ℕ))
    → IfSome known (λ bytes. WroteFront (ScriptPrints bytes) before after)
    → IfSome known (λ bytes. IsReplayed bytes before after Failed)
cut_short None before after h = tt
cut_short (Some bytes) before after h = inr (h, refl)

-- all was written and flushed
pub whole : (known before middle after : Option (List ℕ)) (ending : Ending)
    → IfSome known (λ bytes. Wrote (ScriptPrints bytes) before middle ending) → Keeps middle after
    → IfSome known (λ bytes. IsReplayed bytes before after ending)
whole None before middle after ending h kept = tt
whole (Some bytes) before middle after ending h kept =
    inl (record {
      text = h.text;
      appends = Appends-kept before middle after h.text h.appends kept;
      says = h.says;
    })

-- all was written, and the flush failed
pub unflushed : (known before middle after : Option (List ℕ)) (ending : Ending)
    → IfSome known (λ bytes. Wrote (ScriptPrints bytes) before middle ending) → Keeps middle after
    → IfSome known (λ bytes. IsReplayed bytes before after Failed)
unflushed None before middle after ending h kept = tt
unflushed (Some bytes) before middle after ending h kept =
    let front : AppendsFront before after h.text =
    record {
      front = h.text;
      behind = [];
      whole = sym (append-nil h.text);
      appends =
          Appends-kept before middle after h.text h.appends kept;
    } in
    inr (record { text = h.text; ending = ending; appends = front; says = h.says }, refl)
