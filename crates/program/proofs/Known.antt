-- What is known of streams behind a read or a write.
use Rattle.std.proofs.Common.{◌≡◌, ℕ, List, Option, None, Some, Result, Ok, Err, IfSome}
use Rattle.std.proofs.Common.{OnOk, subst}
use Rattle.std.specs.Io.KnownBytes.{Appends, Keeps}
use Rattle.std.proofs.KnownBytes.{Appends-kept}

-- a text that was written stands behind a flush too
pub flushed : {A E : Type 0} (result : Result A E) (before middle after : Option (List ℕ))
    (text : List ℕ) → Appends before middle text → Keeps middle after
    → OnOk result (Appends before after text)
flushed (Ok value) before middle after text appends kept =
    Appends-kept before middle after text appends kept
flushed (Err error) before middle after text appends kept = tt

-- what is said of the bytes that were read is said of those that were there
pub of_known : (known : Option (List ℕ)) (bytes : List ℕ) (Says : List ℕ → Type 0)
    → IfSome known (λ xs. bytes ≡ xs) → Says bytes → IfSome known Says
of_known None bytes Says knows says = tt
of_known (Some xs) bytes Says knows says = subst Says knows says
