-- What is written of bytes that are sent.
use Rattle.std.specs.Prelude.{◌≡◌, ℕ, List, ◌++◌, Option, Result, Ok, Err}
use Rattle.std.specs.Io.KnownBytes.{Appends}
use Rattle.worker_frame.specs.declared.writing.WriteFailed.{WriteFailed}

-- some beginning of these bytes was written
pub record WroteFront (before after : Option (List ℕ)) (bytes : List ℕ) : Type 0 where
  pub front : List ℕ
  pub rest : List ℕ
  pub split : bytes ≡ front ++ rest
  pub wrote : Appends before after front

-- all of the bytes were written, or a beginning of them where a write failed
abbrev pub Sends : {A : Type 0} → Option (List ℕ) → Option (List ℕ) → List ℕ
    → Result A WriteFailed → Type 0
Sends before after bytes (Ok done) = Appends before after bytes
Sends before after bytes (Err failed) = WroteFront before after bytes
