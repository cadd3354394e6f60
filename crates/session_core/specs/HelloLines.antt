-- A hello as whole lines: a line and its LF, three times, of which the first faulty one decides.
use Rattle.std.specs.Prelude.{◌≡◌, ◌≢◌, ◌⊎◌, ℕ, ◌<◌, ◌≤◌, Bool, List, ◌∷◌, ◌++◌, length}
use Rattle.std.specs.Prelude.{MatchOption, Option, Some, None, Result, Ok, Err, if◌then◌else◌}
use Rattle.std.specs.List.{AllByRecursion}
use Rattle.std.specs.Str.{bytes_eq}
use Rattle.agg_types.specs.declared.limits.TheConstants.{LONGEST_HELLO_LINE}
use Rattle.session_core.specs.declared.cause.Status.{Status}
use Rattle.session_core.specs.declared.cause.Status.TheVariants.{TryLater, Protocol, LocalName}
use Rattle.session_core.specs.declared.cause.Status.TheVariants.{RemoteName}
use Rattle.session_core.specs.Hello.{peer_of, sender_of, version_fault, without_cr}

-- the peer and the bytes after the hello; None where the hello isn't whole; or why it is refused
abbrev pub Verdict : Type 0
Verdict = Result (Option (ℕ × List ℕ)) Status

abbrev pub HasNoLf : List ℕ → Type 0
HasNoLf bytes = AllByRecursion (λ byte. byte ≢ 10) bytes

-- the bytes are a line that is not too long, its LF, and a rest; a CR before the LF is no part of
-- it
abbrev pub HasLine : List ℕ → List ℕ → List ℕ → Type 0
HasLine bytes line rest =
    (sent : List ℕ) × (bytes ≡ sent ++ 10 ∷ rest) × HasNoLf sent
    × (length sent ≤ LONGEST_HELLO_LINE)
    × (line ≡ without_cr sent)

-- 257 bytes without LF stand at the front
abbrev pub HasLongLine : List ℕ → Type 0
HasLongLine bytes =
    (front more : List ℕ) × (bytes ≡ front ++ more) × HasNoLf front
    × (LONGEST_HELLO_LINE < length front)

-- the line isn't whole yet
abbrev pub IsCutLine : List ℕ → Type 0
IsCutLine bytes = HasNoLf bytes × (length bytes ≤ LONGEST_HELLO_LINE)

-- The line at the front decides where it is too long, not yet whole or at fault. Where it is sound,
-- what follows it does.
abbrev pub Decides : (List ℕ → Option Status) → (List ℕ → List ℕ → Verdict → Type 0) → List ℕ
    → Verdict → Type 0
Decides fault next bytes verdict =
    (HasLongLine bytes × (verdict ≡ Err Protocol))
    ⊎ ((IsCutLine bytes × (verdict ≡ Ok None))
    ⊎ ((line rest : List ℕ) × HasLine bytes line rest
    × MatchOption (fault line) (next line rest verdict) (λ status. verdict ≡ Err status)))

-- the second line is the receiver's name
abbrev pub receiver_fault : List ℕ → List ℕ → Option Status
receiver_fault me line = if bytes_eq me line then None else Some LocalName

-- the third line begins with a peer's name, which has a seat
abbrev pub SenderDecides : List (List ℕ) → Bool → List ℕ → List ℕ → Verdict → Type 0
SenderDecides peers seated line rest verdict =
    MatchOption (peer_of peers (sender_of line)) (verdict ≡ Err RemoteName)
    (λ peer. verdict ≡ (if seated then Ok (Some (peer, rest)) else Err TryLater))

-- the verdict of a hello to this receiver
abbrev pub HelloDecides : List ℕ → List (List ℕ) → Bool → List ℕ → Verdict → Type 0
HelloDecides me peers seated bytes verdict =
    Decides version_fault
    (λ first more. Decides (receiver_fault me)
    (λ second others. Decides (λ third. None) (SenderDecides peers seated) others) more) bytes
    verdict
