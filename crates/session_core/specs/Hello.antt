-- The hello that opens a session: three lines, each judged as soon as it is whole.
use Rattle.std.specs.Prelude.{ℕ, ◌+◌, ◌-◌, Bool, true, false, nat_lt, ◌==◌, ◌||◌, if◌then◌else◌}
use Rattle.std.specs.Prelude.{List, length, take, drop, codes, position, slice_get, Option, Some}
use Rattle.std.specs.Prelude.{None, Result, Ok, Err}
use Rattle.std.specs.Option.{option_map_or}
use Rattle.std.specs.Str.{bytes_eq}
use Rattle.agg_types.specs.declared.limits.TheConstants.{LONGEST_HELLO_LINE}
use Rattle.session_core.specs.declared.cause.Status.{Status}
use Rattle.session_core.specs.declared.cause.Status.TheVariants.{TryLater, Protocol, Version}
use Rattle.session_core.specs.declared.cause.Status.TheVariants.{LocalName, RemoteName}

infixl 10 ◌>>=◌
-- goes on with what is there; waits where it isn't there yet, and stops at a refusal
abbrev pub ◌>>=◌ : {A B : Type 0} → Result (Option A) Status → (A → Result (Option B) Status)
    → Result (Option B) Status
(Ok (Some x)) >>= f = f x
(Ok None) >>= f = Ok None
(Err status) >>= f = Err status

-- an answer whose slices are read
abbrev pub seen : {X Y : Type 0} → (X → Y) → Result (Option X) Status → Result (Option Y) Status
seen view (Ok (Some x)) = Ok (Some (view x))
seen view (Ok None) = Ok None
seen view (Err status) = Err status

-- a line without one CR at its end
abbrev pub without_cr : List ℕ → List ℕ
without_cr line =
    if option_map_or (λ byte. byte == 13) (slice_get line (length line - 1)) false
    then take (length line - 1) line else line

-- a line that is not too long before its LF, and the bytes after the LF
abbrev pub split_line : List ℕ → Option ℕ → Result (Option (List ℕ × List ℕ)) Status
split_line bytes None = if nat_lt LONGEST_HELLO_LINE (length bytes) then Err Protocol else Ok None
split_line bytes (Some end) =
    if nat_lt LONGEST_HELLO_LINE end then Err Protocol
    else Ok (Some (without_cr (take end bytes), drop (end + 1) bytes))

unfoldable pub line_at : List ℕ → Result (Option (List ℕ × List ℕ)) Status
line_at bytes = split_line bytes (position (λ byte. byte == 10) bytes)

-- what is wrong with the first line
unfoldable pub version_fault : List ℕ → Option Status
version_fault line =
    if bytes_eq (take 9 line) (codes "HAProxyS ")
    then (if bytes_eq (drop 9 line) (codes "2.0") || bytes_eq (drop 9 line) (codes "2.1") then None
    else Some Version) else Some Protocol

-- the name at the front of the third line, up to its first space
abbrev pub sender_of : List ℕ → List ℕ
sender_of line = option_map_or (λ end. take end line) (position (λ byte. byte == 32) line) line

-- the position of the peer that has this name
abbrev pub peer_of : List (List ℕ) → List ℕ → Option ℕ
peer_of peers sender = position (λ peer. bytes_eq peer sender) peers

-- a configured peer that has a seat
abbrev pub admitted : Bool → List ℕ → Option ℕ → Result (Option (ℕ × List ℕ)) Status
admitted seated rest None = Err RemoteName
admitted false rest (Some peer) = Err TryLater
admitted true rest (Some peer) = Ok (Some (peer, rest))

-- from the third line on
unfoldable pub sender_line : List (List ℕ) → Bool → List ℕ → Result (Option (ℕ × List ℕ)) Status
sender_line peers seated bytes = do
  line ← line_at bytes
  admitted seated line.1 (peer_of peers (sender_of line.0))

-- from the second line on
unfoldable pub receiver_line : List ℕ → List (List ℕ) → Bool → List ℕ
    → Result (Option (ℕ × List ℕ)) Status
receiver_line me peers seated bytes = do
  line ← line_at bytes
  if bytes_eq me line.0 then sender_line peers seated line.1 else Err LocalName

abbrev pub unless : Option Status → Result (Option (ℕ × List ℕ)) Status
    → Result (Option (ℕ × List ℕ)) Status
unless None next = next
unless (Some fault) next = Err fault

-- the peer that a hello to this receiver names, and the bytes after the hello; None where the hello
-- isn't whole
unfoldable pub hello_of : List ℕ → List (List ℕ) → Bool → List ℕ
    → Result (Option (ℕ × List ℕ)) Status
hello_of me peers seated bytes = do
  line ← line_at bytes
  unless (version_fault line.0) (receiver_line me peers seated line.1)
