-- What a read gives.
use Rattle.std.specs.Prelude.{ℕ, ◌<◌, ◌≤◌, List, [], length, take, Result, Ok, Err}
use Rattle.worker_frame.specs.declared.source.Came.{Came}
use Rattle.worker_frame.specs.declared.source.Came.TheVariants.{Bytes, Nothing, End}
use Rattle.worker_frame.specs.declared.source.ReadFailed.{ReadFailed}

-- 1 for a failed read
abbrev pub failures_in : Result Came ReadFailed → ℕ
failures_in (Ok came) = 0
failures_in (Err failed) = 1

-- the bytes that a read put at the front of its buffer
abbrev pub read_of : Result Came ReadFailed → List ℕ → List ℕ
read_of (Ok (Bytes count)) buffer = take count buffer
read_of (Ok Nothing) buffer = []
read_of (Ok End) buffer = []
read_of (Err failed) buffer = []

-- a read that gives bytes gives at least one, and no more than the buffer has room for
abbrev pub IsWithin : Result Came ReadFailed → List ℕ → Type 0
IsWithin (Ok (Bytes count)) buffer = (0 < count) × (count ≤ length buffer)
IsWithin (Ok Nothing) buffer = Unit {0}
IsWithin (Ok End) buffer = Unit {0}
IsWithin (Err failed) buffer = Unit {0}
