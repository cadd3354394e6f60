-- What readers return, against what is read. Out of memory may come in place of an answer.
use Rattle.std.specs.Prelude.{◌≡◌, ℕ, List, Option, Some, None, Result, Ok, Err}
use Rattle.peers_msg.specs.declared.fault.WireCause.{WireCause}
use Rattle.peers_msg.specs.declared.fault.WireCause.TheVariants.{TooLong, BadInteger, BadField}
use Rattle.peers_msg.specs.declared.fault.WireCause.TheVariants.{NoMemory}

abbrev pub FailsAs : {A : Type 0} → WireCause → Option A → Type 0
FailsAs TooLong read = ⊥
FailsAs BadInteger read = ⊥
FailsAs BadField read = read ≡ None
FailsAs NoMemory read = Unit {0}

-- the value, or BadField exactly where there is none
abbrev pub Gives : {A : Type 0} → Result A WireCause → Option A → Type 0
Gives (Ok x) read = read ≡ Some x
Gives (Err cause) read = FailsAs cause read

-- the same, where the bytes after the value are what is left
abbrev pub GivesBefore : {A : Type 0} → Result A WireCause → List ℕ → Option (A × List ℕ) → Type 0
GivesBefore (Ok x) left read = read ≡ Some (x, left)
GivesBefore (Err cause) left read = FailsAs cause read
