-- The exit statuses and the texts of command lines that ask for no job.
use Rattle.std.specs.Prelude.{◌≡◌, ◌≢◌, ℕ, List, [], codes, Option, None, Some}
use Rattle.clap.specs.Values.{kind_of}
use Rattle.clap.specs.declared.error.Error.{Error}
use Rattle.clap.specs.declared.error.kind.ErrorKind.{ErrorKind}
use Rattle.clap.specs.declared.error.kind.ErrorKind.TheVariants as kind
use Rattle.command_line.specs.declared.usage.PlaceOption.{PlaceOption}
use Rattle.command_line.specs.declared.usage.PlaceOption.TheVariants as option
use Rattle.command_line.specs.declared.usage.Usage.{Usage}
use Rattle.command_line.specs.declared.usage.Usage.TheVariants.{Words, BadAddress, NoAdmin}
use Rattle.command_line.specs.declared.usage.Usage.TheVariants.{BadUnknownPeers, BadHost, TwoFiles}
use Rattle.command_line.specs.declared.usage.Usage.TheVariants.{NoMemory}

-- help and the version are no mistake
abbrev pub kind_status : ErrorKind → ℕ
kind_status kind.DisplayHelp = 0
kind_status kind.DisplayVersion = 0
kind_status _ = 2

abbrev pub status_of : Usage → ℕ
status_of (Words error) = kind_status (kind_of error)
status_of (BadAddress option) = 2
status_of NoAdmin = 2
status_of BadUnknownPeers = 2
status_of BadHost = 2
status_of TwoFiles = 2
status_of NoMemory = 5

-- what is told of an option that says no place
abbrev pub place_fault : PlaceOption → List ℕ
place_fault option.Peers = codes "bad address of --peers\n"
place_fault option.Admin = codes "bad address of --admin\n"
place_fault option.AdminSocket = codes "bad path of --admin-socket\n"
place_fault option.Http = codes "bad address of --http\n"
place_fault option.From = codes "bad network of --from\n"

-- what is printed of a command line that asks for no job. The texts of `Words` are clap's
abbrev pub text_of : Usage → Option (List ℕ)
text_of (Words error) = None
text_of (BadAddress option) = Some (place_fault option)
text_of NoAdmin = Some (codes "neither --admin nor --admin-socket\n")
text_of BadUnknownPeers = Some (codes "bad --unknown-peers: refuse or wait\n")
text_of BadHost = Some (codes "bad --http-host\n")
text_of TwoFiles = Some (codes "both --config and a file\n")
text_of NoMemory = Some []

-- what is reported of a failed allocation
abbrev pub IsWant : Usage → Type 0
IsWant usage = usage ≡ NoMemory

-- what is reported of an error of clap: that an allocation failed, or the error
abbrev pub IsUsageOf : Error → Usage → Type 0
IsUsageOf error (Words told) = (told ≡ error) × (kind_of error ≢ kind.OutOfMemory)
IsUsageOf error (BadAddress option) = ⊥
IsUsageOf error NoAdmin = ⊥
IsUsageOf error BadUnknownPeers = ⊥
IsUsageOf error BadHost = ⊥
IsUsageOf error TwoFiles = ⊥
IsUsageOf error NoMemory = kind_of error ≡ kind.OutOfMemory
