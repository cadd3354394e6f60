-- What the words of a command line ask for, as clap reads them for the command below.
use Rattle.std.specs.Prelude.{◌≡◌, ◌==◌, ◌⊎◌, ◌||◌, ⊤, ℕ, false, true, List, [], codes, length, map}
use Rattle.std.specs.Prelude.{◌&&◌, Bool, Option, None, Some, if◌then◌else◌, is_some}
use Rattle.std.specs.Prelude.{string_bytes, unwrap_or}
use Rattle.std.specs.Str.{bytes_eq}
use Rattle.std.specs.Borrow.{Bor}
use Rattle.std.specs.Option.{option_and_then, option_map, option_map_or, option_or}
use Rattle.clap.specs.Words.{App, Row, Rule, Text, all_of, first_of, kind_of, new_app}
use Rattle.clap.specs.Words.{new_rule, subcommand_of, with_rule, with_subcommand, fault_of, IsAmong}
use Rattle.clap.specs.Simple.{on_top}
use Rattle.clap.specs.declared.builder.command.Command.{Command}
use Rattle.clap.specs.declared.builder.command.Command.TheViews.{out-Command as fields_of}
use Rattle.clap.specs.declared.builder.action.ArgAction.TheVariants.{Append, Set}
use Rattle.command_line.specs.Address.{Parts, address_of, parts_of}
use Rattle.command_line.specs.Hosts.{hosts_of}
use Rattle.command_line.specs.Networks.{network_parts, networks_of}
use Rattle.command_line.specs.declared.job.Endpoints.{Endpoints}
use Rattle.command_line.specs.declared.job.Job.{Job}
use Rattle.command_line.specs.declared.job.Job.TheVariants.{Replay, Import, Check, Listen}
use Rattle.command_line.specs.declared.job.UnknownPeers.{UnknownPeers}
use Rattle.command_line.specs.declared.job.UnknownPeers.TheVariants.{Refuse, Wait}
use Rattle.command_line.specs.declared.usage.PlaceOption.{PlaceOption}
use Rattle.command_line.specs.declared.usage.PlaceOption.TheVariants as option
use Rattle.command_line.specs.declared.usage.Usage.{Usage}
use Rattle.command_line.specs.declared.usage.Usage.TheVariants.{Words, BadAddress, NoAdmin}
use Rattle.command_line.specs.declared.usage.Usage.TheVariants.{BadUnknownPeers, BadHost, TwoFiles}
use Rattle.command_line.specs.declared.usage.Usage.TheVariants.{NoMemory}

-- no option of the command is one of its subcommands too
abbrev pub IsLocal : Command → Type 0
IsLocal command = (fields_of command).has_globals ≡ false

-- an option that may be there, with its value
abbrev pub value_option : Text → Rule
value_option name = record (new_rule name) {
  long = Some name;
  action = Some Set;
  value_names = 1;
}

-- an option that has to be there, with its value
abbrev pub needed_option : Text → Rule
needed_option name = record (value_option name) { required = true }

-- an option that may be there any number of times, each with its value
abbrev pub many_option : Text → Rule
many_option name = record (value_option name) { action = Some Append }

-- a word that may be there
abbrev pub word : Text → Rule
word name = record (new_rule name) {
  action = Some Set;
  value_names = 1;
}

-- words, any number of them
abbrev pub many_words : Text → Rule
many_words name = record (word name) { action = Some Append }

-- `replay`
abbrev pub replay : App
replay = new_app (codes "replay")

-- `import --name NAME FILE ..`
abbrev pub import : App
import = with_rule (with_rule (new_app (codes "import")) (value_option (codes "name")))
    (many_words (codes "file"))

-- `check --config FILE`, or `check FILE`
abbrev pub check : App
check = with_rule (with_rule (new_app (codes "check")) (value_option (codes "config")))
    (word (codes "file"))

-- `listen --config FILE --peers ADDRESS --admin ADDRESS --admin-socket PATH --http ADDRESS
-- --from NETWORK .. --unknown-peers WHAT --http-host NAME ..`
abbrev pub listen : App
listen = with_rule (with_rule (with_rule (with_rule (with_rule (with_rule (with_rule (with_rule
    (new_app (codes "listen")) (value_option (codes "config"))) (needed_option (codes "peers")))
    (value_option (codes "admin"))) (value_option (codes "admin-socket")))
    (value_option (codes "http"))) (many_option (codes "from")))
    (value_option (codes "unknown-peers"))) (many_option (codes "http-host"))

-- the program without its commands; it tells its version
abbrev pub bare : App
bare = on_top (λ s. record s { has_version = true; subcommand_required = true })
    (new_app (codes "aggregator"))

-- the program: one of these commands has to be there
abbrev pub program : App
program = with_subcommand (with_subcommand (with_subcommand (with_subcommand bare replay.top)
    import.top) check.top) listen.top

-- the name of one of the commands
abbrev pub IsCommand : Text → Type 0
IsCommand name = (name ≡ codes "replay") ⊎ (name ≡ codes "import") ⊎ (name ≡ codes "check")
    ⊎ (name ≡ codes "listen")

-- the address that an option of a command says
abbrev pub address_in : Text → List Row → Option Parts
address_in name rows = option_and_then address_of (first_of name rows)

-- what a text says of an address that may be left out
abbrev pub address_said : Text → Option (Option Parts)
address_said text = option_map Some (address_of text)

-- the address that an option of a command says, or that it isn't there
abbrev pub address_if : Text → List Row → Option (Option Parts)
address_if name rows = option_map_or address_said (first_of name rows) (Some None)

-- what a text says of a path that may be left out: it isn't empty
abbrev pub path_said : Text → Option (Option Text)
path_said text = if length text == 0 then None else Some (Some text)

-- the path that an option of a command says, or that it isn't there
abbrev pub path_if : Text → List Row → Option (Option Text)
path_if name rows = option_map_or path_said (first_of name rows) (Some None)

-- the networks that an option of a command says: none where it isn't there
abbrev pub networks_in : Text → List Row → Option (List (ℕ × ℕ))
networks_in name rows = option_map_or networks_of (all_of name rows) (Some [])

-- what a text says of unknown peers
abbrev pub choice_of : Text → Option UnknownPeers
choice_of text =
    if bytes_eq text (codes "refuse") then Some Refuse
    else if bytes_eq text (codes "wait") then Some Wait
    else None

-- what the options say of unknown peers: that they are refused where the option isn't there
abbrev pub choice_in : List Row → Option UnknownPeers
choice_in rows = option_map_or choice_of (first_of (codes "unknown-peers") rows) (Some Refuse)

-- the names of hosts that an option of a command says: none where it isn't there
abbrev pub hosts_in : Text → List Row → Option (List Text)
hosts_in name rows = option_map_or hosts_of (all_of name rows) (Some [])

-- the options name this file of a configuration, or none
abbrev pub SaysFile : List Row → Option (Bor Text) → Type 0
SaysFile rows config = option_map (λ name. name.now) config ≡ first_of (codes "config") rows

-- the option names the collector so, or isn't there
abbrev pub SaysName : List Row → Option (Bor Text) → Type 0
SaysName rows name = option_map (λ text. text.now) name ≡ first_of (codes "name") rows

-- the words name these files: none where there are no words
abbrev pub SaysFiles : List Row → List (Bor Text) → Type 0
SaysFiles rows files =
    map (λ file. file.now) files ≡ unwrap_or (all_of (codes "file") rows) []

-- whether a file is named in both ways, as a word and by the option
abbrev pub names_twice : List Row → Bool
names_twice rows =
    is_some (first_of (codes "file") rows) && is_some (first_of (codes "config") rows)

-- the file that is named in one of two ways, or none
abbrev pub SaysOneFile : List Row → Option (Bor Text) → Type 0
SaysOneFile rows config = (names_twice rows ≡ false)
    × (option_map (λ name. name.now) config
    ≡ option_or (first_of (codes "file") rows) (first_of (codes "config") rows))

-- the options of `listen` say these addresses, one for operators among them, this of unknown peers,
-- and these names of hosts
pub record SaysAddresses (rows : List Row) (addresses : Endpoints) : Type 0 where
  pub peers : address_in (codes "peers") rows ≡ Some (parts_of addresses.peers)
  pub admin : address_if (codes "admin") rows ≡ Some (option_map parts_of addresses.admin)
  pub admin_socket : path_if (codes "admin-socket") rows
      ≡ Some (option_map string_bytes addresses.admin_socket)
  pub operators : (is_some addresses.admin || is_some addresses.admin_socket) ≡ true
  pub http : address_if (codes "http") rows ≡ Some (option_map parts_of addresses.http)
  pub from : networks_in (codes "from") rows ≡ Some (map network_parts addresses.from.items)
  pub unknown_peers : choice_in rows ≡ Some addresses.unknown_peers
  pub http_hosts : hosts_in (codes "http-host") rows
      ≡ Some (map string_bytes addresses.http_hosts.items)

-- a command with its options asks for this job
abbrev pub IsJob : Option (Text × List Row) → Job → Type 0
IsJob None job = ⊥
IsJob (Some command) Replay = command.0 ≡ codes "replay"
IsJob (Some command) (Import name files) =
    (command.0 ≡ codes "import") × SaysName command.1 name × SaysFiles command.1 files.items
IsJob (Some command) (Check config) =
    (command.0 ≡ codes "check") × SaysOneFile command.1 config
IsJob (Some command) (Listen config endpoints) =
    (command.0 ≡ codes "listen") × SaysFile command.1 config × SaysAddresses command.1 endpoints

-- clap takes the words, and their command asks for this job
pub record AsksFor (words : List Text) (job : Job) : Type 0 where
  pub taken : fault_of program words ≡ []
  pub is : IsJob (subcommand_of program words) job

-- the option says no address, no path, or no network
abbrev pub SaysNoPlace : PlaceOption → List Row → Type 0
SaysNoPlace option.Peers rows = address_in (codes "peers") rows ≡ None
SaysNoPlace option.Admin rows = address_if (codes "admin") rows ≡ None
SaysNoPlace option.AdminSocket rows = path_if (codes "admin-socket") rows ≡ None
SaysNoPlace option.Http rows = address_if (codes "http") rows ≡ None
SaysNoPlace option.From rows = networks_in (codes "from") rows ≡ None

-- a `listen` of which this option says none
abbrev pub SaysNoAddress : PlaceOption → Option (Text × List Row) → Type 0
SaysNoAddress option None = ⊥
SaysNoAddress option (Some command) =
    (command.0 ≡ codes "listen") × SaysNoPlace option command.1

-- a `listen` where neither option is there that says where operators connect
abbrev pub SaysNoAdmin : Option (Text × List Row) → Type 0
SaysNoAdmin None = ⊥
SaysNoAdmin (Some command) = (command.0 ≡ codes "listen")
    × (address_if (codes "admin") command.1 ≡ Some None)
    × (path_if (codes "admin-socket") command.1 ≡ Some None)

-- a `listen` that doesn't say what is done about unknown peers
abbrev pub SaysNoChoice : Option (Text × List Row) → Type 0
SaysNoChoice None = ⊥
SaysNoChoice (Some command) = (command.0 ≡ codes "listen") × (choice_in command.1 ≡ None)

-- a `listen` where an option for names of hosts says none
abbrev pub SaysNoHost : Option (Text × List Row) → Type 0
SaysNoHost None = ⊥
SaysNoHost (Some command) = (command.0 ≡ codes "listen")
    × (hosts_in (codes "http-host") command.1 ≡ None)

-- a `check` for which a file is named in both ways
abbrev pub SaysTwoFiles : Option (Text × List Row) → Type 0
SaysTwoFiles None = ⊥
SaysTwoFiles (Some command) =
    (command.0 ≡ codes "check") × (names_twice command.1 ≡ true)

-- why a command that clap takes is no job: an option says no address, nothing of unknown peers, or
-- no host's name, operators have no place, a file is named twice, or an allocation failed
abbrev pub IsNoJob : Option (Text × List Row) → Usage → Type 0
IsNoJob command (Words error) = ⊥
IsNoJob command (BadAddress option) = SaysNoAddress option command
IsNoJob command NoAdmin = SaysNoAdmin command
IsNoJob command BadUnknownPeers = SaysNoChoice command
IsNoJob command BadHost = SaysNoHost command
IsNoJob command TwoFiles = SaysTwoFiles command
IsNoJob command NoMemory = ⊤

-- why the words ask for no job: an error of a kind that clap has for them, or what is wrong with a
-- command that it takes
abbrev pub IsRefused : List Text → Usage → Type 0
IsRefused words (Words error) = IsAmong (kind_of error) (fault_of program words)
IsRefused words (BadAddress option) =
    (fault_of program words ≡ []) × SaysNoAddress option (subcommand_of program words)
IsRefused words NoAdmin =
    (fault_of program words ≡ []) × SaysNoAdmin (subcommand_of program words)
IsRefused words BadUnknownPeers =
    (fault_of program words ≡ []) × SaysNoChoice (subcommand_of program words)
IsRefused words BadHost =
    (fault_of program words ≡ []) × SaysNoHost (subcommand_of program words)
IsRefused words TwoFiles =
    (fault_of program words ≡ []) × SaysTwoFiles (subcommand_of program words)
IsRefused words NoMemory = ⊤
