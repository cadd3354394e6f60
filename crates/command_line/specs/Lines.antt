-- What the lines ask for that the documents show, whatever the program is called.
use Rattle.std.specs.Prelude.{◌≡◌, ◌++◌, List, [], ◌∷◌, codes, Option, None, Some}
use Rattle.std.specs.Option.{option_map, option_and_then}
use Rattle.clap.specs.Words.{Kinds, Row, Text, all_of, fault_of, first_of, subcommand_of}
use Rattle.clap.specs.declared.error.kind.ErrorKind.TheVariants.{ArgumentConflict, DisplayHelp}
use Rattle.clap.specs.declared.error.kind.ErrorKind.TheVariants.{DisplayVersion}
use Rattle.clap.specs.declared.error.kind.ErrorKind.TheVariants.{InvalidSubcommand}
use Rattle.clap.specs.declared.error.kind.ErrorKind.TheVariants.{MissingRequiredArgument}
use Rattle.clap.specs.declared.error.kind.ErrorKind.TheVariants.{MissingSubcommand, UnknownArgument}
use Rattle.command_line.specs.Asked.{IsRefused, program}
use Rattle.command_line.specs.declared.usage.Usage.TheVariants.{NoAdmin}

-- the text that an option of the command has
abbrev pub text_in : Text → Option (Text × List Row) → Option Text
text_in name = option_and_then (λ command. first_of name command.1)

-- the texts that such an option has where it may be there several times
abbrev pub texts_in : Text → Option (Text × List Row) → Option (List Text)
texts_in name = option_and_then (λ command. all_of name command.1)

-- clap takes the words as this command, with these texts for its two options
pub record IsTaken (words : List Text) (name : Text) (peers admin : Option Text) : Type 0 where
  pub taken : fault_of program words ≡ []
  pub named : option_map (λ command. command.0) (subcommand_of program words) ≡ Some name
  pub peers_is : text_in (codes "peers") (subcommand_of program words) ≡ peers
  pub admin_is : text_in (codes "admin") (subcommand_of program words) ≡ admin

-- `replay`
abbrev pub TakesReplay : Type 0
TakesReplay = (self : Text) → IsTaken (self ∷ codes "replay" ∷ []) (codes "replay") None None

-- a path, which begins with a slash
abbrev pub path : Text → Text
path rest = 47 ∷ rest

-- `--name=` with this text
abbrev pub name_word : Text → Text
name_word text = codes "--name=" ++ text

-- the words of `import` with a name and two files
abbrev pub import_words : (self name one other : Text) → List Text
import_words self name one other =
    self ∷ codes "import" ∷ name_word name ∷ path one ∷ path other ∷ []

-- `import` alone, and with the collector's name and two files in their order, for all texts
pub record TakesImport (self name one other : Text) : Type 0 where
  pub alone : IsTaken (self ∷ codes "import" ∷ []) (codes "import") None None
  pub taken : fault_of program (import_words self name one other) ≡ []
  pub name_is : text_in (codes "name") (subcommand_of program (import_words self name one other))
      ≡ Some name
  pub both : texts_in (codes "file") (subcommand_of program (import_words self name one other))
      ≡ Some (path one ∷ path other ∷ [])

-- `--peers=` and `--admin=` with these texts
abbrev pub peers_word : Text → Text
peers_word text = codes "--peers=" ++ text

abbrev pub admin_word : Text → Text
admin_word text = codes "--admin=" ++ text

-- `listen` with these words behind it
abbrev pub listen_words : Text → List Text → List Text
listen_words self words = self ∷ codes "listen" ∷ words

-- `listen --peers=P --admin=A`, in either order, for all texts
abbrev pub TakesJoined : Type 0
TakesJoined = (self peers admin : Text)
    → IsTaken (listen_words self (peers_word peers ∷ admin_word admin ∷ []))
    (codes "listen") (Some peers) (Some admin)
    × IsTaken (listen_words self (admin_word admin ∷ peers_word peers ∷ []))
    (codes "listen") (Some peers) (Some admin)

-- `--from=` with this text
abbrev pub from_word : Text → Text
from_word text = codes "--from=" ++ text

-- `listen` with two networks between the other words
abbrev pub from_words : (self peers admin one other : Text) → List Text
from_words self peers admin one other =
    listen_words self (peers_word peers ∷ from_word one ∷ admin_word admin ∷ from_word other ∷ [])

-- such a line is taken with both, in their order, for all texts
pub record TakesNetworks (self peers admin one other : Text) : Type 0 where
  pub taken : IsTaken (from_words self peers admin one other) (codes "listen")
      (Some peers) (Some admin)
  pub both : texts_in (codes "from")
      (subcommand_of program (from_words self peers admin one other)) ≡ Some (one ∷ other ∷ [])

-- `--config=` with this text
abbrev pub config_word : Text → Text
config_word text = codes "--config=" ++ text

-- clap takes the words as this command, with this file
pub record TakesFile (words : List Text) (name file : Text) : Type 0 where
  pub taken : fault_of program words ≡ []
  pub named : option_map (λ command. command.0) (subcommand_of program words) ≡ Some name
  pub file_is : text_in (codes "config") (subcommand_of program words) ≡ Some file

-- `check` alone, `check` with a file in both ways, and `listen` with one, for all texts
pub record TakesFiles (self file peers admin : Text) : Type 0 where
  pub alone : IsTaken (self ∷ codes "check" ∷ []) (codes "check") None None
  pub checked : TakesFile (self ∷ codes "check" ∷ config_word file ∷ []) (codes "check") file
  pub named : fault_of program (self ∷ codes "check" ∷ path file ∷ []) ≡ []
  pub named_is : text_in (codes "file")
      (subcommand_of program (self ∷ codes "check" ∷ path file ∷ [])) ≡ Some (path file)
  pub collected : TakesFile
      (listen_words self (config_word file ∷ peers_word peers ∷ admin_word admin ∷ []))
      (codes "listen") file

-- `--unknown-peers=` with this text
abbrev pub unknown_word : Text → Text
unknown_word text = codes "--unknown-peers=" ++ text

-- `listen` with it behind the other words
abbrev pub unknown_words : (self peers admin what : Text) → List Text
unknown_words self peers admin what =
    listen_words self (peers_word peers ∷ admin_word admin ∷ unknown_word what ∷ [])

-- such a line is taken with it, for all texts
pub record TakesUnknownPeers (self peers admin what : Text) : Type 0 where
  pub taken : IsTaken (unknown_words self peers admin what) (codes "listen")
      (Some peers) (Some admin)
  pub what_is : text_in (codes "unknown-peers")
      (subcommand_of program (unknown_words self peers admin what)) ≡ Some what

-- `--http=` with this text
abbrev pub http_word : Text → Text
http_word text = codes "--http=" ++ text

-- `listen` with it behind the other words
abbrev pub http_words : (self peers admin http : Text) → List Text
http_words self peers admin http =
    listen_words self (peers_word peers ∷ admin_word admin ∷ http_word http ∷ [])

-- such a line is taken with it, for all texts
pub record TakesHttp (self peers admin http : Text) : Type 0 where
  pub taken : IsTaken (http_words self peers admin http) (codes "listen") (Some peers) (Some admin)
  pub http_is : text_in (codes "http")
      (subcommand_of program (http_words self peers admin http)) ≡ Some http

-- `--http-host=` with this text
abbrev pub host_word : Text → Text
host_word text = codes "--http-host=" ++ text

-- `listen` with two names of hosts behind the other words
abbrev pub host_words : (self peers admin one other : Text) → List Text
host_words self peers admin one other =
    listen_words self (peers_word peers ∷ admin_word admin ∷ host_word one ∷ host_word other ∷ [])

-- such a line is taken with both, in their order, for all texts
pub record TakesHosts (self peers admin one other : Text) : Type 0 where
  pub taken : IsTaken (host_words self peers admin one other) (codes "listen")
      (Some peers) (Some admin)
  pub both : texts_in (codes "http-host")
      (subcommand_of program (host_words self peers admin one other)) ≡ Some (one ∷ other ∷ [])

-- `--admin-socket=` with this text
abbrev pub socket_word : Text → Text
socket_word text = codes "--admin-socket=" ++ text

-- `listen` with it in the place of `--admin=`, or beside that
abbrev pub socket_words : (self peers socket : Text) → List Text → List Text
socket_words self peers socket words =
    listen_words self (peers_word peers ∷ socket_word socket ∷ words)

-- such lines are taken with it, for all texts
pub record TakesAdminSocket (self peers socket admin : Text) : Type 0 where
  pub alone : IsTaken (socket_words self peers socket []) (codes "listen") (Some peers) None
  pub alone_is : text_in (codes "admin-socket")
      (subcommand_of program (socket_words self peers socket [])) ≡ Some socket
  pub beside : IsTaken (socket_words self peers socket (admin_word admin ∷ [])) (codes "listen")
      (Some peers) (Some admin)
  pub beside_is : text_in (codes "admin-socket")
      (subcommand_of program (socket_words self peers socket (admin_word admin ∷ [])))
      ≡ Some socket

-- the kinds of error that clap has for these words behind the program's name
abbrev pub faults : Text → List Text → Kinds
faults self words = fault_of program (self ∷ words)

-- help, in the three ways to ask for it
pub record ShowsHelp (self : Text) : Type 0 where
  pub long : faults self (codes "--help" ∷ []) ≡ DisplayHelp ∷ []
  pub short : faults self (codes "-h" ∷ []) ≡ DisplayHelp ∷ []
  pub of_listen : faults self (codes "listen" ∷ codes "--help" ∷ []) ≡ DisplayHelp ∷ []

-- the version, in the two ways to ask for it
pub record ShowsVersion (self : Text) : Type 0 where
  pub long : faults self (codes "--version" ∷ []) ≡ DisplayVersion ∷ []
  pub short : faults self (codes "-V" ∷ []) ≡ DisplayVersion ∷ []

-- no command, another one, one word too many, an option that isn't there, one too few, one twice,
-- no place for operators
pub record Refuses (self text : Text) : Type 0 where
  pub none : faults self [] ≡ MissingSubcommand ∷ []
  pub another : faults self (codes "collect" ∷ []) ≡ UnknownArgument ∷ InvalidSubcommand ∷ []
  pub too_many : faults self (codes "replay" ∷ codes "now" ∷ []) ≡ UnknownArgument ∷ []
  pub unknown : faults self (codes "replay" ∷ codes "--peers" ∷ []) ≡ UnknownArgument ∷ []
  pub missing : faults self (codes "listen" ∷ admin_word text ∷ []) ≡ MissingRequiredArgument ∷ []
  pub twice : faults self (codes "listen" ∷ peers_word text ∷ peers_word text ∷ [])
      ≡ ArgumentConflict ∷ []
  pub no_admin : IsRefused (self ∷ codes "listen" ∷ peers_word text ∷ []) NoAdmin
