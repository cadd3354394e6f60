-- What a line asks for that is no command on the book.
use Rattle.std.specs.Prelude.{◌≡◌, ℕ, Bool, true, false, ◌||◌, if◌then◌else◌, nat_lt, List, [], ◌∷◌}
use Rattle.std.specs.Prelude.{codes, length, position, Option, None, Some}
use Rattle.std.specs.Str.{bytes_eq}
use Rattle.agg_config.specs.Written.{text_of}
use Rattle.agg_types.specs.declared.config.Config.{Config}
use Rattle.agg_types.specs.declared.limits.TheConstants.{LONGEST_COMMAND_LINE}
use Rattle.config_text.specs.Spaced.{filter_lines, rank_lines}
use Rattle.fleet_model.specs.State.{State}
use Rattle.line_words.specs.Reader.{wrong}
use Rattle.line_words.specs.Words.{words}
use Rattle.line_words.specs.declared.misread.Expected.TheVariants.{Name}
use Rattle.show_clear.specs.Explained.{explained_refusal}
use Rattle.show_clear.specs.Parse.{without_returns}
use Rattle.show_clear.specs.Refusal.{refusal_text}
use Rattle.show_clear.specs.Refused.{refused_at}
use Rattle.show_clear.specs.declared.fault.CommandFault.TheVariants.{NoTable}
use Rattle.show_clear.specs.declared.refused.Refused.{Refused}
use Rattle.worker_frame.specs.declared.door.Door.{Door}
use Rattle.worker_frame.specs.declared.door.Door.TheVariants.{Programs, People}
use Rattle.admin_worker.specs.declared.asked.Asked.{Asked}
use Rattle.admin_worker.specs.declared.asked.Asked.TheVariants as asks
use Rattle.worker_frame.specs.declared.status.Status.TheVariants.{Help, Info, Peers, Tables}

-- what a line says by its words; one that is too long for a command says this
abbrev pub by_words : {A : Type 0} → A → (List (List ℕ) → A) → List ℕ → A
by_words long says line =
    if nat_lt LONGEST_COMMAND_LINE (length (without_returns line)) then long
    else says (words (without_returns line))

-- this, where no further word follows
abbrev pub alone : Asked → List (List ℕ) → Option Asked
alone asked [] = Some asked
alone asked (word ∷ ws) = None

-- the peer at this place, if there is one
abbrev pub peer_at : Option ℕ → Asked
peer_at None = asks.NoPeer
peer_at (Some peer) = asks.Status (Tables peer)

-- the peer of a name
abbrev pub peer_named : Config → List ℕ → Asked
peer_named config name = peer_at (position (λ peer. bytes_eq peer name) config.peers)

-- behind `show peers`
abbrev pub peers_asked : Config → List (List ℕ) → Option Asked
peers_asked config [] = Some (asks.Status Peers)
peers_asked config (name ∷ ws) = alone (peer_named config name) ws

-- behind `show`
abbrev pub shown : Config → List (List ℕ) → Option Asked
shown config [] = None
shown config (word ∷ ws) =
    if bytes_eq word (codes "info") then alone (asks.Status Info) ws
    else if bytes_eq word (codes "peers") then peers_asked config ws
    else if bytes_eq word (codes "config") then alone asks.Config ws
    else if bytes_eq word (codes "filters") then alone asks.Filters ws
    else if bytes_eq word (codes "filter") then alone asks.Filters ws
    else if bytes_eq word (codes "ranks") then alone asks.Ranks ws
    else if bytes_eq word (codes "rank") then alone asks.Ranks ws
    else None

-- what words ask for
abbrev pub asked_by : Config → List (List ℕ) → Option Asked
asked_by config [] = None
asked_by config (word ∷ ws) =
    if bytes_eq word (codes "help") then alone (asks.Status Help) ws
    else if bytes_eq word (codes "prompt") then alone asks.Prompt ws
    else if bytes_eq word (codes "show") then shown config ws
    else None

-- what a line asks for
unfoldable pub asked_in : Config → List ℕ → Option Asked
asked_in config line = by_words None (asked_by config) line

-- whether a word ends a connection
abbrev pub says_quit : List ℕ → Bool
says_quit word = bytes_eq word (codes "quit") || bytes_eq word (codes "exit")

-- whether these words are `quit` or `exit` alone
abbrev pub is_quit : List (List ℕ) → Bool
is_quit [] = false
is_quit (word ∷ []) = says_quit word
is_quit (word ∷ more ∷ ws) = false

-- whether a line asks that its connection ends
unfoldable pub quits : List ℕ → Bool
quits line = by_words false is_quit line

-- whether there is no word
abbrev pub is_wordless : List (List ℕ) → Bool
is_wordless [] = true
is_wordless (word ∷ ws) = false

-- whether a line has no word
unfoldable pub is_blank : List ℕ → Bool
is_blank line = by_words false is_wordless line

-- the refusal of a line: people are told which word is wrong, and what was expected
abbrev pub refusal_at : Door → State → List ℕ → Refused → List ℕ
refusal_at Programs book line refused = refusal_text refused.fault
refusal_at People book line refused = explained_refusal book line refused

-- the third word names no peer
abbrev pub no_peer : Refused
no_peer = refused_at NoTable (wrong 3 Name)

-- The answer to what is asked for. What a gate tells no clause says.
abbrev pub IsStatus : Door → State → List ℕ → Asked → List ℕ → Type 0
IsStatus door book line (asks.Status status) answer = Unit {0}
IsStatus door book line asks.Config answer = answer ≡ text_of book.config
IsStatus door book line asks.Filters answer = answer ≡ filter_lines book.config
IsStatus door book line asks.Ranks answer = answer ≡ rank_lines book.config
IsStatus door book line asks.Prompt answer = answer ≡ []
IsStatus door book line asks.NoPeer answer = answer ≡ refusal_at door book line no_peer
