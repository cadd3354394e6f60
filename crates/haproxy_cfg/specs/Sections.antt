-- The sections of a haproxy.cfg.
use Rattle.std.specs.Prelude.{ℕ, Bool, if◌then◌else◌, ◌==◌, List, codes, take, position}
use Rattle.std.specs.Prelude.{Option, None, Some}
use Rattle.std.specs.List.{list_any}
use Rattle.std.specs.Str.{bytes_eq}
use Rattle.line_words.specs.Words.{words}
use Rattle.haproxy_cfg.specs.declared.sections.SectionKind.{SectionKind}
use Rattle.haproxy_cfg.specs.declared.sections.SectionKind.TheVariants.{Peers, Proxy, Other}
use Rattle.haproxy_cfg.specs.declared.sections.TheConstants.{OTHERS, PROXIES}

-- the word opens a section that may have a stick table
unfoldable pub is_proxy : List ℕ → Bool
is_proxy word = list_any (λ other. bytes_eq other word) (words PROXIES.now)

-- the word opens a section in which no peer or stick table is declared
unfoldable pub is_other : List ℕ → Bool
is_other word = list_any (λ other. bytes_eq other word) (words OTHERS.now)

-- the kind of section that a line with this first word opens
abbrev pub opened : List ℕ → Option SectionKind
opened word =
    if bytes_eq word (codes "peers") then Some Peers
    else if is_proxy word then Some Proxy else if is_other word then Some Other else None

abbrev pub up_to : List ℕ → Option ℕ → List ℕ
up_to line None = line
up_to line (Some end) = take end line

-- a line without its comment
abbrev pub before_hash : List ℕ → List ℕ
before_hash line = up_to line (position (λ byte. byte == 35) line)
