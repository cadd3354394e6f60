-- What is printed of a fault that leaves nothing to collect.
use Rattle.std.specs.Prelude.{◌≡◌, ℕ, List, ◌++◌, codes, string_bytes}
use Rattle.std.specs.Fmt.{decimal}
use Rattle.std.specs.Net.Text.{socket_text}
use Rattle.agg_config.specs.Reading.{cause_name}
use Rattle.agg_config.specs.declared.causes.LineFault.{LineFault}
use Rattle.program.specs.declared.fault.Fault.{Fault}
use Rattle.program.specs.declared.fault.Fault.TheVariants.{Unread, Address, Path, Start, NoMemory}
use Rattle.program.specs.declared.fault.Fault.TheVariants.{Closed, Stuck as IsStuck}
use Rattle.program.specs.declared.fault.Stuck.{Stuck}
use Rattle.program.specs.declared.fault.Stuck.TheVariants.{Showing, Unshown, Unposted, Unseen}

-- what doesn't go on, in words
abbrev pub stuck_reason : Stuck → List ℕ
stuck_reason Showing = codes "one showing has been under way for 60 s"
stuck_reason Unshown = codes "nothing that came was shown for 10 s"
stuck_reason Unposted = codes "the clock posted no moment for 10 s"
stuck_reason Unseen = codes "the history was locked for 10 s"

-- the line of a fault; a fault of the system has some reason, in the system's words
abbrev pub IsTextOf : Fault → List ℕ → Type 0
IsTextOf (Unread error) text =
    (reason : List ℕ) × (text ≡ codes "cannot read the configuration: " ++ reason ++ codes "\n")
IsTextOf (Address address error) text =
    (reason : List ℕ) × (text
    ≡ codes "cannot listen at " ++ (socket_text address
    ++ (codes ": " ++ (reason ++ codes "\n"))))
IsTextOf (Path path error) text =
    (reason : List ℕ) × (text
    ≡ codes "cannot listen at " ++ (string_bytes path
    ++ (codes ": " ++ (reason ++ codes "\n"))))
IsTextOf (Start error) text =
    (reason : List ℕ) × (text ≡ codes "cannot start: " ++ reason ++ codes "\n")
IsTextOf NoMemory text = text ≡ codes "out of memory\n"
IsTextOf (Closed error) text =
    (reason : List ℕ) × (text ≡ codes "proxies can connect no more: " ++ reason ++ codes "\n")
IsTextOf (IsStuck stuck) text = text ≡ codes "stuck: " ++ (stuck_reason stuck ++ codes "\n")

-- the line of the first faulty line of a configuration
abbrev pub line_text : LineFault → List ℕ
line_text fault =
    codes "config line " ++ (decimal fault.line ++ (codes ": " ++ (cause_name fault.cause
    ++ codes "\n")))
