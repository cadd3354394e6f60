use Rattle.std.proofs.Common.{List, ℕ, refl}
use Rattle.clap.proofs.OnLiterals.{clap_on_literals}
use Rattle.command_line.specs.Lines.{Refuses, ShowsHelp, ShowsVersion}
use Rattle.command_line.proofs.laws.refused_lines.Goals as goal

shows_help : (self : List ℕ) → ShowsHelp self
unfolding clap_on_literals
shows_help self = record { long = refl; short = refl; of_listen = refl }

shows_version : (self : List ℕ) → ShowsVersion self
unfolding clap_on_literals
shows_version self = record { long = refl; short = refl }

refuses : (self text : List ℕ) → Refuses self text
unfolding clap_on_literals
refuses self text = record {
  none = refl;
  another = refl;
  too_many = refl;
  unknown = refl;
  missing = refl;
  twice = refl;
  no_admin = (refl, (refl, refl, refl));
}

pub returns : goal.returns
returns c = record { help = shows_help; version = shows_version; mistakes = refuses }
