-- What the lines so far declare.
use Rattle.std.specs.Prelude.{ℕ, Bool, List}
use Rattle.agg_types.specs.declared.config.Shape.{Shape}
use Rattle.haproxy_cfg.specs.declared.sections.SectionKind.{SectionKind}

-- the section in force, the last peer that was named, whether one has a name that isn't read, and
-- all peers and tables
pub record State : Type 0 where
  pub kind : SectionKind
  pub section : List ℕ
  pub last : List ℕ
  pub unnamed : Bool
  pub peers : List (List ℕ)
  pub tables : List Shape
