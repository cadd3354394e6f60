-- Whether two configurations are the same, as a test.
use Rattle.std.specs.Prelude.{ℕ, Bool, true, false, ◌&&◌, ◌==◌, List, [], ◌∷◌, length}
use Rattle.std.specs.Prelude.{unwrap_or, is_none, Option, None, Some}
use Rattle.std.specs.Str.{bytes_eq}
use Rattle.agg_types.specs.Col.{place}
use Rattle.agg_types.specs.Kind.{given_length, kind_number}
use Rattle.agg_types.specs.declared.column.Col.{Col}
use Rattle.agg_types.specs.declared.config.Config.{Config}
use Rattle.agg_types.specs.declared.config.KeyKind.{KeyKind}
use Rattle.agg_types.specs.declared.config.Shape.{Shape}

-- the length that a declaration gives a kind; 0 where it gives none
abbrev pub kind_len : KeyKind → ℕ
kind_len kind = unwrap_or (given_length kind) 0

abbrev pub same_stored : Col × ℕ → Col × ℕ → Bool
same_stored one other = (place one.0 == place other.0) && (one.1 == other.1)

abbrev pub same_cols : List (Col × ℕ) → List (Col × ℕ) → Bool
same_cols [] others = length others == 0
same_cols (one ∷ some) [] = false
same_cols (one ∷ some) (other ∷ others) = same_stored one other && same_cols some others

abbrev pub same_kind : KeyKind → KeyKind → Bool
same_kind one other = (kind_number one == kind_number other) && (kind_len one == kind_len other)

abbrev pub same_head : Shape → Shape → Bool
same_head one other = bytes_eq one.name other.name && same_kind one.kind other.kind

-- whether both are the same number, or none
abbrev pub same_keep : Option ℕ → Option ℕ → Bool
same_keep None None = true
same_keep None (Some other) = false
same_keep (Some one) None = false
same_keep (Some one) (Some other) = one == other

abbrev pub same_table : Shape → Shape → Bool
same_table one other = same_head one other && (one.size == other.size)
    && same_keep one.keep other.keep && same_cols one.cols other.cols

abbrev pub same_tables : List Shape → List Shape → Bool
same_tables [] others = length others == 0
same_tables (one ∷ some) [] = false
same_tables (one ∷ some) (other ∷ others) = same_table one other && same_tables some others

abbrev pub same_names : List (List ℕ) → List (List ℕ) → Bool
same_names [] others = length others == 0
same_names (one ∷ some) [] = false
same_names (one ∷ some) (other ∷ others) = bytes_eq one other && same_names some others

-- no filters and no ranked lists, nothing pushed, no bound on all rows, nothing logged and nothing
-- ignored
abbrev pub is_plain : Config → Bool
is_plain config = (length config.filters == 0) && (length config.ranks == 0)
    && (length config.pushes == 0) && is_none config.rows && (length config.logs == 0)
    && (length config.ignored == 0)

abbrev pub same_peers : Config → Config → Bool
same_peers one other = bytes_eq one.me other.me && same_names one.peers other.peers

abbrev pub same_parts : Config → Config → Bool
same_parts one other = is_plain one && is_plain other && same_peers one other
    && same_tables one.tables other.tables
