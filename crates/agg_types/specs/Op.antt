use Rattle.std.specs.Prelude.{ℕ, Bool, ◌==◌, not, nat_le, nat_lt}
use Rattle.agg_types.specs.declared.config.Op.{Op}
use Rattle.agg_types.specs.declared.config.Op.TheVariants.{Eq, Ne, Le, Ge, Lt, Gt}

-- whether a comparison holds of a value and its bound
abbrev pub op_holds : Op → ℕ → ℕ → Bool
op_holds Eq value bound = value == bound
op_holds Ne value bound = not (value == bound)
op_holds Le value bound = nat_le value bound
op_holds Ge value bound = nat_le bound value
op_holds Lt value bound = nat_lt value bound
op_holds Gt value bound = nat_lt bound value
