-- Whether what two peers hold tells that they teach one another's rows.
use Rattle.std.specs.Prelude.{Bool, ◌&&◌, ℕ, ◌*◌, nat_lt, nat_le, count_by}
use Rattle.fleet_model.specs.State.{State}
use Rattle.book.specs.ByPeer.{peer_rows}
use Rattle.learned_rows.specs.Alike.{is_held_alike}
use Rattle.learned_rows.specs.declared.judging.Suspect.{Suspect}
use Rattle.learned_rows.specs.declared.judging.TheConstants.{LEAST_ROWS, SHARE}

-- of a sample of so many of all learned rows, so many, scaled to all, are a hundredth and ten
abbrev pub are_many : ℕ → ℕ → ℕ → Bool
are_many learned heard alike =
    nat_le heard (SHARE * alike) && nat_le (LEAST_ROWS * heard) (alike * learned)

-- the session taught more learned rows than own ones, and so many are many
abbrev pub prove_mesh : ℕ → ℕ → ℕ → ℕ → Bool
prove_mesh own learned heard alike = nat_lt own learned && are_many learned heard alike

-- of how many keys of a suspect's sample both peers hold rows that are alike
abbrev pub alike_in : State → Suspect → ℕ
alike_in state suspect = count_by
    (λ key. is_held_alike (peer_rows state suspect.table key) suspect.peer suspect.other)
    suspect.keys.items

-- whether a suspect's peers teach one another's rows
abbrev pub is_proved : State → Suspect → Bool
is_proved state suspect =
    prove_mesh suspect.own suspect.learned suspect.heard (alike_in state suspect)
