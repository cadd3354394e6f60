use Rattle.std.proofs.Common.{refl}
use Rattle.fleet_model.specs.Answers.{keys_of, rows_of, set_at, summed}
use Rattle.fleet_model.specs.Filters.{filters_in}
use Rattle.fleet_model.specs.History.{judge, judged}
use Rattle.fleet_model.specs.Moments.{now_of}
use Rattle.fleet_model.specs.Rows.{by_place, clears_at, counted_of, has_room, if_in_force, in_force}
use Rattle.fleet_model.specs.Rows.{judge_at, row_of, rows_in}
use Rattle.fleet_model.specs.Seats.{counts, known, number, seats_in, seats_of, sits}
use Rattle.fleet_model.specs.Sessions.{session, sessions_in}
use Rattle.fleet_model.specs.State.{state_of}
use Rattle.fleet_model.specs.Values.{cell_worth, live_keys, meets, share, value}
use Rattle.fleet_model.specs.Worked.{bounded, fleet_of, ip, joined, three_rows}
use Rattle.fleet_model.specs.Worked.{left_by, in_turn, sums_to}
use Rattle.fleet_model.specs.Worked.{row, view_of_table}
use Rattle.period_rate.specs.Share.{once_ended, rate, while_running}
use Rattle.fleet_model.proofs.worked.row_bound.Goals as goal

pub returns : goal.returns
unfolding fleet_of ip row in_turn left_by view_of_table sums_to joined bounded three_rows
    keys_of rows_of set_at summed
    filters_in judge judged now_of by_place clears_at counted_of has_room if_in_force in_force
    judge_at row_of rows_in counts known number seats_in seats_of sits session sessions_in state_of
    cell_worth live_keys meets share value rate while_running once_ended
returns c = record { full = refl; held = refl; taken = refl }
