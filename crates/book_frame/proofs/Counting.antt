-- What an event that comes next has.
use Rattle.std.proofs.Common.{◌≡◌, ℕ, ◌==◌, nat_le, Bool, true, ◌&&◌, nat_lt, Option}
use Rattle.std.proofs.Common.{arith}
use Rattle.std.proofs.lemmas.Bool.Decides.{nat_tests}
use Rattle.agg_types.specs.declared.event.What.{What}
use Rattle.agg_types.specs.declared.event.What.TheVariants.{Sit, Open, Put, Clear, AddFilter}
use Rattle.agg_types.specs.declared.event.What.TheVariants.{DropFilter, Moment, Leave}
use Rattle.agg_types.specs.declared.limits.TheConstants.{LAST_SEAT, NUMBERS_END}
use Rattle.fleet_model.specs.Seats.{is_next, is_number}
use Rattle.book_frame.specs.Due.{HasDueNumber, IsDue, IsFirst}
use Rattle.book_frame.proofs.Chosen.{and-left, and-right}

due-next : (seq : ℕ) (due : Option ℕ) → is_number due seq && nat_lt seq NUMBERS_END ≡ true
    → HasDueNumber seq due
due-next seq due both = record {
  is_it = and-left (is_number due seq) (nat_lt seq NUMBERS_END) both;
  small = let less : nat_lt seq NUMBERS_END ≡ true =
      and-right (is_number due seq) (nat_lt seq NUMBERS_END) both in grind (arith, nat_tests);
}

first-next : (seat seq above : ℕ) (free : Bool) → (seq == 0) && nat_le seat LAST_SEAT
    && nat_le above seat && free ≡ true → IsFirst seat seq
first-next seat seq above free all =
    let three : (seq == 0) && nat_le seat LAST_SEAT && nat_le above seat ≡ true =
    and-left ((seq == 0) && nat_le seat LAST_SEAT && nat_le above seat) free all in
    let two : (seq == 0) && nat_le seat LAST_SEAT ≡ true =
    and-left ((seq == 0) && nat_le seat LAST_SEAT) (nat_le above seat) three in
    let one : (seq == 0) ≡ true = and-left (seq == 0) (nat_le seat LAST_SEAT) two in
    let other : nat_le seat LAST_SEAT ≡ true = and-right (seq == 0) (nat_le seat LAST_SEAT) two in
    record { first = grind (arith, nat_tests); small = grind (arith, nat_tests) }

-- an event that comes next has the number that is due
pub due-is_next : (what : What) (seat seq : ℕ) (free : Bool) (above : ℕ) (due : Option ℕ)
    → is_next what seat seq free above due ≡ true → IsDue what seat seq due
due-is_next Sit seat seq free above due next = first-next seat seq above free next
due-is_next (Open peer) seat seq free above due next = due-next seq due next
due-is_next (Put peer table key life cells) seat seq free above due next = due-next seq due next
due-is_next (Clear table sel) seat seq free above due next = due-next seq due next
due-is_next (AddFilter filter) seat seq free above due next = due-next seq due next
due-is_next (DropFilter name) seat seq free above due next = due-next seq due next
due-is_next (Moment moment) seat seq free above due next = due-next seq due next
due-is_next Leave seat seq free above due next = due-next seq due next
