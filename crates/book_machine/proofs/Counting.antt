-- What an event that counts has: its place is of peers and tables that there are.
use Rattle.std.proofs.Common.{◌≡◌, ℕ, Bool, true, ◌&&◌, nat_le, nat_lt, length, Option, ◌≤◌}
use Rattle.std.proofs.Common.{arith, zero, suc, ◌<◌, List, [], ◌∷◌, None, Some}
use Rattle.std.proofs.lemmas.Bool.Decides.{nat_tests}
use Rattle.std.specs.List.{list_all}
use Rattle.agg_types.specs.Fits.{at_table, cells_fit, conds_fit, fits, key_fits, life_fits, stores}
use Rattle.agg_types.specs.Name.{is_name}
use Rattle.agg_types.specs.declared.config.Cond.{Cond}
use Rattle.agg_types.specs.declared.config.Config.{Config}
use Rattle.agg_types.specs.declared.config.Shape.{Shape}
use Rattle.agg_types.specs.declared.event.Event.{Event}
use Rattle.agg_types.specs.declared.event.What.{What}
use Rattle.agg_types.specs.declared.event.What.TheVariants.{Sit, Open, Put, Clear, AddFilter}
use Rattle.agg_types.specs.declared.event.What.TheVariants.{DropFilter, Moment, Leave}
use Rattle.agg_types.specs.declared.limits.TheConstants.{MOST_CONDS, MOST_SEATS}
use Rattle.fleet_model.specs.Machine.{counts_now, number_of}
use Rattle.fleet_model.specs.Seats.{is_next}
use Rattle.fleet_model.specs.State.{State}
use Rattle.book_frame.proofs.Chosen.{and-left, and-right}
use Rattle.book_machine.specs.Due.{FitsPlace}
use Rattle.book_rows.specs.Planned.{IsShort}

in_table : (tables : List Shape) (table : ℕ) (test : Shape → Bool) → at_table tables table test
    ≡ true → table < length tables
in_table [] table test fits = cc
in_table (t ∷ ts) zero test fits = omega arith
in_table (t ∷ ts) (suc n) test fits = let more : n < length ts =
    in_table ts n test fits in omega arith

few_conds : (tables : List Shape) (table : ℕ) (conds : List Cond)
    → at_table tables table (λ shape. conds_fit shape.cols conds) ≡ true
    → length conds ≤ MOST_CONDS
few_conds [] table conds fits = cc
few_conds (t ∷ ts) zero conds fits =
    let both : nat_le 1 (length conds) && nat_le (length conds) MOST_CONDS ≡ true =
    and-left (nat_le 1 (length conds) && nat_le (length conds) MOST_CONDS)
    (list_all (λ (cond : Cond). stores t.cols cond.col) conds) fits in
    let few : nat_le (length conds) MOST_CONDS ≡ true =
    and-right (nat_le 1 (length conds)) (nat_le (length conds) MOST_CONDS) both in
    grind (arith, nat_tests)
few_conds (t ∷ ts) (suc n) conds fits = few_conds ts n conds fits

short-life : (life : Option ℕ) → life_fits life ≡ true → IsShort life
short-life None fits = tt
short-life (Some n) fits = grind (arith, nat_tests)

pub placed : (config : Config) (what : What) → fits config what ≡ true → FitsPlace config what
placed config Sit fit = tt
placed config (Open peer) fit = tt
placed config (Put peer table key life cells) fit =
    let test = λ (shape : Shape). key_fits shape.kind key && cells_fit shape.cols cells in
    let two : nat_lt peer (length config.peers) && life_fits life ≡ true =
    and-left (nat_lt peer (length config.peers) && life_fits life)
    (at_table config.tables table test) fit in
    let there : nat_lt peer (length config.peers) ≡ true =
    and-left (nat_lt peer (length config.peers)) (life_fits life) two in
    record {
      peer_in = grind (arith, nat_tests);
      table_in = in_table config.tables table test
          (and-right (nat_lt peer (length config.peers) && life_fits life)
          (at_table config.tables table test) fit);
      short = short-life life (and-right (nat_lt peer (length config.peers)) (life_fits life) two);
    }
placed config (Clear table sel) fit = tt
placed config (AddFilter filter) fit =
    few_conds config.tables filter.table filter.conds (and-right (is_name filter.name)
    (at_table config.tables filter.table (λ shape. conds_fit shape.cols filter.conds)) fit)
placed config (DropFilter name) fit = tt
placed config (Moment moment) fit = grind (arith, nat_tests)
placed config Leave fit = tt

pub due-fits : (state : State) (e : Event) → counts_now state e ≡ true
    → FitsPlace state.config e.what
unfolding counts_now
due-fits state e counts =
    placed state.config e.what (and-left (fits state.config e.what)
    (is_next e.what e.seat e.seq (nat_lt (length state.seats) MOST_SEATS) state.next_seat
    (number_of state e.seat)) counts)
