-- Cells that are read one behind the other are those of the integers.
use Rattle.std.proofs.Common.{◌≡◌, ℕ, zero, suc, ◌+◌, ◌-◌, ◌<◌, ◌≤◌, Bool, List, [], ◌∷◌, ◌++◌}
use Rattle.std.proofs.Common.{length, drop, map, Option, Some, None, refl, sym, ap, ◌∙◌, arith}
use Rattle.std.proofs.Common.{append_assoc, length-append, get_or, true, false, ltb, ◌*◌, ◌%◌, ◌^◌}
use Rattle.std.proofs.Common.{eqb, ◌&&◌, Ok}
use Rattle.std.proofs.lemmas.Bool.{lt-ltb, lt-leb, eqb-true, false≢true}
use Rattle.std.specs.Prelude.{leb}
use Rattle.std.proofs.lemmas.List.{drop_at, drop_more, drop_all}
use Rattle.std.proofs.lemmas.Option.{none-some, same_Some}
use Rattle.std.specs.Option.{option_map}
use Rattle.peers_msg.specs.Payload.{◌>>=◌, number_at}
use Rattle.peers_msg.proofs.Integers.{two_front, three_front}
use Rattle.peers_msg.specs.Numeral.{integer_at}
use Rattle.agg_types.specs.declared.event.Cell.{Cell}
use Rattle.agg_types.specs.declared.event.Cell.TheVariants as cells
use Rattle.update_values.specs.Values.{count_in, elapsed_of, numbers_at, rate_in}
use Rattle.update_values.specs.declared.plan.Source.{Source}
use Rattle.update_values.specs.declared.plan.Source.TheVariants as sources
use Rattle.update_values.specs.Plan.{cell_from, numbers_along}
use Rattle.update_values.specs.Straight.{is_straight}
use Rattle.update_values.specs.Along.{cell_at, cells_along, cells_with, count_at, rate_at}

-- ---- the cells of columns, one behind the other

-- cells in front of others
abbrev pub behind_cells : List Cell → Option (List Cell) → Option (List Cell)
behind_cells front others = others >>= λ (more : List Cell). Some (front ++ more)

pub along_none : (o : Option (List Cell)) → behind_cells [] o ≡ o
along_none None = refl
along_none (Some cells) = refl

behind_one : (front : List Cell) (cell : Cell) (o : Option (List Cell))
    → behind_cells front (o >>= λ (more : List Cell). Some (cell ∷ more))
    ≡ behind_cells (front ++ cell ∷ []) o
behind_one front cell None = refl
behind_one front cell (Some more) = ap Some (sym (append_assoc front (cell ∷ []) more))

pub along_more : (all : List Source) (at : ℕ) (front : List Cell) (rest after : List ℕ)
    (source : Source) (cell : Cell) → at < length all → source ≡ get_or all at source
    → cell_at source rest ≡ Some (cell, after)
    → behind_cells front (cells_along (drop at all) rest)
    ≡ behind_cells (front ++ cell ∷ []) (cells_along (drop (at + 1) all) after)
along_more all at front rest after source cell lt is found =
    let split : drop at all ≡ source ∷ drop (at + 1) all =
    drop_more all at source lt ∙ ap (λ (s : Source). s ∷ drop (at + 1) all) (sym is) in
    rw (split, found) (behind_one front cell (cells_along (drop (at + 1) all) after))

pub along_cut : (all : List Source) (at : ℕ) (front : List Cell) (rest : List ℕ) (source : Source)
    → at < length all → source ≡ get_or all at source → cell_at source rest ≡ None
    → behind_cells front (cells_along (drop at all) rest) ≡ None
along_cut all at front rest source lt is found =
    let split : drop at all ≡ source ∷ drop (at + 1) all =
    drop_more all at source lt ∙ ap (λ (s : Source). s ∷ drop (at + 1) all) (sym is) in
    rw (split, found) refl

pub along_all : (all : List Source) (at : ℕ) (front : List Cell) (rest : List ℕ)
    → length all ≤ at → behind_cells front (cells_along (drop at all) rest) ≡ Some (front ++ [])
along_all all at front rest le = rw (drop_all at all le) refl

-- a cell that is packed behind others
packed_then : (others : List Source) (front new : List Cell) (after : List ℕ)
    (o : Option (Cell × List ℕ)) → cells_with front o ≡ Some (new, after)
    → behind_cells front (o >>= λ (first : Cell × List ℕ). cells_along others first.1
    >>= λ (cells : List Cell). Some (first.0 ∷ cells))
    ≡ behind_cells new (cells_along others after)
packed_then others front new after None is = absurd (none-some (new, after) is)
packed_then others front new after (Some x) is =
    let both : (front ++ x.0 ∷ [], x.1) ≡ (new, after) =
    same_Some (front ++ x.0 ∷ [], x.1) (new, after) is in
    behind_one front x.0 (cells_along others x.1)
    ∙ ap (λ (both : List Cell × List ℕ). behind_cells both.0 (cells_along others both.1)) both

pub along_packed : (all : List Source) (at : ℕ) (front new : List Cell) (rest after : List ℕ)
    (other : Source) → at < length all
    → cells_with front (cell_at (get_or all at other) rest) ≡ Some (new, after)
    → behind_cells front (cells_along (drop at all) rest)
    ≡ behind_cells new (cells_along (drop (at + 1) all) after)
along_packed all at front new rest after other lt found =
    rw (drop_more all at other lt)
    (packed_then (drop (at + 1) all) front new after (cell_at (get_or all at other) rest) found)

-- ---- a straight plan's cells are those of its numbers

-- so many numbers, without the bytes after them
unfoldable pub plain_numbers : ℕ → List ℕ → Option (List ℕ)
plain_numbers zero bytes = Some []
plain_numbers (suc n) bytes =
    number_at bytes >>= λ (first : ℕ × List ℕ). plain_numbers n first.1
    >>= λ (others : List ℕ). Some (first.0 ∷ others)

abbrev plain : Option (List ℕ × List ℕ) → Option (List ℕ)
plain o = option_map (λ (found : List ℕ × List ℕ). found.0) o

plain_more : (first : ℕ) (o : Option (List ℕ × List ℕ))
    → plain (o >>= λ (others : List ℕ × List ℕ). Some (first ∷ others.0, others.1))
    ≡ (plain o >>= λ (others : List ℕ). Some (first ∷ others))
plain_more first None = refl
plain_more first (Some others) = refl

plain_by : (n : ℕ) (o : Option (ℕ × List ℕ))
    → ((bytes : List ℕ) → plain (numbers_at n bytes) ≡ plain_numbers n bytes)
    → plain (o >>= λ (first : ℕ × List ℕ). numbers_at n first.1
    >>= λ (others : List ℕ × List ℕ). Some (first.0 ∷ others.0, others.1))
    ≡ (o >>= λ (first : ℕ × List ℕ). plain_numbers n first.1
    >>= λ (others : List ℕ). Some (first.0 ∷ others))
plain_by n None same = refl
plain_by n (Some first) same =
    plain_more first.0 (numbers_at n first.1)
    ∙ ap (λ (o : Option (List ℕ)). o >>= λ (others : List ℕ). Some (first.0 ∷ others))
    (same first.1)

plain_is : (n : ℕ) (bytes : List ℕ) → plain (numbers_at n bytes) ≡ plain_numbers n bytes
unfolding numbers_at plain_numbers
plain_is zero bytes = refl
plain_is (suc n) bytes = plain_by n (number_at bytes) (λ rest. plain_is n rest)

abbrev pub straight_cells : List ℕ → List Source → Option (List ℕ) → Option (List Cell)
straight_cells front all o =
    option_map (λ (numbers : List ℕ). map (cell_from (front ++ numbers)) all) o

abbrev IsStraight : ℕ → ℕ → List Source → Type 0
IsStraight at end [] = at ≡ end
IsStraight at end (sources.Blank cell ∷ others) = IsStraight at end others
IsStraight at end (sources.Count place wide ∷ others) =
    (place ≡ at) × IsStraight (at + 1) end others
IsStraight at end (sources.Rate place ∷ others) = (place ≡ at) × IsStraight (at + 3) end others

three_parts : (a b c : Bool) → (a && b && c) ≡ true → (a ≡ true) × (c ≡ true)
three_parts true true c is = (refl, is)
three_parts true false c is = absurd (false≢true is)
three_parts false b c is = absurd (false≢true is)

straight_parts : (all : List Source) (at end : ℕ) → is_straight at end all ≡ true
    → IsStraight at end all
straight_parts [] at end is = eqb-true at end is
straight_parts (sources.Blank cell ∷ others) at end is = straight_parts others at end is
straight_parts (sources.Count place wide ∷ others) at end is =
    let parts = three_parts (eqb place at) (ltb at end) (is_straight (at + 1) end others) is in (
      eqb-true place at parts.0,
      straight_parts others (at + 1) end parts.1,
    )
straight_parts (sources.Rate place ∷ others) at end is =
    let parts = three_parts (eqb place at) (leb 3 (end - at)) (is_straight (at + 3) end others) is
    in (
      eqb-true place at parts.0,
      straight_parts others (at + 3) end parts.1,
    )

straight_le : (all : List Source) (at end : ℕ) → IsStraight at end all → at ≤ end
straight_le [] at end is = omega (arith, is)
straight_le (sources.Blank cell ∷ others) at end is = straight_le others at end is
straight_le (sources.Count place wide ∷ others) at end is =
    omega (arith, straight_le others (at + 1) end is.1)
straight_le (sources.Rate place ∷ others) at end is =
    omega (arith, straight_le others (at + 3) end is.1)

-- a cell in front of others
cell_then : (cell : Cell) (f : List ℕ → List Cell) (o : Option (List ℕ))
    → option_map (λ (numbers : List ℕ). cell ∷ f numbers) o
    ≡ (option_map f o >>= λ (cells : List Cell). Some (cell ∷ cells))
cell_then cell f None = refl
cell_then cell f (Some numbers) = refl

count_then : (front : List ℕ) (place x : ℕ) (wide : Bool) (others : List Source)
    (o : Option (List ℕ)) → length front ≡ place
    → straight_cells front (sources.Count place wide ∷ others)
    (o >>= λ (more : List ℕ). Some (x ∷ more))
    ≡ (straight_cells (front ++ x ∷ []) others o
    >>= λ (cells : List Cell). Some (count_in wide (x ∷ []) ∷ cells))
count_then front place x wide others None long = refl
count_then front place x wide others (Some more) long =
    rw (drop_at front (x ∷ more) place long, append_assoc front (x ∷ []) more) refl

count_found : (front : List ℕ) (place : ℕ) (wide : Bool) (others : List Source)
    (next : List ℕ → Option (List ℕ)) (o : Option (ℕ × List ℕ)) → length front ≡ place
    → ((x : ℕ) (after : List ℕ) → straight_cells (front ++ x ∷ []) others (next after)
    ≡ cells_along others after)
    → straight_cells front (sources.Count place wide ∷ others)
    (o >>= λ (first : ℕ × List ℕ). next first.1 >>= λ (more : List ℕ). Some (first.0 ∷ more))
    ≡ ((o >>= λ (count : ℕ × List ℕ). Some (count_in wide (count.0 ∷ []), count.1))
    >>= λ (first : Cell × List ℕ). cells_along others first.1
    >>= λ (cells : List Cell). Some (first.0 ∷ cells))
count_found front place wide others next None long same = refl
count_found front place wide others next (Some x) long same =
    rw (← same x.0 x.1) (count_then front place x.0 wide others (next x.1) long)

-- three integers in front of others
abbrev pub three_then : ℕ → ℕ → ℕ → Option (List ℕ) → Option (List ℕ)
three_then x y z o =
    ((o >>= λ (more : List ℕ). Some (z ∷ more)) >>= λ (more : List ℕ). Some (y ∷ more))
    >>= λ (more : List ℕ). Some (x ∷ more)

rate_then : (front : List ℕ) (place x y z : ℕ) (others : List Source) (o : Option (List ℕ))
    → length front ≡ place
    → straight_cells front (sources.Rate place ∷ others) (three_then x y z o)
    ≡ (straight_cells (front ++ x ∷ y ∷ z ∷ []) others o
    >>= λ (cells : List Cell). Some (rate_in (x ∷ y ∷ z ∷ []) ∷ cells))
rate_then front place x y z others None long = refl
rate_then front place x y z others (Some more) long =
    rw (
      drop_at front (x ∷ y ∷ z ∷ more) place long,
      append_assoc front (x ∷ y ∷ z ∷ []) more,
    ) refl

-- what a rate's cell is behind, and the cells of the others
abbrev pub rate_and : List Source → Option (Cell × List ℕ) → Option (List Cell)
rate_and others o =
    o >>= λ (first : Cell × List ℕ). cells_along others first.1
    >>= λ (cells : List Cell). Some (first.0 ∷ cells)

abbrev pub GoesAlong : List ℕ → List Source → (List ℕ → Option (List ℕ)) → Type 0
GoesAlong front others next =
    (x y z : ℕ) (after : List ℕ)
    → straight_cells (front ++ x ∷ y ∷ z ∷ []) others (next after) ≡ cells_along others after

prev_found : (front : List ℕ) (place x y : ℕ) (others : List Source)
    (next : List ℕ → Option (List ℕ)) (o : Option (ℕ × List ℕ)) → length front ≡ place
    → GoesAlong front others next
    → straight_cells front (sources.Rate place ∷ others)
    (((o >>= λ (prev : ℕ × List ℕ). next prev.1 >>= λ (more : List ℕ). Some (prev.0 ∷ more))
    >>= λ (more : List ℕ). Some (y ∷ more)) >>= λ (more : List ℕ). Some (x ∷ more))
    ≡ rate_and others (o >>= λ (prev : ℕ × List ℕ). Some (rate_in (x ∷ y ∷ prev.0 ∷ []), prev.1))
prev_found front place x y others next None long same = refl
prev_found front place x y others next (Some z) long same =
    rw (← same x y z.0 z.1) (rate_then front place x y z.0 others (next z.1) long)

cur_found : (front : List ℕ) (place x : ℕ) (others : List Source)
    (next : List ℕ → Option (List ℕ)) (o : Option (ℕ × List ℕ)) → length front ≡ place
    → GoesAlong front others next
    → straight_cells front (sources.Rate place ∷ others)
    ((o >>= λ (cur : ℕ × List ℕ). (number_at cur.1 >>= λ (prev : ℕ × List ℕ). next prev.1
    >>= λ (more : List ℕ). Some (prev.0 ∷ more)) >>= λ (more : List ℕ). Some (cur.0 ∷ more))
    >>= λ (more : List ℕ). Some (x ∷ more))
    ≡ rate_and others (o >>= λ (cur : ℕ × List ℕ). number_at cur.1
    >>= λ (prev : ℕ × List ℕ). Some (rate_in (x ∷ cur.0 ∷ prev.0 ∷ []), prev.1))
cur_found front place x others next None long same = refl
cur_found front place x others next (Some y) long same =
    prev_found front place x y.0 others next (number_at y.1) long same

rate_found : (front : List ℕ) (place : ℕ) (others : List Source)
    (next : List ℕ → Option (List ℕ)) (o : Option (ℕ × List ℕ)) → length front ≡ place
    → GoesAlong front others next
    → straight_cells front (sources.Rate place ∷ others)
    (o >>= λ (elapsed : ℕ × List ℕ). (number_at elapsed.1 >>= λ (cur : ℕ × List ℕ).
    (number_at cur.1 >>= λ (prev : ℕ × List ℕ). next prev.1
    >>= λ (more : List ℕ). Some (prev.0 ∷ more)) >>= λ (more : List ℕ). Some (cur.0 ∷ more))
    >>= λ (more : List ℕ). Some (elapsed.0 ∷ more))
    ≡ rate_and others (o >>= λ (elapsed : ℕ × List ℕ). number_at elapsed.1
    >>= λ (cur : ℕ × List ℕ). number_at cur.1
    >>= λ (prev : ℕ × List ℕ). Some (rate_in (elapsed.0 ∷ cur.0 ∷ prev.0 ∷ []), prev.1))
rate_found front place others next None long same = refl
rate_found front place others next (Some x) long same =
    cur_found front place x.0 others next (number_at x.1) long same

straight_along : (all : List Source) (at end : ℕ) (front bytes : List ℕ) → length front ≡ at
    → IsStraight at end all
    → straight_cells front all (plain_numbers (end - at) bytes) ≡ cells_along all bytes
unfolding plain_numbers
straight_along [] at end front bytes long is =
    let none : end - at ≡ 0 = omega (arith, is) in
    rw none refl
straight_along (sources.Blank cell ∷ others) at end front bytes long is =
    cell_then cell (λ (numbers : List ℕ). map (cell_from (front ++ numbers)) others)
    (plain_numbers (end - at) bytes)
    ∙ ap (λ (o : Option (List Cell)). o >>= λ (cells : List Cell). Some (cell ∷ cells))
    (straight_along others at end front bytes long is)
straight_along (sources.Count place wide ∷ others) at end front bytes long is =
    let more : end - at ≡ suc (end - (at + 1)) =
    omega (arith, straight_le others (at + 1) end is.1) in
    rw more (count_found front place wide others (plain_numbers (end - (at + 1))) (number_at bytes)
    (long ∙ sym is.0) (λ x after.
    straight_along others (at + 1) end (front ++ x ∷ []) after
    (omega (arith, length-append front (x ∷ []), long)) is.1))
straight_along (sources.Rate place ∷ others) at end front bytes long is =
    let more : end - at ≡ suc (suc (suc (end - (at + 3)))) =
    omega (arith, straight_le others (at + 3) end is.1) in
    rw more (rate_found front place others (plain_numbers (end - (at + 3))) (number_at bytes)
    (long ∙ sym is.0) (λ x y z after.
    straight_along others (at + 3) end (front ++ x ∷ y ∷ z ∷ []) after
    (omega (arith, length-append front (x ∷ y ∷ z ∷ []), long)) is.1))

pub straight_is : (all : List Source) (end : ℕ) (bytes : List ℕ) → is_straight 0 end all ≡ true
    → option_map (λ (numbers : List ℕ). map (cell_from numbers) all) (numbers_along None end bytes)
    ≡ cells_along all bytes
straight_is all end bytes is =
    let n : end - 0 ≡ end = omega arith in
    ap (λ (o : Option (List ℕ)). option_map (λ (numbers : List ℕ). map (cell_from numbers) all) o)
    (plain_is end bytes)
    ∙ ap (λ (m : ℕ). option_map (λ (numbers : List ℕ). map (cell_from numbers) all)
    (plain_numbers m bytes)) (sym n) ∙ straight_along all 0 end [] bytes refl
    (straight_parts all 0 end is)

-- ---- integers of one byte

small_number : (n : ℕ) (rest : List ℕ) → n < 240 → number_at (n ∷ rest) ≡ Some (n, rest)
unfolding number_at integer_at
small_number n rest lt =
    let low : ltb n 240 ≡ true = lt-ltb n 240 lt in
    let same : n * 1 + 0 ≡ n = omega arith in
    let fits : leb (2 ^ 64) n ≡ false = lt-leb (2 ^ 64) n (omega arith) in
    rw (low, same, fits) refl

small_elapsed : (n : ℕ) → n < 240 → elapsed_of n ≡ n
small_elapsed n lt =
    let low : leb (2 ^ 32 - 60000) n ≡ false = lt-leb (2 ^ 32 - 60000) n (omega arith) in
    rw low refl

pub small_rate : (elapsed cur prev : ℕ) (rest : List ℕ) → elapsed < 240 → cur < 240 → prev < 240
    → rate_at (elapsed ∷ cur ∷ prev ∷ rest) ≡ Some (cells.Rate elapsed cur prev, rest)
small_rate elapsed cur prev rest a b c =
    let m : cur % 2 ^ 32 ≡ cur = omega arith in
    let n : prev % 2 ^ 32 ≡ prev = omega arith in
    rw (
      small_number elapsed (cur ∷ prev ∷ rest) a,
      small_number cur (prev ∷ rest) b,
      small_number prev rest c,
      small_elapsed elapsed a,
      m,
      n,
    ) refl

pub small_rate_front : (bytes : List ℕ) (elapsed cur prev : ℕ) → 3 ≤ length bytes
    → elapsed ≡ get_or bytes 0 0 → cur ≡ get_or bytes 1 0 → prev ≡ get_or bytes 2 0
    → elapsed < 240 → cur < 240 → prev < 240
    → rate_at bytes ≡ Some (cells.Rate elapsed cur prev, drop 3 bytes)
small_rate_front [] elapsed cur prev three is_a is_b is_c a b c = absurd (omega arith)
small_rate_front (x ∷ []) elapsed cur prev three is_a is_b is_c a b c = absurd (omega arith)
small_rate_front (x ∷ y ∷ []) elapsed cur prev three is_a is_b is_c a b c =
    absurd (omega arith)
small_rate_front (x ∷ y ∷ z ∷ rest) elapsed cur prev three is_a is_b is_c a b c =
    let low_a : x < 240 = omega (arith, is_a, a) in
    let low_b : y < 240 = omega (arith, is_b, b) in
    let low_c : z < 240 = omega (arith, is_c, c) in
    rw (is_a, is_b, is_c) (small_rate x y z rest low_a low_b low_c)

pub small_count : (wide : Bool) (count : ℕ) (rest : List ℕ) → count < 240
    → count_at wide (count ∷ rest) ≡ Some (cells.Count count, rest)
small_count true count rest low =
    let same : count % 2 ^ 64 ≡ count = omega arith in
    rw (small_number count rest low, same) refl
small_count false count rest low =
    let same : count % 2 ^ 32 ≡ count = omega arith in
    rw (small_number count rest low, same) refl

pub one_byte_front : (wide : Bool) (bytes : List ℕ) (count : ℕ) → 1 ≤ length bytes
    → count ≡ get_or bytes 0 0 → count < 240
    → count_at wide bytes ≡ Some (cells.Count count, drop 1 bytes)
one_byte_front wide [] count one is low = absurd (omega arith)
one_byte_front wide (x ∷ rest) count one is low =
    let small : x < 240 = omega (arith, is, low) in
    rw is (small_count wide x rest small)

-- ---- counts of two and of three bytes

found_count : (wide : Bool) (bytes : List ℕ) (count len : ℕ) → count < 2 ^ 32
    → integer_at bytes ≡ Ok (Some (count, len))
    → count_at wide bytes ≡ Some (cells.Count count, drop len bytes)
unfolding number_at
found_count true bytes count len low is =
    let same : count % 2 ^ 64 ≡ count = omega arith in
    rw (is, same) refl
found_count false bytes count len low is =
    let same : count % 2 ^ 32 ≡ count = omega arith in
    rw (is, same) refl

pub two_byte_front : (wide : Bool) (bytes : List ℕ) (first second : ℕ) → 2 ≤ length bytes
    → first ≡ get_or bytes 0 0 → second ≡ get_or bytes 1 0 → 240 ≤ first → first < 256
    → second < 128
    → count_at wide bytes ≡ Some (cells.Count (first + 16 * second), drop 2 bytes)
two_byte_front wide [] first second two is_a is_b high byte low = absurd (omega arith)
two_byte_front wide (x ∷ rest) first second two is_a is_b high byte low =
    let high_x : 240 ≤ x = omega (arith, is_a, high) in
    let byte_x : x < 256 = omega (arith, is_a, byte) in
    rw is_a (found_count wide (x ∷ rest) (x + 16 * second) 2 (omega arith)
    (two_front x second rest high_x byte_x (omega arith) is_b low))

pub three_byte_front : (wide : Bool) (bytes : List ℕ) (first second third : ℕ)
    → 3 ≤ length bytes → first ≡ get_or bytes 0 0 → second ≡ get_or bytes 1 0
    → third ≡ get_or bytes 2 0 → 240 ≤ first → first < 256 → 128 ≤ second → second < 256
    → third < 128 → count_at wide bytes
    ≡ Some (cells.Count (first + 16 * second + 2048 * third), drop 3 bytes)
three_byte_front wide [] first second third three is_a is_b is_c high byte more other low =
    absurd (omega arith)
three_byte_front wide (x ∷ rest) first second third three is_a is_b is_c high byte more other
    low =
    let high_x : 240 ≤ x = omega (arith, is_a, high) in
    let byte_x : x < 256 = omega (arith, is_a, byte) in
    rw is_a (found_count wide (x ∷ rest) (x + 16 * second + 2048 * third) 3 (omega arith)
    (three_front x second third rest high_x byte_x (omega arith) is_b is_c more other low))
