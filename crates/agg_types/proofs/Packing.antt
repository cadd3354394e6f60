-- What the entries of a batch say over its cells, and cells that are added behind others.
use Rattle.std.proofs.Common.{◌≡◌, ℕ, zero, suc, ◌+◌, ◌<◌, ◌≤◌, List, [], ◌∷◌, ◌++◌, length}
use Rattle.std.proofs.Common.{get_or, drop, refl, sym, ◌∙◌, ap, arith, length-append}
use Rattle.std.proofs.Common.{length-drop}
use Rattle.std.proofs.Math.Seq.{drop-append_seam, take-length}
use Rattle.std.proofs.lemmas.List.{drop-append-le, length-map, map-append, take-append-le}
use Rattle.std.proofs.lemmas.Option.{slice_get-map, slice_get_read}
use Rattle.std.specs.Option.{option_map}
use Rattle.std.specs.Prelude.{map, slice_get, Option, Some}
use Rattle.agg_types.specs.declared.event.What.{What}
use Rattle.agg_types.specs.declared.event.What.TheVariants as whats
use Rattle.agg_types.specs.Whats.{AreWithin, entry_what, life_of}
use Rattle.agg_types.specs.declared.event.Cell.{Cell}
use Rattle.agg_types.specs.declared.entry.Entry.{Entry}
use Rattle.agg_types.specs.declared.entry.Entry.TheVariants.{Put, Packed, Other}

-- ---- cells behind others
-- what entries say stays where cells are added
pub entries-more : (cells more : List Cell) (entries : List Entry)
    → AreWithin (length cells) entries
    → map (entry_what (cells ++ more)) entries ≡ map (entry_what cells) entries
entries-more cells more [] within = refl
entries-more cells more (Put count table peer start life key ∷ entries) within =
    let begins : start ≤ length cells = omega (arith, within.0) in
    let ends : count ≤ length (drop start cells) =
    omega (arith, within.0, length-drop start cells) in
    rw (
      drop-append-le start cells more begins,
      take-append-le count (drop start cells) more ends,
      entries-more cells more entries within.1,
    ) refl
entries-more cells more (Packed table peer life key packed ∷ entries) within =
    rw (entries-more cells more entries within) refl
entries-more cells more (Other what ∷ entries) within =
    rw (entries-more cells more entries within) refl

pub AreWithin-more : (len more : ℕ) (entries : List Entry) → len ≤ more → AreWithin len entries
    → AreWithin more entries
AreWithin-more len more [] fewer within = tt
AreWithin-more len more (Put count table peer start life key ∷ entries) fewer within =
    (omega (arith, within.0, fewer), AreWithin-more len more entries fewer within.1)
AreWithin-more len more (Packed table peer life key packed ∷ entries) fewer within =
    AreWithin-more len more entries fewer within
AreWithin-more len more (Other what ∷ entries) fewer within =
    AreWithin-more len more entries fewer within

pub AreWithin-append : (len : ℕ) (entries others : List Entry) → AreWithin len entries
    → AreWithin len others → AreWithin len (entries ++ others)
AreWithin-append len [] others within last = last
AreWithin-append len (Put count table peer start life key ∷ entries) others within last =
    (within.0, AreWithin-append len entries others within.1 last)
AreWithin-append len (Packed table peer life key packed ∷ entries) others within last =
    AreWithin-append len entries others within last
AreWithin-append len (Other what ∷ entries) others within last =
    AreWithin-append len entries others within last

-- an update behind others
pub entries-put : (cells later more : List Cell) (entries all : List Entry) (entry : Entry)
    (seen : List What) (what : What)
    → later ≡ cells ++ more → all ≡ entries ++ entry ∷ []
    → AreWithin (length cells) entries → map (entry_what cells) entries ≡ seen
    → entry_what (cells ++ more) entry ≡ what
    → map (entry_what later) all ≡ seen ++ what ∷ []
entries-put cells later more entries all entry seen what is are within view says =
    let same : map (entry_what (cells ++ more)) entries ≡ seen =
    entries-more cells more entries within ∙ view in
    rw (is, are, map-append (entry_what (cells ++ more)) entries (entry ∷ []), says, same) refl

-- what it says
pub put-says : (before cells : List Cell) (count table peer start word : ℕ) (key : List ℕ)
    (life : Option ℕ) → count ≡ length cells → start ≡ length before → life_of word ≡ life
    → entry_what (before ++ cells) (Put count table peer start word key)
    ≡ whats.Put peer table key life cells
put-says before cells count table peer start word key life counts begins lives =
    rw (counts, begins, lives, drop-append_seam before cells, take-length cells) refl

pub entries-within : (cells later more : List Cell) (entries all : List Entry) (entry : Entry)
    → later ≡ cells ++ more → all ≡ entries ++ entry ∷ []
    → AreWithin (length cells) entries → AreWithin (length (cells ++ more)) (entry ∷ [])
    → AreWithin (length later) all
entries-within cells later more entries all entry is are within last =
    let long : length (cells ++ more) ≡ length cells + length more = length-append cells more in
    rw (is, are) (AreWithin-append _ entries _
    (AreWithin-more (length cells) _ entries (omega (arith, long)) within) last)

-- ---- one of a list, and those behind it
drop-found : {A : Type 0} → (xs : List A) (place : ℕ) (x : A) → slice_get xs place ≡ Some x
    → drop place xs ≡ x ∷ drop (place + 1) xs
drop-found [] place x found = cc
drop-found (y ∷ xs) zero x found = let same : y ≡ x = cc in rw same refl
drop-found (y ∷ xs) (suc place) x found =
    let same : suc place + 1 ≡ suc (place + 1) = omega arith in
    rw same (drop-found xs place x found)

pub drop-lent : (cells : List Cell) (entries : List Entry) (place : ℕ) (entry : Entry)
    (seen : List What) (lent : What)
    → map (entry_what cells) entries ≡ seen → place < length seen
    → entry ≡ get_or entries place entry → lent ≡ entry_what cells entry
    → drop place seen ≡ lent ∷ drop (place + 1) seen
drop-lent cells entries place entry seen lent view within at is =
    let long : length seen ≡ length entries = ap length (sym view)
    ∙ length-map entries (entry_what cells) in
    let found : slice_get entries place ≡ Some entry =
    slice_get_read entries (length entries) place entry refl (omega (arith, long, within)) at in
    let there : slice_get seen place ≡ Some lent =
    rw (← view, is) (slice_get-map (entry_what cells) entries place
    ∙ ap (option_map (entry_what cells)) found) in
    drop-found seen place lent there
