-- What a table keeps of its sums, as those of one key change.
use Rattle.std.proofs.Common.{◌≡◌, ℕ, Bool, true, false, cond, List, [], ◌∷◌, length, refl, sym}
use Rattle.std.proofs.Common.{◌∙◌, ap, arith}
use Rattle.std.specs.Prelude.{Option, Some, None, ◌==◌}
use Rattle.std.specs.declared.cmp.Ordering.{Ordering}
use Rattle.std.specs.declared.cmp.Ordering.TheVariants.{Less, Equal, Greater}
use Rattle.std.specs.Ordering.{match_ordering, is_eq, nat_cmp}
use Rattle.std.specs.Cmp.{IsTotalOrder}
use Rattle.std.specs.Cmp.Lexicographic.{slice_cmp, nat_list_cmp_total}
use Rattle.std.specs.Map.{keys_of, lookup, remove_entry, set_value}
use Rattle.std.specs.BTreeMap.{insert_entry, is_at}
use Rattle.std.specs.List.{AllByRecursion}
use Rattle.std.specs.List.Sorted.{IsStrictlySortedBy}
use Rattle.std.proofs.lemmas.Map.{keys-set_value}
use Rattle.std.proofs.lemmas.Bool.Decides.{nat_tests}
use Rattle.peer_rows.specs.declared.row.Held.{Held}
use Rattle.place_index.proofs.Sorted.{lookup_below, sorted_others}
use Rattle.fleet_sums.specs.Totals.{KeyTotals, with_row_less, without_row}
use Rattle.fleet_sums.specs.Sums.{TableSums, IsTable, sums_of_key}

-- a value in the place of one that is found is an insertion
pub set_value-found : {K X : Type 0} {R : K → K → Ordering} → IsTotalOrder R
    → (es : List (K × X)) (k : K) (old v : X) → IsStrictlySortedBy R (keys_of es)
    → lookup (is_at (R k)) es ≡ Some old → set_value (is_at (R k)) es v ≡ insert_entry R es k v
set_value-found o [] k old v s found = cc
set_value-found {K} {X} {R} o (e ∷ es) k old v s found =
    by (set_value-found o es k old v (sorted_others R e.0 es s)) (R k e.0) refl found
  where
    by : (lookup (is_at (R k)) es ≡ Some old → set_value (is_at (R k)) es v ≡ insert_entry R es k v)
        → (r : Ordering) → R k e.0 ≡ r → cond (is_eq r) (Some e.1) (lookup (is_at (R k)) es)
        ≡ Some old → cond (is_eq r) ((e.0, v) ∷ es) (e ∷ set_value (is_at (R k)) es v)
        ≡ match_ordering r ((k, v) ∷ e ∷ es) ((e.0, v) ∷ es) (e ∷ insert_entry R es k v)
    by more Less less is = let none : lookup (is_at (R k)) (e ∷ es) ≡ None =
        lookup_below R o k e es less s in let nothing = rw less at none in cc
    by more Equal equal is = refl
    by more Greater above is = ap (λ rest. e ∷ rest) (more is)

-- every key has a total for each of so many columns
abbrev AreWhole : ℕ → List (List ℕ × KeyTotals) → Type 0
AreWhole width es = AllByRecursion (λ e. length e.1.totals ≡ width) es

pub whole-lookup : (width : ℕ) (test : List ℕ → Bool) (es : List (List ℕ × KeyTotals))
    (k : KeyTotals) → AllByRecursion (λ e. length e.1.totals ≡ width) es → lookup test es ≡ Some k
    → length k.totals ≡ width
whole-lookup width test [] k f found = cc
whole-lookup width test (e ∷ es) k f found = by (whole-lookup width test es k f.1) (test e.0) found
  where
    by : (lookup test es ≡ Some k → length k.totals ≡ width) → (b : Bool)
        → cond b (Some e.1) (lookup test es) ≡ Some k → length k.totals ≡ width
    by more true is = let same : e.1 ≡ k = cc in ap (λ (t : KeyTotals). length t.totals) (sym same)
        ∙ f.0
    by more false is = more is

pub whole-set_value : (width : ℕ) (test : List ℕ → Bool) (es : List (List ℕ × KeyTotals))
    (k : KeyTotals) → AllByRecursion (λ e. length e.1.totals ≡ width) es → length k.totals ≡ width
    → AllByRecursion (λ e. length e.1.totals ≡ width) (set_value test es k)
whole-set_value width test [] k f is = tt
whole-set_value width test (e ∷ es) k f is = by (whole-set_value width test es k f.1 is) (test e.0)
  where
    by : AreWhole width (set_value test es k) → (b : Bool)
        → AreWhole width (cond b ((e.0, k) ∷ es) (e ∷ set_value test es k))
    by more true = (is, f.1)
    by more false = (f.0, more)

pub whole-remove_entry : (width : ℕ) (test : List ℕ → Bool) (es : List (List ℕ × KeyTotals))
    → AllByRecursion (λ e. length e.1.totals ≡ width) es
    → AllByRecursion (λ e. length e.1.totals ≡ width) (remove_entry test es)
whole-remove_entry width test [] f = tt
whole-remove_entry width test (e ∷ es) f = by (whole-remove_entry width test es f.1) (test e.0)
  where
    by : AreWhole width (remove_entry test es) → (b : Bool)
        → AreWhole width (cond b es (e ∷ remove_entry test es))
    by more true = f.1
    by more false = (f.0, more)

pub whole-insert_entry : (width : ℕ) (es : List (List ℕ × KeyTotals)) (key : List ℕ) (k : KeyTotals)
    → AllByRecursion (λ e. length e.1.totals ≡ width) es → length k.totals ≡ width
    → AllByRecursion (λ e. length e.1.totals ≡ width) (insert_entry (slice_cmp nat_cmp) es key k)
whole-insert_entry width [] key k f is = (is, tt)
whole-insert_entry width (e ∷ es) key k f is =
    by (whole-insert_entry width es key k f.1 is) (slice_cmp nat_cmp key e.0)
  where
    by : AreWhole width (insert_entry (slice_cmp nat_cmp) es key k) → (r : Ordering)
        → AreWhole width (match_ordering r ((key, k) ∷ e ∷ es) ((e.0, k) ∷ es)
        (e ∷ insert_entry (slice_cmp nat_cmp) es key k))
    by more Less = (is, f)
    by more Equal = (is, f.1)
    by more Greater = (f.0, more)

-- a table by its width and its sums
abbrev pub table_of : ℕ → List (List ℕ × KeyTotals) → TableSums
table_of width entries = record { width = width; entries = entries }

pub same_table : (width : ℕ) (es fs : List (List ℕ × KeyTotals)) → es ≡ fs
    → table_of width es ≡ table_of width fs
same_table width es fs e = ap (λ rows. table_of width rows) e

module _ (width : ℕ) (es : List (List ℕ × KeyTotals)) (key : List ℕ)
    (is_table : IsTable (table_of width es)) where
  module _ (old new : KeyTotals) (found : lookup (is_at (slice_cmp nat_cmp key)) es
      ≡ Some old) where
    pub width-held : length old.totals ≡ width
    width-held = whole-lookup width (is_at (slice_cmp nat_cmp key)) es old is_table.whole found

    pub sums-held : sums_of_key (table_of width es) key ≡ old
    sums-held = rw found refl

    pub set-held : set_value (is_at (slice_cmp nat_cmp key)) es new
        ≡ insert_entry (slice_cmp nat_cmp) es key new
    set-held = set_value-found nat_list_cmp_total es key old new is_table.ordered found

    pub table-set : (fs : List (List ℕ × KeyTotals))
        → fs ≡ set_value (is_at (slice_cmp nat_cmp key)) es new
        → length new.totals ≡ length old.totals → IsTable (table_of width fs)
    table-set fs is same = record {
      ordered = rw (is, keys-set_value) is_table.ordered;
      whole = rw is (whole-set_value width (is_at (slice_cmp nat_cmp key)) es new is_table.whole
          (same ∙ width-held));
    }

  pub table-remove : (fs : List (List ℕ × KeyTotals))
      → fs ≡ remove_entry (is_at (slice_cmp nat_cmp key)) es
      → IsStrictlySortedBy (slice_cmp nat_cmp) (keys_of fs) → IsTable (table_of width fs)
  table-remove fs is s = record {
    ordered = s;
    whole =
        rw is (whole-remove_entry width (is_at (slice_cmp nat_cmp key)) es is_table.whole);
  }

  pub table-insert : (fs : List (List ℕ × KeyTotals)) (k : KeyTotals)
      → fs ≡ insert_entry (slice_cmp nat_cmp) es key k → length k.totals ≡ width
      → IsStrictlySortedBy (slice_cmp nat_cmp) (keys_of fs) → IsTable (table_of width fs)
  table-insert fs k is same s = record {
    ordered = s;
    whole =
        rw is (whole-insert_entry width es key k is_table.whole same);
  }

-- the last row of a key, or not
pub last_row : (k : KeyTotals) (cells : List Held) → k.rows ≡ 1 → without_row k cells ≡ None
last_row k cells e = let one : (k.rows == 1) ≡ true = rw e refl in let none : Option KeyTotals =
    None in rw one refl

pub not_last_row : (k : KeyTotals) (cells : List Held) → (k.rows ≡ 1 → ⊥)
    → without_row k cells ≡ Some (with_row_less k cells)
not_last_row k cells e = let more : (k.rows == 1) ≡ false = grind (arith, nat_tests, e)
    in rw more refl
