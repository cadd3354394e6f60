-- What a configuration without faults has, and where its names stand first.
use Rattle.std.proofs.Common.{◌≡◌, ℕ, zero, suc, ◌+◌, Bool, true, false, eqb, leb, ltb}
use Rattle.std.proofs.Common.{◌||◌, not, List, [], ◌∷◌, ◌++◌, length, map, Some, refl}
use Rattle.std.proofs.Common.{subst, ◌∙◌, arith, append_assoc, length-append}
use Rattle.std.proofs.lemmas.Bool.Decides.{nat_tests}
use Rattle.std.specs.Prelude.{is_none, slice_get}
use Rattle.std.specs.List.{list_all, list_any, position_or_len}
use Rattle.std.specs.Str.{bytes_eq}
use Rattle.agg_types.specs.Check.{ascends, config_faults, each, fault_if, filter_faults, is_within}
use Rattle.agg_types.specs.Check.{keep_fits, len_fits, peer_faults, period_fits, rank_faults}
use Rattle.agg_types.specs.Check.{table_faults}
use Rattle.agg_types.specs.Col.{col_id}
use Rattle.agg_types.specs.Name.{is_name}
use Rattle.agg_types.specs.Naming.{place_of}
use Rattle.agg_types.specs.declared.check.ConfigFault.{ConfigFault}
use Rattle.agg_types.specs.declared.config.Config.{Config}
use Rattle.agg_types.specs.declared.config.Filter.{Filter}
use Rattle.agg_types.specs.declared.config.Rank.{Rank}
use Rattle.agg_types.specs.declared.config.Shape.{Shape}
use Rattle.agg_types.specs.declared.limits.TheConstants.{LARGEST_SIZE, LONGEST_RANK, MOST_CONDS}
use Rattle.line_words.proofs.WordsBack.{both, position_at, same_byte}

-- ---- lists of faults

pub both_none : {A : Type 0} (xs ys : List A) → xs ++ ys ≡ [] → (xs ≡ []) × (ys ≡ [])
both_none [] ys none = (refl, none)
both_none (x ∷ xs) ys none = absurd cc

pub no_fault : (there : Bool) (fault : ConfigFault) → fault_if there fault ≡ [] → there ≡ false
no_fault true fault none = absurd cc
no_fault false fault none = refl

pub not_not : (b : Bool) → not b ≡ false → b ≡ true
not_not true h = refl
not_not false h = absurd cc

pub neither : (a b : Bool) → (a || b) ≡ false → (a ≡ false) × (b ≡ false)
neither true b h = absurd cc
neither false b h = (refl, h)

-- ---- an entry without faults

-- it has a name, which none before it has
pub record HasName {A : Type 0} (name_of : A → List ℕ) (before : List A) (entry : A) : Type 0 where
  pub valid : is_name (name_of entry) ≡ true
  pub first : list_any (λ other. bytes_eq (name_of other) (name_of entry)) before ≡ false

pub peer_named : (before : List (List ℕ)) (name : List ℕ) → peer_faults before name ≡ []
    → HasName (λ peer. peer) before name
unfolding peer_faults
peer_named before name none =
    let a = both_none _ _ none in
    let b = both_none _ _ a.0 in
    record {
      valid = not_not (is_name name) (no_fault _ _ b.1);
      first = no_fault _ _ a.1;
    }

-- what a table has
pub record TableFits (before : List Shape) (shape : Shape) : Type 0 where
  pub named : HasName (λ table. table.name) before shape
  pub ascend : ascends (map (λ col. col_id col.0) shape.cols) ≡ true
  pub periods : list_all period_fits shape.cols ≡ true
  pub keep : keep_fits shape.keep ≡ true
  pub size : is_within shape.size LARGEST_SIZE ≡ true
  pub length : len_fits shape.kind ≡ true

pub table_fits : (before : List Shape) (shape : Shape) → table_faults before shape ≡ []
    → TableFits before shape
unfolding table_faults
table_fits before shape none =
    let a = both_none _ _ none in
    let b = both_none _ _ a.0 in
    let c = both_none _ _ b.0 in
    let d = both_none _ _ c.0 in
    let twice = neither _ _ (no_fault _ _ c.1) in
    let times = both _ _ (not_not _ (no_fault _ _ b.1)) in
    let sizes = both _ _ (not_not _ (no_fault _ _ a.1)) in
    record {
      named = record {
        valid = not_not (is_name shape.name) (no_fault _ _ d.1);
        first = twice.0;
      };
      ascend = not_not _ twice.1;
      periods = times.0;
      keep = times.1;
      size = sizes.0;
      length = sizes.1;
    }

within : (n most : ℕ) → eqb n 0 ≡ false → ltb most n ≡ false → is_within n most ≡ true
within n most some few =
    let low : leb 1 n ≡ true = grind (arith, nat_tests) in
    let high : leb n most ≡ true = grind (arith, nat_tests) in
    rw (low, high) refl

-- what a filter has
pub record FilterFits (tables : List Shape) (before : List Filter) (filter : Filter) : Type 0 where
  pub named : HasName (λ filter. filter.name) before filter
  pub few : is_within (length filter.conds) MOST_CONDS ≡ true
  pub table : is_none (slice_get tables filter.table) ≡ false

pub filter_fits : (tables : List Shape) (before : List Filter) (filter : Filter)
    → filter_faults tables before filter ≡ [] → FilterFits tables before filter
unfolding filter_faults
filter_fits tables before filter none =
    let a = both_none _ _ none in
    let b = both_none _ _ a.0 in
    let c = both_none _ _ b.0 in
    let d = both_none _ _ c.0 in
    let e = both_none _ _ d.0 in
    record {
      named = record {
        valid = not_not (is_name filter.name) (no_fault _ _ e.1);
        first = no_fault _ _ d.1;
      };
      few = within (length filter.conds) MOST_CONDS (no_fault _ _ a.1)
          (neither _ _ (no_fault _ _ e.0)).1;
      table = no_fault _ _ c.1;
    }

-- what a ranked list has
pub record RankFits (tables : List Shape) (before : List Rank) (rank : Rank) : Type 0 where
  pub named : HasName (λ rank. rank.name) before rank
  pub few : is_within rank.n LONGEST_RANK ≡ true
  pub table : is_none (slice_get tables rank.table) ≡ false

pub rank_fits : (tables : List Shape) (before : List Rank) (rank : Rank)
    → rank_faults tables before rank ≡ [] → RankFits tables before rank
unfolding rank_faults
rank_fits tables before rank none =
    let a = both_none _ _ none in
    let b = both_none _ _ a.0 in
    let c = both_none _ _ b.0 in
    let d = both_none _ _ c.0 in
    let e = both_none _ _ d.0 in
    record {
      named = record {
        valid = not_not (is_name rank.name) (no_fault _ _ e.1);
        first = no_fault _ _ d.1;
      };
      few = not_not (is_within rank.n LONGEST_RANK) (no_fault _ _ a.1);
      table = no_fault _ _ c.1;
    }

-- ---- the first place of a name

same_bytes : (name : List ℕ) → bytes_eq name name ≡ true
same_bytes [] = refl
same_bytes (byte ∷ name) = rw (same_byte byte, same_bytes name) refl

first_passes : {A : Type 0} (p : A → Bool) (before : List A) (entry : A) (rest : List A)
    → list_any p before ≡ false → p entry ≡ true
    → position_or_len p (before ++ entry ∷ rest) ≡ length before
first_passes p [] entry rest none is = rw is refl
first_passes p (first ∷ before) entry rest none is =
    let h = neither (p first) (list_any p before) none in
    rw (h.0, first_passes p before entry rest h.1 is) (omega arith)

-- an entry has a name, and stands first of those that have it, at this place
pub record Stands {A : Type 0} (name_of : A → List ℕ) (all : List A) (entry : A) (i : ℕ)
    : Type 0 where
  pub name : is_name (name_of entry) ≡ true
  pub at : place_of name_of all (name_of entry) ≡ Some i

-- the entries of a list without faults stand where their names say
pub stands : {A : Type 0} (name_of : A → List ℕ) (faults : List A → A → List ConfigFault)
    → ((before : List A) (entry : A) → faults before entry ≡ [] → HasName name_of before entry)
    → (before rest : List A) (i : ℕ) (entry : A) → each faults before rest ≡ []
    → slice_get rest i ≡ Some entry
    → Stands name_of (before ++ rest) entry (length before + i)
stands name_of faults named before [] i entry none is = absurd cc
stands name_of faults named before (first ∷ rest) zero entry none is =
    let h = both_none (faults before first) _ none in
    let same : first ≡ entry = cc in
    let its : HasName name_of before entry =
    subst (λ e. HasName name_of before e) same (named before first h.0) in
    let ends : position_or_len (λ other. bytes_eq (name_of other) (name_of entry))
    (before ++ first ∷ rest) ≡ length before + 0 =
    first_passes (λ other. bytes_eq (name_of other) (name_of entry)) before first rest its.first
    (rw same (same_bytes (name_of entry))) ∙ omega arith in
    record {
      name = its.valid;
      at = position_at _ (before ++ first ∷ rest) (length before + 0) ends
          (omega (arith, length-append before (first ∷ rest)));
    }
stands name_of faults named before (first ∷ rest) (suc i) entry none is =
    let h = both_none (faults before first) _ none in
    let later : Stands name_of ((before ++ first ∷ []) ++ rest) entry
    (length (before ++ first ∷ []) + i) =
    stands name_of faults named (before ++ first ∷ []) rest i entry h.1 is in
    let place : length (before ++ first ∷ []) + i ≡ length before + suc i =
    omega (arith, length-append before (first ∷ [])) in
    subst (λ n. Stands name_of (before ++ first ∷ rest) entry n) place
    (subst (λ l. Stands name_of l entry (length (before ++ first ∷ []) + i))
    (append_assoc before (first ∷ []) rest) later)

-- ---- the configuration

-- no part of a configuration has a fault
pub record Faultless (config : Config) : Type 0 where
  pub me : is_name config.me ≡ true
  pub peers : each peer_faults [] config.peers ≡ []
  pub tables : each table_faults [] config.tables ≡ []
  pub filters : each (filter_faults config.tables) [] config.filters ≡ []
  pub ranks : each (rank_faults config.tables) [] config.ranks ≡ []

pub faultless : (config : Config) → config_faults config ≡ [] → Faultless config
faultless config none =
    let a = both_none _ _ none in
    let b = both_none _ _ a.0 in
    let c = both_none _ _ b.0 in
    let d = both_none _ _ c.0 in
    record {
      me = not_not (is_name config.me) (no_fault _ _ d.0);
      peers = d.1;
      tables = c.1;
      filters = b.1;
      ranks = a.1;
    }

pub no_faults : (config : Config) → Faultless config → config_faults config ≡ []
no_faults config h = rw (h.me, h.peers, h.tables, h.filters, h.ranks) refl

-- each table, filter and ranked list stands where its name says
pub table_stands : (tables : List Shape) (i : ℕ) (shape : Shape) → each table_faults [] tables ≡ []
    → slice_get tables i ≡ Some shape → Stands (λ table. table.name) tables shape i
table_stands tables i shape none is =
    subst (λ n. Stands (λ table. table.name) tables shape n) (omega arith)
    (stands (λ table. table.name) table_faults (λ before table h. (table_fits before table h).named)
    [] tables i shape none is)

pub filter_stands : (tables : List Shape) (filters : List Filter) (i : ℕ) (filter : Filter)
    → each (filter_faults tables) [] filters ≡ [] → slice_get filters i ≡ Some filter
    → Stands (λ filter. filter.name) filters filter i
filter_stands tables filters i filter none is =
    subst (λ n. Stands (λ filter. filter.name) filters filter n) (omega arith)
    (stands (λ filter. filter.name) (filter_faults tables)
    (λ before filter h. (filter_fits tables before filter h).named) [] filters i filter none is)

pub rank_stands : (tables : List Shape) (ranks : List Rank) (i : ℕ) (rank : Rank)
    → each (rank_faults tables) [] ranks ≡ [] → slice_get ranks i ≡ Some rank
    → Stands (λ rank. rank.name) ranks rank i
rank_stands tables ranks i rank none is =
    subst (λ n. Stands (λ rank. rank.name) ranks rank n) (omega arith)
    (stands (λ rank. rank.name) (rank_faults tables)
    (λ before rank h. (rank_fits tables before rank h).named) [] ranks i rank none is)
