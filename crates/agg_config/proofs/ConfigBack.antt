-- A configuration without faults is what its declarations make, one after the other.
use Rattle.std.proofs.Common.{◌≡◌, ℕ, Bool, true, false, List, [], ◌∷◌, ◌++◌, map}
use Rattle.std.proofs.Common.{Option, None, Some, refl, ap, subst, sym, ◌∙◌, append_assoc}
use Rattle.std.proofs.Common.{append-nil}
use Rattle.std.specs.Prelude.{is_none, slice_get}
use Rattle.std.specs.List.{list_all}
use Rattle.agg_types.specs.Check.{all_faults, config_faults, each, filter_faults, ignored_faults}
use Rattle.agg_types.specs.Check.{log_faults, peer_faults, push_faults, rank_faults, rows_fit}
use Rattle.agg_types.specs.Check.{table_faults}
use Rattle.agg_types.specs.Name.{is_name}
use Rattle.agg_types.specs.declared.check.ConfigFault.{ConfigFault}
use Rattle.agg_types.specs.declared.config.Config.{Config}
use Rattle.agg_types.specs.declared.config.Filter as Filters
use Rattle.agg_types.specs.declared.config.Ignored.{Ignored}
use Rattle.agg_types.specs.declared.config.Logged.{Logged}
use Rattle.agg_types.specs.declared.config.Push as Pushes
use Rattle.agg_types.specs.declared.config.Rank as Ranks
use Rattle.agg_types.specs.declared.config.Shape.{Shape}
use Rattle.line_words.proofs.Checked.{Faultless, both_none, faultless, filter_fits, no_fault}
use Rattle.line_words.proofs.Checked.{no_faults, not_not, peer_named, rank_fits, table_fits}
use Rattle.line_words.proofs.Checked.{table_stands}
use Rattle.line_words.proofs.WordsBack.{both}
use Rattle.line_words.specs.Words.{lines_of}
use Rattle.agg_config.specs.Reading.{Write, bounds_again, declaring, is_me, opening, table_at}
use Rattle.line_words.specs.Conditions.{have_bounds}
use Rattle.agg_config.specs.Written.{filter_of, is_valid, is_valid_table, rank_of}
use Rattle.agg_config.specs.Written.{rows_declared, table_name, text_of}
use Rattle.agg_config.specs.declared.declarations.Declaration.{Declaration}
use Rattle.agg_config.specs.declared.declarations.Declaration.TheVariants.{Me, Peer, Push}
use Rattle.agg_config.specs.declared.declarations.Declaration.TheVariants.{Table, Log, Ignore}
use Rattle.agg_config.proofs.Finished.{read_none}
use Rattle.agg_config.proofs.Pushing.{ignored_named, log_named, named_filter, push_fits}
use Rattle.agg_config.proofs.TextBack.{Lead, text_back}

-- ---- lists of faults

-- those in front have no faults, where all have none
each-front : {A : Type 0} (faults : List A → A → List ConfigFault) (before xs ys : List A)
    → each faults before (xs ++ ys) ≡ [] → each faults before xs ≡ []
each-front faults before [] ys none = refl
each-front faults before (x ∷ xs) ys none =
    let h = both_none (faults before x) (each faults (before ++ x ∷ []) (xs ++ ys)) none in
    rw (h.0, each-front faults (before ++ x ∷ []) xs ys h.1) refl

-- nor has one of them, behind those before it
each-at : {A : Type 0} (faults : List A → A → List ConfigFault) (before xs : List A) (x : A)
    (ys : List A) → each faults before (xs ++ x ∷ ys) ≡ [] → faults (before ++ xs) x ≡ []
each-at faults before [] x ys none =
    let h = both_none (faults before x) (each faults (before ++ x ∷ []) ys) none in
    rw (append-nil before) h.0
each-at faults before (first ∷ xs) x ys none =
    let h = both_none (faults before first)
    (each faults (before ++ first ∷ []) (xs ++ x ∷ ys)) none in
    ap (λ l. faults l x) (sym (append_assoc before (first ∷ []) xs))
    ∙ each-at faults (before ++ first ∷ []) xs x ys h.1

-- ---- one section of the text

-- a section: what stands in it, one behind the other
record Section {A : Type 0} (at : List A → Config) (says : A → Declaration)
    (faults : List A → A → List ConfigFault) (fine : A → Bool) : Type 0 where
  pub valid : (before : List A) (x : A) → fine x ≡ true → faults before x ≡ []
      → is_valid (says x) ≡ true
  pub other : (x : A) → is_me (says x) ≡ false
  pub once : (before : List A) (x : A) → bounds_again (at before) (says x) ≡ false
  pub makes : (before : List A) (x : A) → faults before x ≡ []
      → declaring (at before) (says x) ≡ at (before ++ x ∷ [])
  pub faultless : (xs : List A) → each faults [] xs ≡ [] → all_faults (at xs) ≡ []

section : {A : Type 0} (at : List A → Config) (says : A → Declaration)
    (faults : List A → A → List ConfigFault) (fine : A → Bool) → Section at says faults fine
    → (before xs : List A) (rest : List Declaration) (after : Config) → list_all fine xs ≡ true
    → each faults [] (before ++ xs) ≡ [] → Lead (at (before ++ xs)) rest after
    → Lead (at before) (map says xs ++ rest) after
section at says faults fine s before [] rest after all none lead =
    subst (λ l. Lead (at l) rest after) (append-nil before) lead
section at says faults fine s before (x ∷ xs) rest after all none lead =
    let here = each-at faults [] before x xs none in
    let makes = s.makes before x here in
    let whole = append_assoc before (x ∷ []) xs in
    let none_on : each faults [] ((before ++ x ∷ []) ++ xs) ≡ [] =
    ap (λ l. each faults [] l) whole ∙ none in
    let h = both (fine x) (list_all fine xs) all in (
      record {
        valid = s.valid before x h.0 here;
        other = s.other x;
        once = s.once before x;
        faultless = ap all_faults makes
            ∙ s.faultless (before ++ x ∷ []) (each-front faults [] (before ++ x ∷ []) xs none_on);
      },
      subst (λ c. Lead c (map says xs ++ rest) after) (sym makes)
          (section at says faults fine s (before ++ x ∷ []) xs rest after h.1 none_on
          (subst (λ l. Lead (at l) rest after) (sym whole) lead)),
    )

all_fine : {A : Type 0} (xs : List A) → list_all (λ x. true) xs ≡ true
all_fine [] = refl
all_fine (x ∷ xs) = all_fine xs

-- ---- what has no faults

table_valid : (before : List Shape) (shape : Shape) → table_faults before shape ≡ []
    → is_valid_table shape ≡ true
table_valid before shape none =
    let fits = table_fits before shape none in
    rw (fits.named.valid, fits.length, fits.size, fits.keep, fits.periods, fits.ascend) refl

-- what is found of a table by the name that is written
record Found (tables : List Shape) (table : ℕ) : Type 0 where
  pub name : is_name (table_name tables table) ≡ true
  pub at : table_at tables (table_name tables table) ≡ table

found_some : (tables : List Shape) (table : ℕ) (at : Option Shape)
    → slice_get tables table ≡ at → is_none at ≡ false → each table_faults [] tables ≡ []
    → Found tables table
found_some tables table None e some none = absurd cc
found_some tables table (Some shape) e some none =
    let h = table_stands tables table shape none e in
    record { name = rw e h.name; at = rw (e, h.at) refl }

found : (tables : List Shape) (table : ℕ) → is_none (slice_get tables table) ≡ false
    → each table_faults [] tables ≡ [] → Found tables table
found tables table some none = found_some tables table (slice_get tables table) refl some none

-- ---- the configuration

-- the beginnings of a configuration
abbrev with_peers : List ℕ → List (List ℕ) → Config
with_peers me peers = record {
  me = me;
  peers = peers;
  tables = [];
  filters = [];
  ranks = [];
  pushes = [];
  rows = None;
  logs = [];
  ignored = [];
}

abbrev with_tables : Config → List Shape → Config
with_tables config tables = record config {
  tables = tables;
  filters = [];
  ranks = [];
  pushes = [];
  rows = None;
  logs = [];
  ignored = [];
}

abbrev with_filters : Config → List Filters.Filter → Config
with_filters config filters = record config {
  filters = filters;
  ranks = [];
  pushes = [];
  rows = None;
  logs = [];
  ignored = [];
}

abbrev with_ranks : Config → List Ranks.Rank → Config
with_ranks config ranks =
    record config { ranks = ranks; pushes = []; rows = None; logs = []; ignored = [] }

abbrev with_pushes : Config → List Pushes.Push → Config
with_pushes config pushes =
    record config { pushes = pushes; rows = None; logs = []; ignored = [] }

abbrev with_logs : Config → List Logged → Config
with_logs config logs = record config { logs = logs; ignored = [] }

abbrev with_ignored : Config → List Ignored → Config
with_ignored config ignored = record config { ignored = ignored }

-- what stands behind the ranked lists has no fault
record Behind (config : Config) : Type 0 where
  pub pushes : each (push_faults config.tables config.filters) [] config.pushes ≡ []
  pub rows : rows_fit config.rows ≡ true
  pub logs : each (log_faults config.filters) [] config.logs ≡ []
  pub ignored : each (ignored_faults config.tables) [] config.ignored ≡ []

nothing_behind : (config : Config) → config.pushes ≡ [] → config.rows ≡ None
    → config.logs ≡ [] → config.ignored ≡ [] → Behind config
nothing_behind config pushes rows logs ignored = record {
  pushes = rw pushes refl;
  rows = rw rows refl;
  logs = rw logs refl;
  ignored = rw ignored refl;
}

all_none : (config : Config) → Faultless config → Behind config → all_faults config ≡ []
all_none config h b = rw (no_faults config h, b.pushes, b.rows, b.logs, b.ignored) refl

peers_section : (me : List ℕ) → is_name me ≡ true
    → Section (with_peers me) Peer peer_faults (λ name. true)
peers_section me is = record {
  valid = λ before name fine none. (peer_named before name none).valid;
  other = λ name. refl;
  once = λ before name. refl;
  makes = λ before name none. refl;
  faultless = λ peers none. all_none (with_peers me peers) (record {
    me = is;
    peers = none;
    tables = refl;
    filters = refl;
    ranks = refl;
  }) (nothing_behind _ refl refl refl refl);
}

tables_section : (config : Config) → Faultless config
    → Section (with_tables config) Table table_faults (λ shape. true)
tables_section config h = record {
  valid = λ before shape fine none. table_valid before shape none;
  other = λ shape. refl;
  once = λ before shape. refl;
  makes = λ before shape none. refl;
  faultless = λ tables none. all_none (with_tables config tables) (record {
    me = h.me;
    peers = h.peers;
    tables = none;
    filters = refl;
    ranks = refl;
  }) (nothing_behind _ refl refl refl refl);
}

filter_valid : (tables : List Shape) (before : List Filters.Filter) (filter : Filters.Filter)
    → each table_faults [] tables ≡ [] → have_bounds filter.conds ≡ true
    → filter_faults tables before filter ≡ [] → is_valid (filter_of tables filter) ≡ true
filter_valid tables before filter sound bounds none =
    let fits = filter_fits tables before filter none in
    let its = found tables filter.table fits.table sound in
    rw (fits.named.valid, its.name, fits.few, bounds) refl

rank_valid : (tables : List Shape) (before : List Ranks.Rank) (rank : Ranks.Rank)
    → each table_faults [] tables ≡ [] → rank_faults tables before rank ≡ []
    → is_valid (rank_of tables rank) ≡ true
rank_valid tables before rank sound none =
    let fits = rank_fits tables before rank none in
    let its = found tables rank.table fits.table sound in
    rw (fits.named.valid, its.name, fits.few) refl

filter_makes : (config : Config) (before : List Filters.Filter) (filter : Filters.Filter)
    → each table_faults [] config.tables ≡ []
    → filter_faults config.tables before filter ≡ []
    → declaring (with_filters config before) (filter_of config.tables filter)
    ≡ with_filters config (before ++ filter ∷ [])
filter_makes config before filter sound none =
    let fits = filter_fits config.tables before filter none in
    let its = found config.tables filter.table fits.table sound in
    ap (λ (at : ℕ). with_filters config (before
    ++ record filter { table = at } ∷ [])) its.at

rank_makes : (config : Config) (before : List Ranks.Rank) (rank : Ranks.Rank)
    → each table_faults [] config.tables ≡ []
    → rank_faults config.tables before rank ≡ []
    → declaring (with_ranks config before) (rank_of config.tables rank)
    ≡ with_ranks config (before ++ rank ∷ [])
rank_makes config before rank sound none =
    let fits = rank_fits config.tables before rank none in
    let its = found config.tables rank.table fits.table sound in
    ap (λ (at : ℕ). with_ranks config (before ++ record rank { table = at } ∷ [])) its.at

filters_section : (config : Config) → Faultless config
    → Section (with_filters config) (filter_of config.tables) (filter_faults config.tables)
    (λ filter. have_bounds filter.conds)
filters_section config h = record {
  valid = λ before filter fine none. filter_valid config.tables before filter h.tables fine none;
  other = λ filter. refl;
  once = λ before filter. refl;
  makes = λ before filter none. filter_makes config before filter h.tables none;
  faultless = λ filters none. all_none (with_filters config filters) (record {
    me = h.me;
    peers = h.peers;
    tables = h.tables;
    filters = none;
    ranks = refl;
  }) (nothing_behind _ refl refl refl refl);
}

ranks_section : (config : Config) → Faultless config
    → Section (with_ranks config) (rank_of config.tables) (rank_faults config.tables)
    (λ rank. true)
ranks_section config h = record {
  valid = λ before rank fine none. rank_valid config.tables before rank h.tables none;
  other = λ rank. refl;
  once = λ before rank. refl;
  makes = λ before rank none. rank_makes config before rank h.tables none;
  faultless = λ ranks none. all_none (with_ranks config ranks) (record {
    me = h.me;
    peers = h.peers;
    tables = h.tables;
    filters = h.filters;
    ranks = none;
  }) (nothing_behind _ refl refl refl refl);
}

-- a push whose filter is named by that name has a name that may stand
push_valid : (config : Config) → Faultless config → (before : List Pushes.Push)
    → (push : Pushes.Push) → push_faults config.tables config.filters before push ≡ []
    → is_valid (Push push) ≡ true
push_valid config h before push none =
    let fits = push_fits config.tables config.filters before push none in
    rw (named_filter config.tables config.filters push.name h.filters fits.named, fits.hold) refl

pushes_section : (config : Config) → Faultless config
    → Section (with_pushes config) Push (push_faults config.tables config.filters) (λ push. true)
pushes_section config h = record {
  valid = λ before push fine none. push_valid config h before push none;
  other = λ push. refl;
  once = λ before push. refl;
  makes = λ before push none. refl;
  faultless = λ pushes none. all_none (with_pushes config pushes) (record {
    me = h.me;
    peers = h.peers;
    tables = h.tables;
    filters = h.filters;
    ranks = h.ranks;
  }) (record { pushes = none; rows = refl; logs = refl; ignored = refl });
}

-- a bound on all rows, where there is one, is declared behind what is pushed
rows_lead : (config : Config) (rows : Option ℕ) (rest : List Declaration) (after : Config)
    → config.rows ≡ rows → rows_fit rows ≡ true → all_faults (with_logs config []) ≡ []
    → Lead (with_logs config []) rest after
    → Lead (with_pushes config config.pushes) (rows_declared rows ++ rest) after
rows_lead config None rest after is fits none lead =
    subst (λ c. Lead c rest after)
    (ap (λ rows. record config { rows = rows; logs = []; ignored = [] }) is) lead
rows_lead config (Some rows) rest after is fits none lead =
    let same : with_logs config [] ≡ record config { rows = Some rows; logs = []; ignored = [] } =
    ap (λ rows. record config { rows = rows; logs = []; ignored = [] }) is in (
      record {
        valid = fits;
        other = refl;
        once = refl;
        faultless = ap all_faults (sym same) ∙ none;
      },
      subst (λ c. Lead c rest after) same lead,
    )

logs_section : (config : Config) → Faultless config → Behind config
    → Section (with_logs config) Log (log_faults config.filters) (λ logged. true)
logs_section config h b = record {
  valid = λ before logged fine none. named_filter config.tables config.filters logged.filter
      h.filters (log_named config.filters before logged none);
  other = λ logged. refl;
  once = λ before logged. refl;
  makes = λ before logged none. refl;
  faultless = λ logs none. all_none (with_logs config logs) (record {
    me = h.me;
    peers = h.peers;
    tables = h.tables;
    filters = h.filters;
    ranks = h.ranks;
  }) (record { pushes = b.pushes; rows = b.rows; logs = none; ignored = refl });
}

ignored_section : (config : Config) → Faultless config → Behind config
    → Section (with_ignored config) Ignore (ignored_faults config.tables) (λ ignored. true)
ignored_section config h b = record {
  valid = λ before ignored fine none. ignored_named config.tables before ignored none;
  other = λ ignored. refl;
  once = λ before ignored. refl;
  makes = λ before ignored none. refl;
  faultless = λ ignored none. all_none (with_ignored config ignored) (record {
    me = h.me;
    peers = h.peers;
    tables = h.tables;
    filters = h.filters;
    ranks = h.ranks;
  }) (record { pushes = b.pushes; rows = b.rows; logs = b.logs; ignored = none });
}

-- what is logged and what is ignored stands last
last_lead : (config : Config) → Faultless config → Behind config
    → Lead (with_logs config []) (map Log config.logs ++ map Ignore config.ignored) config
last_lead config h b =
    let ignored : Lead (with_ignored config []) (map Ignore config.ignored ++ []) config =
    section (with_ignored config) Ignore (ignored_faults config.tables) (λ ignored. true)
    (ignored_section config h b) [] config.ignored [] config (all_fine config.ignored) b.ignored
    refl in
    section (with_logs config) Log (log_faults config.filters) (λ logged. true)
    (logs_section config h b) [] config.logs (map Ignore config.ignored) config
    (all_fine config.logs) b.logs
    (subst (λ l. Lead (with_ignored config []) l config)
    (append-nil (map Ignore config.ignored)) ignored)

behind_ranks : (config : Config) → Faultless config → Behind config
    → Lead (with_pushes config []) (map Push config.pushes ++ (rows_declared config.rows
    ++ (map Log config.logs ++ map Ignore config.ignored))) config
behind_ranks config h b =
    section (with_pushes config) Push (push_faults config.tables config.filters) (λ push. true)
    (pushes_section config h) [] config.pushes _ config (all_fine config.pushes) b.pushes
    (rows_lead config config.rows _ config refl b.rows
    ((logs_section config h b).faultless [] refl) (last_lead config h b))

behind_name : (config : Config) → Faultless config → Behind config
    → list_all (λ filter. have_bounds filter.conds) config.filters ≡ true
    → Lead (with_peers config.me []) (map Peer config.peers ++ (map Table config.tables
    ++ (map (filter_of config.tables) config.filters
    ++ (map (rank_of config.tables) config.ranks
    ++ (map Push config.pushes ++ (rows_declared config.rows
    ++ (map Log config.logs ++ map Ignore config.ignored))))))) config
behind_name config h b bounds =
    section (with_peers config.me) Peer peer_faults (λ name. true)
    (peers_section config.me h.me) [] config.peers _ config (all_fine config.peers) h.peers
    (section (with_tables config) Table table_faults (λ shape. true) (tables_section config h) []
    config.tables _ config (all_fine config.tables) h.tables
    (section (with_filters config) (filter_of config.tables) (filter_faults config.tables)
    (λ filter. have_bounds filter.conds) (filters_section config h) [] config.filters _ config
    bounds h.filters
    (section (with_ranks config) (rank_of config.tables) (rank_faults config.tables)
    (λ rank. true) (ranks_section config h) [] config.ranks _ config (all_fine config.ranks)
    h.ranks (behind_ranks config h b))))

pub config_back : (config : Config) → all_faults config ≡ []
    → list_all (λ filter. have_bounds filter.conds) config.filters ≡ true
    → Write (lines_of (text_of config)) config
config_back config none bounds =
    let ignored = both_none _ _ none in
    let logs = both_none _ _ ignored.0 in
    let rows = both_none _ _ logs.0 in
    let pushes = both_none (config_faults config) _ rows.0 in
    let h = faultless config pushes.0 in
    let b : Behind config = record {
      pushes = pushes.1;
      rows = not_not _ (no_fault _ _ rows.1);
      logs = logs.1;
      ignored = ignored.1;
    } in
    text_back (with_peers config.me []) opening (Me config.me) _ config (read_none opening refl)
    refl h.me refl refl ((peers_section config.me h.me).faultless [] refl)
    (behind_name config h b bounds)
