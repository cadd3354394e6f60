-- What the test of two configurations says.
use Rattle.std.proofs.Common.{◌≡◌, ℕ, true, ◌&&◌, ◌==◌, List, []}
use Rattle.std.proofs.Common.{◌∷◌, length, Option, Some, None, refl, sym, ap, ◌∙◌, arith}
use Rattle.std.proofs.lemmas.Bool.{and_parts, eqb-true}
use Rattle.std.proofs.lemmas.Slice.Eq.{bytes_eq-Decides}
use Rattle.std.specs.Prelude.{is_none, slice_get, unwrap_or}
use Rattle.std.specs.Str.{bytes_eq}
use Rattle.agg_types.specs.Col.{all_cols, place}
use Rattle.agg_types.specs.Kind.{kind_number, kind_numbered, with_length}
use Rattle.agg_types.specs.declared.column.Col.{Col}
use Rattle.agg_types.specs.declared.column.Col.TheVariants as cols
use Rattle.agg_types.specs.declared.config.Config.{Config}
use Rattle.agg_types.specs.declared.config.KeyKind.{KeyKind}
use Rattle.agg_types.specs.declared.config.KeyKind.TheVariants.{Integer, Ip, Ipv6, Str, Binary}
use Rattle.agg_types.specs.declared.config.Shape.{Shape}
use Rattle.haproxy_import.specs.Same.{is_plain, kind_len, same_cols, same_head, same_keep}
use Rattle.haproxy_import.specs.Same.{same_kind, same_names, same_parts, same_peers}
use Rattle.haproxy_import.specs.Same.{same_stored, same_table, same_tables}

bytes_same : (xs ys : List ℕ) → bytes_eq xs ys ≡ true → xs ≡ ys
bytes_same xs ys e = (bytes_eq-Decides xs ys).0 e

none : {A : Type 0} → (xs : List A) → (length xs == 0) ≡ true → [] ≡ xs
none [] e = refl
none (x ∷ xs) e =
    let k : length (x ∷ xs) ≡ 0 = eqb-true _ _ e in
    absurd (omega arith)

unbounded : (rows : Option ℕ) → is_none rows ≡ true → None ≡ rows
unbounded None e = refl
unbounded (Some rows) e = absurd cc

at_place : (col : Col) → slice_get all_cols (place col) ≡ Some col
at_place cols.Gpc0 = refl
at_place col = refl

col_same : (a b : Col) → place a ≡ place b → a ≡ b
col_same a b e =
    let there : Some a ≡ Some b =
    sym (at_place a) ∙ (ap (λ i. slice_get all_cols i) e ∙ at_place b) in
    cc

-- the kind of a number, with this length
kind_of : ℕ → ℕ → KeyKind
kind_of number len = with_length (unwrap_or (kind_numbered number) Integer) len

kind_back : (kind : KeyKind) → kind_of (kind_number kind) (kind_len kind) ≡ kind
unfolding kind_of
kind_back Integer = refl
kind_back Ip = refl
kind_back Ipv6 = refl
kind_back (Str len) = refl
kind_back (Binary len) = refl

kind_same : (a b : KeyKind) → kind_number a ≡ kind_number b → kind_len a ≡ kind_len b → a ≡ b
kind_same a b number len =
    sym (kind_back a) ∙ (ap (λ n. kind_of n (kind_len a)) number
    ∙ (ap (λ n. kind_of (kind_number b) n) len ∙ kind_back b))

stored_same : (a b : Col × ℕ) → same_stored a b ≡ true → a ≡ b
stored_same a b e =
    let parts = and_parts (place a.0 == place b.0) (a.1 == b.1) e in
    let col : a.0 ≡ b.0 = col_same a.0 b.0 (eqb-true _ _ parts.0) in
    let period : a.1 ≡ b.1 = eqb-true _ _ parts.1 in
    ap (λ c. (c, a.1)) col ∙ ap (λ p. (b.0, p)) period

cols_same : (xs ys : List (Col × ℕ)) → same_cols xs ys ≡ true → xs ≡ ys
cols_same [] ys e = none ys e
cols_same (x ∷ xs) [] e = absurd cc
cols_same (x ∷ xs) (y ∷ ys) e =
    let parts = and_parts (same_stored x y) (same_cols xs ys) e in
    let first : x ≡ y = stored_same x y parts.0 in
    let rest : xs ≡ ys = cols_same xs ys parts.1 in
    cc

names_same : (xs ys : List (List ℕ)) → same_names xs ys ≡ true → xs ≡ ys
names_same [] ys e = none ys e
names_same (x ∷ xs) [] e = absurd cc
names_same (x ∷ xs) (y ∷ ys) e =
    let parts = and_parts (bytes_eq x y) (same_names xs ys) e in
    let first : x ≡ y = bytes_same x y parts.0 in
    let rest : xs ≡ ys = names_same xs ys parts.1 in
    cc

keep_same : (a b : Option ℕ) → same_keep a b ≡ true → a ≡ b
keep_same None None e = refl
keep_same None (Some b) e = absurd cc
keep_same (Some a) None e = absurd cc
keep_same (Some a) (Some b) e = ap (λ n. Some n) (eqb-true _ _ e)

table_of : List ℕ → KeyKind → ℕ → Option ℕ → List (Col × ℕ) → Shape
table_of name kind size keep cols =
    record { name = name; kind = kind; size = size; keep = keep; cols = cols }

table_same : (a b : Shape) → same_table a b ≡ true → a ≡ b
unfolding table_of
table_same a b e =
    let all = and_parts (same_head a b && (a.size == b.size) && same_keep a.keep b.keep)
    (same_cols a.cols b.cols) e in
    let two = and_parts (same_head a b && (a.size == b.size)) (same_keep a.keep b.keep) all.0 in
    let one = and_parts (same_head a b) (a.size == b.size) two.0 in
    let head = and_parts (bytes_eq a.name b.name) (same_kind a.kind b.kind) one.0 in
    let both = and_parts (kind_number a.kind == kind_number b.kind)
    (kind_len a.kind == kind_len b.kind) head.1 in
    let name : a.name ≡ b.name = bytes_same a.name b.name head.0 in
    let kind : a.kind ≡ b.kind =
    kind_same a.kind b.kind (eqb-true _ _ both.0) (eqb-true _ _ both.1) in
    let size : a.size ≡ b.size = eqb-true _ _ one.1 in
    let keep : a.keep ≡ b.keep = keep_same a.keep b.keep two.1 in
    let cols : a.cols ≡ b.cols = cols_same a.cols b.cols all.1 in
    ap (λ n. table_of n a.kind a.size a.keep a.cols) name
    ∙ (ap (λ k. table_of b.name k a.size a.keep a.cols) kind
    ∙ (ap (λ s. table_of b.name b.kind s a.keep a.cols) size
    ∙ (ap (λ l. table_of b.name b.kind b.size l a.cols) keep
    ∙ ap (λ c. table_of b.name b.kind b.size b.keep c) cols)))

tables_same : (xs ys : List Shape) → same_tables xs ys ≡ true → xs ≡ ys
tables_same [] ys e = none ys e
tables_same (x ∷ xs) [] e = absurd cc
tables_same (x ∷ xs) (y ∷ ys) e =
    let parts = and_parts (same_table x y) (same_tables xs ys) e in
    let first : x ≡ y = table_same x y parts.0 in
    let rest : xs ≡ ys = tables_same xs ys parts.1 in
    cc

-- the fields that a plain configuration leaves empty
record IsPlain (config : Config) : Type 0 where
  pub filters : [] ≡ config.filters
  pub ranks : [] ≡ config.ranks
  pub pushes : [] ≡ config.pushes
  pub rows : None ≡ config.rows
  pub logs : [] ≡ config.logs
  pub ignored : [] ≡ config.ignored

plain : (config : Config) → is_plain config ≡ true → IsPlain config
plain config e =
    let five = and_parts ((length config.filters == 0) && (length config.ranks == 0)
    && (length config.pushes == 0) && is_none config.rows && (length config.logs == 0))
    (length config.ignored == 0) e in
    let four = and_parts ((length config.filters == 0) && (length config.ranks == 0)
    && (length config.pushes == 0) && is_none config.rows) (length config.logs == 0) five.0 in
    let three = and_parts ((length config.filters == 0) && (length config.ranks == 0)
    && (length config.pushes == 0)) (is_none config.rows) four.0 in
    let two = and_parts ((length config.filters == 0) && (length config.ranks == 0))
    (length config.pushes == 0) three.0 in
    let one = and_parts (length config.filters == 0) (length config.ranks == 0) two.0 in
    record {
      filters = none config.filters one.0;
      ranks = none config.ranks one.1;
      pushes = none config.pushes two.1;
      rows = unbounded config.rows three.1;
      logs = none config.logs four.1;
      ignored = none config.ignored five.1;
    }

-- the configuration of a name, its peers and its tables
plain_of : List ℕ → List (List ℕ) → List Shape → Config
plain_of me peers tables = record {
  me = me;
  peers = peers;
  tables = tables;
  filters = [];
  ranks = [];
  pushes = [];
  rows = None;
  logs = [];
  ignored = [];
}

plain_is : (config : Config) → IsPlain config
    → plain_of config.me config.peers config.tables ≡ config
unfolding plain_of
plain_is config h =
    let a : Config =
    record config { ranks = []; pushes = []; rows = None; logs = []; ignored = [] } in
    let b : Config = record config { pushes = []; rows = None; logs = []; ignored = [] } in
    let d : Config = record config { rows = None; logs = []; ignored = [] } in
    let e : Config = record config { logs = []; ignored = [] } in
    let f : Config = record config { ignored = [] } in
    ap (λ filters. record a { filters = filters }) h.filters
    ∙ (ap (λ ranks. record b { ranks = ranks }) h.ranks
    ∙ (ap (λ pushes. record d { pushes = pushes }) h.pushes
    ∙ (ap (λ rows. record e { rows = rows }) h.rows
    ∙ (ap (λ logs. record f { logs = logs }) h.logs
    ∙ ap (λ ignored. record config { ignored = ignored }) h.ignored))))

pub parts_same : (a b : Config) → same_parts a b ≡ true → a ≡ b
parts_same a b e =
    let two = and_parts (is_plain a && is_plain b && same_peers a b)
    (same_tables a.tables b.tables) e in
    let one = and_parts (is_plain a && is_plain b) (same_peers a b) two.0 in
    let both = and_parts (is_plain a) (is_plain b) one.0 in
    let peers = and_parts (bytes_eq a.me b.me) (same_names a.peers b.peers) one.1 in
    sym (plain_is a (plain a both.0))
    ∙ (ap (λ me. plain_of me a.peers a.tables) (bytes_same a.me b.me peers.0)
    ∙ (ap (λ ps. plain_of b.me ps a.tables) (names_same a.peers b.peers peers.1)
    ∙ (ap (λ ts. plain_of b.me b.peers ts) (tables_same a.tables b.tables two.1)
    ∙ plain_is b (plain b both.1))))
