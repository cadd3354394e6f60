-- What a checked configuration pushes.
use Rattle.std.proofs.Common.{◌≡◌, ℕ, zero, suc, ◌+◌, ◌^◌, ◌<◌, ◌≤◌, Bool, true, false, ◌&&◌}
use Rattle.std.proofs.Common.{◌||◌, leb, List, [], ◌∷◌, ◌++◌, length, map, Option, None, Some}
use Rattle.std.proofs.Common.{refl, ap, subst, arith, length-append}
use Rattle.std.specs.Prelude.{not, slice_get}
use Rattle.std.specs.List.{AllByRecursion, list_all, list_any}
use Rattle.std.specs.Option.{option_and_then, option_map_or}
use Rattle.std.specs.Str.{bytes_eq}
use Rattle.std.proofs.lemmas.Bool.{and_parts, leb-true, leb-false}
use Rattle.std.proofs.lemmas.Slice.Eq.{bytes_eq-Decides}
use Rattle.agg_types.specs.Check.{all_faults, config_faults, each, fault_if, filter_faults}
use Rattle.agg_types.specs.Check.{len_fits, push_faults, rows_fit, table_faults}
use Rattle.agg_types.specs.declared.check.ConfigFault.TheVariants.{BadSize}
use Rattle.agg_types.specs.Name.{is_name, is_printable}
use Rattle.agg_types.specs.declared.check.ConfigFault.{ConfigFault}
use Rattle.agg_types.specs.declared.config.Config.{Config}
use Rattle.agg_types.specs.declared.config.Filter.{Filter}
use Rattle.agg_types.specs.declared.config.KeyKind.{KeyKind}
use Rattle.agg_types.specs.declared.config.KeyKind.TheVariants.{Integer, Ip, Ipv6, Str, Binary}
use Rattle.agg_types.specs.declared.config.Push.{Push}
use Rattle.agg_types.specs.declared.config.Shape.{Shape}
use Rattle.pushed_keys.specs.Pushes.{filter_named, life_of, pushed_as, pushed_of}
use Rattle.telling.specs.Telling.{key_length}
use Rattle.turn_laws.specs.Written.{AreTables, IsTable}

-- ---- no faults

no_left : {A : Type 0} (xs ys : List A) → xs ++ ys ≡ [] → xs ≡ []
no_left [] ys e = refl
no_left (x ∷ xs) ys e = absurd (cc e)

no_right : {A : Type 0} (xs ys : List A) → xs ++ ys ≡ [] → ys ≡ []
no_right [] ys e = e
no_right (x ∷ xs) ys e = absurd (cc e)

no_fault : (there : Bool) (fault : ConfigFault) → fault_if there fault ≡ [] → there ≡ false
no_fault true fault e = absurd (cc e)
no_fault false fault e = refl

not_false : (b : Bool) → not b ≡ false → b ≡ true
not_false true e = refl
not_false false e = absurd (cc e)

-- an entry without faults, behind some others
abbrev IsClean : {A : Type 0} → (List A → A → List ConfigFault) → A → Type 0
IsClean {A} faults entry = (before : List A) × (faults before entry ≡ [])

all_clean : {A : Type 0} (faults : List A → A → List ConfigFault) (before entries : List A)
    → each faults before entries ≡ [] → AllByRecursion (IsClean faults) entries
all_clean faults before [] e = tt
all_clean faults before (x ∷ xs) e = (
  (before, no_left (faults before x) (each faults (before ++ x ∷ []) xs) e),
  all_clean faults (before ++ x ∷ []) xs
      (no_right (faults before x) (each faults (before ++ x ∷ []) xs) e),
)

all_weaker : {A : Type 0} (P Q : A → Type 0) → ((x : A) → P x → Q x) → (xs : List A)
    → AllByRecursion P xs → AllByRecursion Q xs
all_weaker P Q f [] h = tt
all_weaker P Q f (x ∷ xs) h = (f x h.0, all_weaker P Q f xs h.1)

-- ---- names

name_short : (bytes : List ℕ) → is_name bytes ≡ true → length bytes ≤ 128
name_short bytes e =
    let front = and_parts (leb 1 (length bytes) && leb (length bytes) 128)
    (list_all is_printable bytes) e in
    let most = and_parts (leb 1 (length bytes)) (leb (length bytes) 128) front.0 in
    leb-true _ _ most.1

filter_name : (tables : List Shape) (filter : Filter) → IsClean (filter_faults tables) filter
    → is_name filter.name ≡ true
unfolding filter_faults
filter_name tables filter h = not_false (is_name filter.name) (no_fault _ _
    (no_right _ _ (no_left _ _ (no_left _ _ (no_left _ _ (no_left _ _ h.1))))))

found_name : (filters : List Filter) (name : List ℕ)
    → AllByRecursion (λ filter. is_name filter.name ≡ true) filters
    → list_any (λ filter. bytes_eq filter.name name) filters ≡ true → is_name name ≡ true
found_name [] name h e = absurd (cc e)
found_name (filter ∷ filters) name h e =
    by (bytes_eq filter.name name) refl e (λ more. found_name filters name h.1 more)
  where
    by : (b : Bool) → bytes_eq filter.name name ≡ b
        → (b || list_any (λ filter. bytes_eq filter.name name) filters) ≡ true
        → (list_any (λ filter. bytes_eq filter.name name) filters ≡ true → is_name name ≡ true)
        → is_name name ≡ true
    by true is e rest =
        subst (λ (n : List ℕ). is_name n ≡ true) ((bytes_eq-Decides filter.name name).0 is) h.0
    by false is e rest = rest e

push_found : (tables : List Shape) (filters : List Filter) (push : Push)
    → IsClean (push_faults tables filters) push
    → list_any (λ filter. bytes_eq filter.name push.name) filters ≡ true
unfolding push_faults
push_found tables filters push h =
    not_false (list_any (λ filter. bytes_eq filter.name push.name) filters)
    (no_fault _ _ (no_right _ _ (no_left _ _ h.1)))

-- ---- counts

push_few : (tables : List Shape) (filters : List Filter) (before : List Push) (push : Push)
    → push_faults tables filters before push ≡ [] → length before < 16
unfolding push_faults
push_few tables filters before push e =
    leb-false _ _ (no_fault _ _ (no_left _ _ (no_left _ _ (no_left _ _ e))))

pushes_few : (tables : List Shape) (filters : List Filter) (before pushes : List Push)
    → each (push_faults tables filters) before pushes ≡ [] → length before ≤ 16
    → length before + length pushes ≤ 16
pushes_few tables filters before [] e few = omega arith
pushes_few tables filters before (push ∷ pushes) e few =
    let one : length before < 16 = push_few tables filters before push (no_left
    (push_faults tables filters before push)
    (each (push_faults tables filters) (before ++ push ∷ []) pushes) e) in
    let more : length (before ++ push ∷ []) ≡ length before + 1 =
    length-append before (push ∷ []) in
    let rest : each (push_faults tables filters) (before ++ push ∷ []) pushes ≡ [] =
    no_right (push_faults tables filters before push)
    (each (push_faults tables filters) (before ++ push ∷ []) pushes) e in
    let all : length (before ++ push ∷ []) + length pushes ≤ 16 =
    pushes_few tables filters (before ++ push ∷ []) pushes rest (omega (arith, more, one)) in
    omega (arith, more, all)

-- ---- kinds

len_small : (kind : KeyKind) → len_fits kind ≡ true → key_length kind < 2 ^ 64
len_small Integer e = omega arith
len_small Ip e = omega arith
len_small Ipv6 e = omega arith
len_small (Str len) e = omega arith
len_small (Binary len) e =
    let most : len ≤ 256 = leb-true _ _ (and_parts (leb 1 len) (leb len 256) e).1 in
    omega (arith, most)

table_len : (shape : Shape) → IsClean table_faults shape → len_fits shape.kind ≡ true
unfolding table_faults
table_len shape h =
    (and_parts _ (len_fits shape.kind) (not_false _ (no_fault _ _ (no_right _ _ h.1)))).1

shape_at : (tables : List Shape) (place : ℕ)
    → AllByRecursion (λ shape. len_fits shape.kind ≡ true) tables
    → key_length (option_map_or (λ shape. shape.kind) (slice_get tables place) Ip) < 2 ^ 64
shape_at [] place h = omega arith
shape_at (shape ∷ tables) zero h = len_small shape.kind h.0
shape_at (shape ∷ tables) (suc place) h = shape_at tables place h.1

kind_small : (tables : List Shape) (filter : Option Filter)
    → AllByRecursion (λ shape. len_fits shape.kind ≡ true) tables
    → key_length (option_map_or (λ shape. shape.kind)
    (option_and_then (λ filter. slice_get tables filter.table) filter) Ip) < 2 ^ 64
kind_small tables None h = omega arith
kind_small tables (Some filter) h = shape_at tables filter.table h

life_small : (hold : Option ℕ) → life_of hold < 2 ^ 32
life_small None = omega arith
life_small (Some hold) = omega arith

-- ---- all

push_table : (config : Config) (push : Push)
    → AllByRecursion (λ shape. len_fits shape.kind ≡ true) config.tables
    → is_name push.name ≡ true → IsTable (pushed_as config push)
push_table config push h named = record {
  name = name_short push.name named;
  length = kind_small config.tables (filter_named config push.name) h;
  life = life_small push.hold;
}

push_tables : (config : Config) (pushes : List Push)
    → AllByRecursion (λ shape. len_fits shape.kind ≡ true) config.tables
    → AllByRecursion (λ push. is_name push.name ≡ true) pushes
    → AllByRecursion IsTable (map (pushed_as config) pushes)
push_tables config [] h named = tt
push_tables config (push ∷ pushes) h named =
    (push_table config push h named.0, push_tables config pushes h named.1)

pushed_length : (config : Config) (pushes : List Push)
    → length (map (pushed_as config) pushes) ≡ length pushes
pushed_length config [] = refl
pushed_length config (push ∷ pushes) = ap suc (pushed_length config pushes)

-- each table that a configuration without faults pushes has a definition
pub pushed_tables : (config : Config) → all_faults config ≡ [] → AreTables (pushed_of config)
unfolding pushed_of
pushed_tables config e =
    let bounded : config_faults config
    ++ each (push_faults config.tables config.filters) [] config.pushes
    ++ fault_if (not (rows_fit config.rows)) BadSize ≡ [] = no_left _ _ (no_left _ _ e) in
    let parts : config_faults config
    ++ each (push_faults config.tables config.filters) [] config.pushes ≡ [] =
    no_left _ (fault_if (not (rows_fit config.rows)) BadSize) bounded in
    let followed : config_faults config ≡ [] =
    no_left (config_faults config)
    (each (push_faults config.tables config.filters) [] config.pushes) parts in
    let pushes : each (push_faults config.tables config.filters) [] config.pushes ≡ [] =
    no_right (config_faults config)
    (each (push_faults config.tables config.filters) [] config.pushes) parts in
    let few : 0 + length config.pushes ≤ 16 =
    pushes_few config.tables config.filters [] config.pushes pushes (omega arith) in
    let count : length (map (pushed_as config) config.pushes) < 2 ^ 64 =
    omega (arith, few, pushed_length config config.pushes) in
    let filters : each (filter_faults config.tables) [] config.filters ≡ [] =
    no_right _ _ (no_left _ _ followed) in
    let tables : each table_faults [] config.tables ≡ [] =
    no_right _ _ (no_left _ _ (no_left _ _ followed)) in
    let named : AllByRecursion (λ filter. is_name filter.name ≡ true) config.filters =
    all_weaker (IsClean (filter_faults config.tables)) (λ filter. is_name filter.name ≡ true)
    (filter_name config.tables) config.filters
    (all_clean (filter_faults config.tables) [] config.filters filters) in
    record {
      few = count;
      each = push_tables config config.pushes
          (all_weaker (IsClean table_faults) (λ shape. len_fits shape.kind ≡ true) table_len
          config.tables (all_clean table_faults [] config.tables tables))
          (all_weaker (IsClean (push_faults config.tables config.filters))
          (λ push. is_name push.name ≡ true)
          (λ push clean. found_name config.filters push.name named
          (push_found config.tables config.filters push clean)) config.pushes
          (all_clean (push_faults config.tables config.filters) [] config.pushes pushes));
    }
