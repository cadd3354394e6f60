-- Reading the values of an update along a plan.
use Rattle.std.proofs.Common.{inl, inr, ◌≡◌, ℕ, zero, suc, ◌+◌, ◌-◌, ◌*◌, ◌<◌, ◌≤◌, Bool, true}
use Rattle.std.proofs.Common.{false, ◌==◌, ◌&&◌, eqb, cond, List, [], ◌∷◌, ◌++◌, length, drop, map}
use Rattle.std.proofs.Common.{Option, Some, None, refl, sym, ap, subst, ◌∙◌, arith, append_assoc}
use Rattle.std.proofs.Common.{append-nil, add-one, length-append, min, not, ◌≢◌}
use Rattle.std.proofs.lemmas.Bool.{ltb-true, ltb-false, lt-ltb, le-ltb, le-leb, lt-leb, cases_lt}
use Rattle.std.proofs.lemmas.Bool.{eqb-true, leb-true}
use Rattle.std.proofs.lemmas.Option.{none-some, same_Some, slice_get_past}
use Rattle.std.proofs.lemmas.List.{drop-drop, drop_at}
use Rattle.std.specs.Prelude.{ltb, leb, slice_get, unwrap_or, vec_len}
use Rattle.std.specs.Option.{option_map, option_map_or}
use Rattle.peers_msg.specs.Payload.{◌>>=◌, number_at, string_at, is_array}
use Rattle.peers_msg.specs.declared.data_types.TheConstants.{SERVER_KEY, GPC_ARRAY, GPC_RATE_ARRAY}
use Rattle.peers_msg.proofs.Payloads.{bool_is, bind_some}
use Rattle.agg_types.proofs.Columns.{of_each}
use Rattle.agg_types.specs.Col.{col_id, is_rate, is_wide}
use Rattle.agg_types.specs.declared.column.Col.{Col}
use Rattle.agg_types.specs.declared.column.Col.TheVariants as cols
use Rattle.agg_types.specs.declared.event.Cell.{Cell}
use Rattle.agg_types.specs.declared.event.Cell.TheVariants as cells
use Rattle.update_values.specs.declared.decode_plan.DecodePlan.{DecodePlan}
use Rattle.update_values.specs.declared.layout.Layout.{Layout}
use Rattle.update_values.specs.declared.layout.Place.{Place}
use Rattle.update_values.specs.declared.layout.TheConstants.{MOST_ELEMENTS}
use Rattle.update_values.specs.declared.plan.Source.{Source}
use Rattle.update_values.specs.Layout.{cell_place, count_of, element_for, has_period, has_type}
use Rattle.update_values.specs.Layout.{if_element, is_rate_type, place_of, types_read, value_width}
use Rattle.update_values.specs.Layout.{width_of}
use Rattle.update_values.specs.Values.{cell_of, cells_at, count_in, numbers_at, numbers_of, rate_in}
use Rattle.update_values.specs.Values.{value_at, values_from}
use Rattle.update_values.specs.Plan.{IsPlan, cell_from, name_before, numbers_along, planned}
use Rattle.update_values.specs.Plan.{source_at, source_of, widths}

pub widths-last : (layout : Layout) (n kind : ℕ)
    → widths layout (suc n) kind ≡ widths layout n kind + width_of layout (kind + n)
widths-last layout zero kind =
    let k : kind + 0 ≡ kind = omega arith in
    rw k (omega arith)
widths-last layout (suc n) kind =
    let k : suc kind + n ≡ kind + suc n = omega arith in
    let rest : widths layout (suc n) (suc kind)
    ≡ widths layout n (suc kind) + width_of layout (suc kind + n) =
    widths-last layout n (suc kind) in
    let rest' : widths layout (suc n) (suc kind)
    ≡ widths layout n (suc kind) + width_of layout (kind + suc n) =
    rest ∙ ap (λ m. widths layout n (suc kind) + width_of layout m) k in
    omega (arith, rest')

pub widths_more : (layout : Layout) (kind all : ℕ) → all ≡ widths layout kind 0
    → all + width_of layout kind ≡ widths layout (kind + 1) 0
widths_more layout kind all is =
    let k : 0 + kind ≡ kind = omega arith in
    let last : widths layout (suc kind) 0 ≡ widths layout kind 0 + width_of layout kind =
    widths-last layout kind 0 ∙ ap (λ m. widths layout kind 0 + width_of layout m) k in
    rw (add-one, last, is) refl

widths_by : (layout : Layout) (n more : ℕ) → widths layout n 0 ≤ widths layout (n + more) 0
widths_by layout n zero =
    let same : n + 0 ≡ n = omega arith in
    rw same (omega arith)
widths_by layout n (suc more) =
    let next : n + suc more ≡ suc (n + more) = omega arith in
    let last = widths-last layout (n + more) 0 in
    rw next (omega (arith, last, widths_by layout n more))

pub widths_within : (layout : Layout) (n m : ℕ) → n ≤ m → widths layout n 0 ≤ widths layout m 0
widths_within layout n m le =
    let all : n + (m - n) ≡ m = omega (arith, le) in
    subst (λ k. widths layout n 0 ≤ widths layout k 0) all (widths_by layout n (m - n))

-- ---- numbers, one at a time

abbrev pub behind_numbers : List ℕ → Option (List ℕ × List ℕ) → Option (List ℕ × List ℕ)
behind_numbers front found =
    option_map (λ (others : List ℕ × List ℕ). (front ++ others.0, others.1)) found

pub numbers_none : (o : Option (List ℕ × List ℕ)) → behind_numbers [] o ≡ o
numbers_none None = refl
numbers_none (Some found) = refl

behind_first : (front : List ℕ) (number : ℕ) (others : Option (List ℕ × List ℕ))
    → behind_numbers front (others >>= λ more. Some (number ∷ more.0, more.1))
    ≡ behind_numbers (front ++ number ∷ []) others
behind_first front number None = refl
behind_first front number (Some more) =
    ap (λ (bs : List ℕ). Some (bs, more.1)) (sym (append_assoc front (number ∷ []) more.0))

pub numbers_more : (n i : ℕ) (front bytes after : List ℕ) (number : ℕ) → i < n
    → number_at bytes ≡ Some (number, after) → behind_numbers front (numbers_at (n - i) bytes)
    ≡ behind_numbers (front ++ number ∷ []) (numbers_at (n - (i + 1)) after)
unfolding numbers_at
numbers_more n i front bytes after number lt is =
    let m : n - i ≡ suc (n - (i + 1)) = omega arith in
    rw (m, is) (behind_first front number (numbers_at (n - (i + 1)) after))

pub numbers_cut : (n i : ℕ) (front bytes : List ℕ) → i < n → number_at bytes ≡ None
    → behind_numbers front (numbers_at (n - i) bytes) ≡ None
unfolding numbers_at
numbers_cut n i front bytes lt is =
    let m : n - i ≡ suc (n - (i + 1)) = omega arith in
    rw (m, is) refl

pub numbers_all : (n i : ℕ) (front bytes : List ℕ) → i ≡ n
    → behind_numbers front (numbers_at (n - i) bytes) ≡ Some (front, bytes)
unfolding numbers_at
numbers_all n i front bytes e =
    let m : n - i ≡ 0 = omega arith in
    rw m (ap (λ (bs : List ℕ). Some (bs, bytes)) (append-nil front))

-- ---- numbers in front of others

-- so many numbers, and others that are read behind them
abbrev pub and_then : Option (List ℕ × List ℕ) → (List ℕ → Option (List ℕ)) → Option (List ℕ)
and_then front next =
    front >>= λ (x : List ℕ × List ℕ). next x.1 >>= λ (others : List ℕ). Some (x.0 ++ others)

first_then : (number : ℕ) (front : Option (List ℕ × List ℕ)) (next : List ℕ → Option (List ℕ))
    → and_then (front >>= λ (x : List ℕ × List ℕ). Some (number ∷ x.0, x.1)) next
    ≡ (and_then front next >>= λ (all : List ℕ). Some (number ∷ all))
first_then number None next = refl
first_then number (Some x) next =
    elim (next x.1) as (λ (o : Option (List ℕ)).
    (o >>= λ (others : List ℕ). Some (number ∷ (x.0 ++ others)))
    ≡ ((o >>= λ (others : List ℕ). Some (x.0 ++ others))
    >>= λ (all : List ℕ). Some (number ∷ all))) [
      | None ↦ refl
      | Some others ↦ refl
    ]

abbrev without_rest : Option (List ℕ × List ℕ) → Option (List ℕ)
without_rest o = option_map (λ (x : List ℕ × List ℕ). x.0) o

rest_dropped : (number : ℕ) (o : Option (List ℕ × List ℕ))
    → without_rest (o >>= λ (x : List ℕ × List ℕ). Some (number ∷ x.0, x.1))
    ≡ (without_rest o >>= λ (all : List ℕ). Some (number ∷ all))
rest_dropped number None = refl
rest_dropped number (Some x) = refl

plain_then_by : (n m : ℕ) (o : Option (ℕ × List ℕ))
    → ((bytes : List ℕ) → without_rest (numbers_at (n + m) bytes)
    ≡ and_then (numbers_at n bytes) (λ rest. without_rest (numbers_at m rest)))
    → without_rest (o >>= λ (first : ℕ × List ℕ). numbers_at (n + m) first.1
    >>= λ (others : List ℕ × List ℕ). Some (first.0 ∷ others.0, others.1))
    ≡ and_then (o >>= λ (first : ℕ × List ℕ). numbers_at n first.1
    >>= λ (others : List ℕ × List ℕ). Some (first.0 ∷ others.0, others.1))
    (λ rest. without_rest (numbers_at m rest))
plain_then_by n m None same = refl
plain_then_by n m (Some first) same =
    rest_dropped first.0 (numbers_at (n + m) first.1)
    ∙ ap (λ (o : Option (List ℕ)). o >>= λ (all : List ℕ). Some (first.0 ∷ all)) (same first.1)
    ∙ sym (first_then first.0 (numbers_at n first.1) (λ rest. without_rest (numbers_at m rest)))

option_same : (o : Option (List ℕ)) → (o >>= λ (others : List ℕ). Some ([] ++ others)) ≡ o
option_same None = refl
option_same (Some others) = refl

plain_then : (n m : ℕ) (bytes : List ℕ) → without_rest (numbers_at (n + m) bytes)
    ≡ and_then (numbers_at n bytes) (λ rest. without_rest (numbers_at m rest))
unfolding numbers_at
plain_then zero m bytes =
    let z : 0 + m ≡ m = omega arith in
    rw z (sym (option_same (without_rest (numbers_at m bytes))))
plain_then (suc n) m bytes =
    let s : suc n + m ≡ suc (n + m) = omega arith in
    rw s (plain_then_by n m (number_at bytes) (λ rest. plain_then n m rest))

-- what is read behind numbers with a name among them
abbrev behind_name : ℕ → List ℕ × List ℕ → Option (List ℕ)
behind_name m front =
    string_at front.1 >>= λ (name : List ℕ × List ℕ). numbers_at m name.1
    >>= λ (others : List ℕ × List ℕ). Some (front.0 ++ others.0)

put_front : (first x : List ℕ) (o : Option (List ℕ × List ℕ))
    → (o >>= λ (others : List ℕ × List ℕ). Some ((first ++ x) ++ others.0))
    ≡ ((o >>= λ (others : List ℕ × List ℕ). Some (x ++ others.0))
    >>= λ (all : List ℕ). Some (first ++ all))
put_front first x None = refl
put_front first x (Some others) = ap Some (append_assoc first x others.0)

named_front : (m : ℕ) (first x rest : List ℕ) (o : Option (List ℕ × List ℕ))
    → (o >>= λ (name : List ℕ × List ℕ). numbers_at m name.1
    >>= λ (others : List ℕ × List ℕ). Some ((first ++ x) ++ others.0))
    ≡ ((o >>= λ (name : List ℕ × List ℕ). numbers_at m name.1
    >>= λ (others : List ℕ × List ℕ). Some (x ++ others.0))
    >>= λ (all : List ℕ). Some (first ++ all))
named_front m first x rest None = refl
named_front m first x rest (Some name) = put_front first x (numbers_at m name.1)

one_front_by : (number : ℕ) (front : List ℕ) (o : Option (List ℕ × List ℕ))
    → (behind_numbers front o >>= λ (others : List ℕ × List ℕ). Some
    (number ∷ others.0, others.1)) ≡ behind_numbers (number ∷ front) o
one_front_by number front None = refl
one_front_by number front (Some others) = refl

one_front : (number : ℕ) (o : Option (List ℕ × List ℕ)) (m : ℕ)
    → ((o >>= λ (x : List ℕ × List ℕ). behind_numbers x.0 (numbers_at m x.1))
    >>= λ (others : List ℕ × List ℕ). Some (number ∷ others.0, others.1))
    ≡ ((o >>= λ (others : List ℕ × List ℕ). Some (number ∷ others.0, others.1))
    >>= λ (x : List ℕ × List ℕ). behind_numbers x.0 (numbers_at m x.1))
one_front number None m = refl
one_front number (Some x) m = one_front_by number x.0 (numbers_at m x.1)

both_by : (n m : ℕ) (o : Option (ℕ × List ℕ))
    → ((rest : List ℕ) → numbers_at (n + m) rest
    ≡ (numbers_at n rest >>= λ (x : List ℕ × List ℕ). behind_numbers x.0 (numbers_at m x.1)))
    → (o >>= λ (first : ℕ × List ℕ). numbers_at (n + m) first.1
    >>= λ (others : List ℕ × List ℕ). Some (first.0 ∷ others.0, others.1))
    ≡ ((o >>= λ (first : ℕ × List ℕ). numbers_at n first.1
    >>= λ (others : List ℕ × List ℕ). Some (first.0 ∷ others.0, others.1))
    >>= λ (x : List ℕ × List ℕ). behind_numbers x.0 (numbers_at m x.1))
both_by n m None same = refl
both_by n m (Some first) same =
    ap (λ (o : Option (List ℕ × List ℕ)). o >>= λ (others : List ℕ × List ℕ). Some
    (first.0 ∷ others.0, others.1)) (same first.1)
    ∙ one_front first.0 (numbers_at n first.1) m

-- so many numbers, and so many more
both_then : (n m : ℕ) (bytes : List ℕ) → numbers_at (n + m) bytes
    ≡ (numbers_at n bytes >>= λ (x : List ℕ × List ℕ). behind_numbers x.0 (numbers_at m x.1))
unfolding numbers_at
both_then zero m bytes =
    let z : 0 + m ≡ m = omega arith in
    rw z (sym (numbers_none (numbers_at m bytes)))
both_then (suc n) m bytes =
    let s : suc n + m ≡ suc (n + m) = omega arith in
    rw s (both_by n m (number_at bytes) (λ rest. both_then n m rest))

named_by : (b m : ℕ) (first : List ℕ × List ℕ) (o : Option (List ℕ × List ℕ))
    → (behind_numbers first.0 o >>= behind_name m)
    ≡ ((o >>= behind_name m) >>= λ (all : List ℕ). Some (first.0 ++ all))
named_by b m first None = refl
named_by b m first (Some x) = named_front m first.0 x.0 x.1 (string_at x.1)

named_then_by : (b m : ℕ) (o : Option (List ℕ × List ℕ))
    → ((o >>= λ (x : List ℕ × List ℕ). behind_numbers x.0 (numbers_at b x.1)) >>= behind_name m)
    ≡ and_then o (λ rest. numbers_at b rest >>= behind_name m)
named_then_by b m None = refl
named_then_by b m (Some x) = named_by b m x (numbers_at b x.1)

-- the numbers of a plan, behind those of one more data type
pub along_more : (name : Option ℕ) (w m : ℕ) (bytes : List ℕ)
    → numbers_along (option_map (λ b. w + b) name) (w + m) bytes
    ≡ and_then (numbers_at w bytes) (numbers_along name m)
along_more None w m bytes = plain_then w m bytes
along_more (Some b) w m bytes =
    let r : (w + m) - (w + b) ≡ m - b = omega arith in
    rw (r, both_then w b bytes) (named_then_by b (m - b) (numbers_at w bytes))

-- ---- values, and all their numbers

abbrev pub flat : List (List ℕ) → List ℕ
flat [] = []
flat (first ∷ others) = first ++ flat others

-- before which number a name stands among so many data types from this one on
abbrev pub name_within : Layout → ℕ → ℕ → Option ℕ
name_within layout n kind =
    cond (has_type layout.bits SERVER_KEY && (leb kind SERVER_KEY && ltb SERVER_KEY (kind + n)))
    (Some (widths layout (SERVER_KEY - kind) kind)) None

abbrev Reads : Layout → ℕ → ℕ → List ℕ → Type 0
Reads layout n kind bytes =
    option_map flat (values_from layout n kind bytes)
    ≡ numbers_along (name_within layout n kind) (widths layout n kind) bytes

value_then : (first : List ℕ) (o : Option (List (List ℕ)))
    → option_map flat (o >>= λ (others : List (List ℕ)). Some (first ∷ others))
    ≡ (option_map flat o >>= λ (all : List ℕ). Some (first ++ all))
value_then first None = refl
value_then first (Some others) = refl

values_then : (next : List ℕ → Option (List (List ℕ))) (o : Option (List ℕ × List ℕ))
    → option_map flat (o >>= λ (first : List ℕ × List ℕ). next first.1
    >>= λ (others : List (List ℕ)). Some (first.0 ∷ others))
    ≡ and_then o (λ rest. option_map flat (next rest))
values_then next None = refl
values_then next (Some first) = value_then first.0 (next first.1)

same_then : (o : Option (List ℕ × List ℕ)) (next other : List ℕ → Option (List ℕ))
    → ((rest : List ℕ) → next rest ≡ other rest) → and_then o next ≡ and_then o other
same_then None next other same = refl
same_then (Some first) next other same =
    ap (λ (o : Option (List ℕ)). o >>= λ (others : List ℕ). Some (first.0 ++ others))
    (same first.1)

-- a data type of numbers
reads_numbers : (layout : Layout) (n kind : ℕ) (bytes : List ℕ)
    → (has_type layout.bits kind && (kind == SERVER_KEY)) ≡ false
    → name_within layout (suc n) kind
    ≡ option_map (λ b. width_of layout kind + b) (name_within layout n (suc kind))
    → ((rest : List ℕ) → Reads layout n (suc kind) rest) → Reads layout (suc n) kind bytes
unfolding values_from value_at
reads_numbers layout n kind bytes none shifted next =
    rw none (values_then (values_from layout n (suc kind)) (numbers_at (width_of layout kind) bytes)
    ∙ same_then (numbers_at (width_of layout kind) bytes)
    (λ rest. option_map flat (values_from layout n (suc kind) rest))
    (numbers_along (name_within layout n (suc kind)) (widths layout n (suc kind))) next
    ∙ sym (along_more (name_within layout n (suc kind)) (width_of layout kind)
    (widths layout n (suc kind)) bytes)
    ∙ ap (λ (name : Option ℕ). numbers_along name (widths layout (suc n) kind) bytes)
    (sym shifted))

no_and : (b : Bool) (x : ℕ) → cond (b && false) (Some x) None ≡ None
no_and true x = refl
no_and false x = refl

no_name : (layout : Layout) (n kind : ℕ) → SERVER_KEY < kind → name_within layout n kind ≡ None
no_name layout n kind lt = rw (lt-leb kind SERVER_KEY lt) (no_and (has_type layout.bits SERVER_KEY)
    (widths layout (SERVER_KEY - kind) kind))

shift_past : (layout : Layout) (n kind : ℕ) → SERVER_KEY < kind
    → name_within layout (suc n) kind
    ≡ option_map (λ b. width_of layout kind + b) (name_within layout n (suc kind))
shift_past layout n kind lt =
    no_name layout (suc n) kind lt
    ∙ ap (λ (name : Option ℕ). option_map (λ b. width_of layout kind + b) name)
    (sym (no_name layout n (suc kind) (omega (arith, lt))))

cond_shift : (b : Bool) (x w : ℕ)
    → cond b (Some (w + x)) None ≡ option_map (λ y. w + y) (cond b (Some x) None)
cond_shift true x w = refl
cond_shift false x w = refl

shift_before : (layout : Layout) (n kind : ℕ) → kind < SERVER_KEY
    → name_within layout (suc n) kind
    ≡ option_map (λ b. width_of layout kind + b) (name_within layout n (suc kind))
shift_before layout n kind lt =
    let less : SERVER_KEY - kind ≡ suc (SERVER_KEY - suc kind) = omega (arith, lt) in
    let end : kind + suc n ≡ suc kind + n = omega arith in
    rw (
      less,
      end,
      le-leb kind SERVER_KEY (omega (arith, lt)),
      le-leb (suc kind) SERVER_KEY (omega (arith, lt)),
    ) (cond_shift (has_type layout.bits SERVER_KEY && ltb SERVER_KEY (suc kind + n))
    (widths layout (SERVER_KEY - suc kind) (suc kind)) (width_of layout kind))

-- a definition without a name has none at any place
shift_none : (layout : Layout) (n kind : ℕ) → has_type layout.bits SERVER_KEY ≡ false
    → name_within layout (suc n) kind
    ≡ option_map (λ b. width_of layout kind + b) (name_within layout n (suc kind))
shift_none layout n kind none = rw none refl

-- the name itself
name_then : (next : List ℕ → Option (List (List ℕ))) (o : Option (List ℕ × List ℕ))
    → option_map flat ((o >>= λ (text : List ℕ × List ℕ). Some ([], text.1))
    >>= λ (first : List ℕ × List ℕ). next first.1
    >>= λ (others : List (List ℕ)). Some (first.0 ∷ others))
    ≡ (o >>= λ (text : List ℕ × List ℕ). option_map flat (next text.1))
name_then next None = refl
name_then next (Some text) =
    value_then [] (next text.1) ∙ option_same (option_map flat (next text.1))

rest_then : (m : ℕ) (o : Option (List ℕ × List ℕ))
    → (o >>= λ (name : List ℕ × List ℕ). without_rest (numbers_at m name.1))
    ≡ (o >>= λ (name : List ℕ × List ℕ). numbers_at m name.1
    >>= λ (others : List ℕ × List ℕ). Some ([] ++ others.0))
rest_then m None = refl
rest_then m (Some name) =
    elim (numbers_at m name.1) as (λ (o : Option (List ℕ × List ℕ)).
    without_rest o ≡ (o >>= λ (others : List ℕ × List ℕ). Some ([] ++ others.0))) [
      | None ↦ refl
      | Some others ↦ refl
    ]

text_then : (o : Option (List ℕ × List ℕ)) (next other : List ℕ → Option (List ℕ))
    → ((rest : List ℕ) → next rest ≡ other rest)
    → (o >>= λ (text : List ℕ × List ℕ). next text.1)
    ≡ (o >>= λ (text : List ℕ × List ℕ). other text.1)
text_then None next other same = refl
text_then (Some text) next other same = same text.1

reads_name : (layout : Layout) (n : ℕ) (bytes : List ℕ) → has_type layout.bits SERVER_KEY ≡ true
    → ((rest : List ℕ) → Reads layout n (suc SERVER_KEY) rest)
    → Reads layout (suc n) SERVER_KEY bytes
unfolding values_from value_at numbers_at
reads_name layout n bytes some next =
    let within : ltb SERVER_KEY (SERVER_KEY + suc n) ≡ true =
    lt-ltb SERVER_KEY (SERVER_KEY + suc n) (omega arith) in
    let named : name_within layout (suc n) SERVER_KEY ≡ Some 0 = rw (some, within) refl in
    let none : name_within layout n (suc SERVER_KEY) ≡ None =
    no_name layout n (suc SERVER_KEY) (omega arith) in
    let wide : widths layout (suc n) SERVER_KEY ≡ widths layout n (suc SERVER_KEY) =
    rw some (omega arith) in
    let all : (widths layout (suc n) SERVER_KEY) - 0 ≡ widths layout n (suc SERVER_KEY) =
    omega (arith, wide) in
    rw (named, all, some) (name_then (values_from layout n (suc SERVER_KEY)) (string_at bytes)
    ∙ text_then (string_at bytes)
    (λ rest. option_map flat (values_from layout n (suc SERVER_KEY) rest))
    (λ rest. without_rest (numbers_at (widths layout n (suc SERVER_KEY)) rest))
    (λ rest. next rest ∙ ap (λ (name : Option ℕ). numbers_along name
    (widths layout n (suc SERVER_KEY)) rest) none)
    ∙ rest_then (widths layout n (suc SERVER_KEY)) (string_at bytes))

and_none : (b : Bool) → (b && false) ≡ false
and_none true = refl
and_none false = refl

not_name : (layout : Layout) (kind : ℕ) → kind ≢ SERVER_KEY
    → (has_type layout.bits kind && (kind == SERVER_KEY)) ≡ false
not_name layout kind other =
    let e : eqb kind SERVER_KEY ≡ false = grind (arith, other) in
    rw e (and_none (has_type layout.bits kind))

unnamed_by : (layout : Layout) (kind : ℕ) (b : Bool) → (kind == SERVER_KEY) ≡ b
    → has_type layout.bits SERVER_KEY ≡ false → (has_type layout.bits kind && b) ≡ false
unnamed_by layout kind false is none = and_none (has_type layout.bits kind)
unnamed_by layout kind true is none =
    let e : kind ≡ SERVER_KEY = eqb-true kind SERVER_KEY is in
    rw (e, none) refl

unnamed : (layout : Layout) (kind : ℕ) → has_type layout.bits SERVER_KEY ≡ false
    → (has_type layout.bits kind && (kind == SERVER_KEY)) ≡ false
unnamed layout kind none = unnamed_by layout kind (kind == SERVER_KEY) refl none

none_within : (layout : Layout) (kind : ℕ) → name_within layout 0 kind ≡ None
none_within layout kind =
    elim (cases_lt SERVER_KEY kind) [
      | inl past ↦ no_name layout 0 kind past
      | inr le ↦
          let end : ltb SERVER_KEY (kind + 0) ≡ false = le-ltb SERVER_KEY (kind + 0)
          (omega (arith, le)) in
          rw (end, and_none (leb kind SERVER_KEY)) (no_and (has_type layout.bits SERVER_KEY)
          (widths layout (SERVER_KEY - kind) kind))
    ]

reads_none : (layout : Layout) (kind : ℕ) (bytes : List ℕ) → Reads layout 0 kind bytes
unfolding values_from numbers_at
reads_none layout kind bytes = rw (none_within layout kind) refl

pub reads : (layout : Layout) (n kind : ℕ) (bytes : List ℕ) → Reads layout n kind bytes
reads layout zero kind bytes = reads_none layout kind bytes
reads layout (suc n) kind bytes =
    elim (bool_is (has_type layout.bits SERVER_KEY)) [
      | inl some ↦
          elim (cases_lt kind SERVER_KEY) [
            | inl lt ↦ reads_numbers layout n kind bytes (not_name layout kind (omega (arith, lt)))
                (shift_before layout n kind lt) (λ rest. reads layout n (suc kind) rest)
            | inr le ↦
                elim (cases_lt SERVER_KEY kind) [
                  | inl past ↦ reads_numbers layout n kind bytes
                      (not_name layout kind (omega (arith, past)))
                      (shift_past layout n kind past) (λ rest. reads layout n (suc kind) rest)
                  | inr here ↦
                      let e : SERVER_KEY ≡ kind = omega (arith, le, here) in
                      subst (λ k. Reads layout (suc n) k bytes) e
                      (reads_name layout n bytes some
                      (λ rest. reads layout n (suc SERVER_KEY) rest))
                ]
          ]
      | inr none ↦ reads_numbers layout n kind bytes (unnamed layout kind none)
          (shift_none layout n kind none) (λ rest. reads layout n (suc kind) rest)
    ]

-- ---- the value of one data type among all numbers

-- each value has as many numbers as its data type
abbrev pub Fit : Layout → ℕ → List (List ℕ) → Type 0
Fit layout kind [] = Unit {0}
Fit layout kind (first ∷ others) =
    (length first ≡ width_of layout kind) × Fit layout (suc kind) others

numbers_long : (n : ℕ) (bytes : List ℕ) (x : List ℕ × List ℕ) → numbers_at n bytes ≡ Some x
    → length x.0 ≡ n
unfolding numbers_at
numbers_long zero bytes x is =
    ap (λ (y : List ℕ × List ℕ). length y.0) (sym (same_Some ([], bytes) x is))
numbers_long (suc n) bytes x is =
    let first = bind_some (number_at bytes) _ x is in
    let others = bind_some (numbers_at n first.0.1) _ x first.2 in
    let long = numbers_long n first.0.1 others.0 others.1 in
    ap (λ (y : List ℕ × List ℕ). length y.0) (sym (same_Some _ x others.2)) ∙ ap suc long

and_both : (a b : Bool) → (a && b) ≡ true → (a ≡ true) × (b ≡ true)
and_both true b is = (refl, is)
and_both false b is = absurd cc

-- a server's name is no number
no_width : (layout : Layout) (kind : ℕ)
    → (has_type layout.bits kind && (kind == SERVER_KEY)) ≡ true → width_of layout kind ≡ 0
no_width layout kind named =
    let both = and_both (has_type layout.bits kind) (kind == SERVER_KEY) named in
    rw (both.0, both.1) refl

named_fits : (layout : Layout) (kind : ℕ) (bytes : List ℕ) (x : List ℕ × List ℕ)
    → (has_type layout.bits kind && (kind == SERVER_KEY)) ≡ true
    → (string_at bytes >>= λ (text : List ℕ × List ℕ). Some ([], text.1)) ≡ Some x
    → length x.0 ≡ width_of layout kind
named_fits layout kind bytes x named is =
    let text = bind_some (string_at bytes) _ x is in
    let none : length x.0 ≡ 0 =
    ap (λ (y : List ℕ × List ℕ). length y.0) (sym (same_Some ([], text.0.1) x text.2)) in
    none ∙ sym (no_width layout kind named)

value_fits : (layout : Layout) (kind : ℕ) (bytes : List ℕ) (x : List ℕ × List ℕ)
    → value_at layout kind bytes ≡ Some x → length x.0 ≡ width_of layout kind
unfolding value_at
value_fits layout kind bytes x is =
    elim (bool_is (has_type layout.bits kind && (kind == SERVER_KEY))) [
      | inl named ↦ named_fits layout kind bytes x named (rw named at is)
      | inr none ↦ numbers_long (width_of layout kind) bytes x (rw none at is)
    ]

pub values_fit : (layout : Layout) (n kind : ℕ) (bytes : List ℕ) (values : List (List ℕ))
    → values_from layout n kind bytes ≡ Some values
    → (length values ≡ n) × Fit layout kind values
unfolding values_from
values_fit layout zero kind bytes values is =
    subst (λ (vs : List (List ℕ)). (length vs ≡ 0) × Fit layout kind vs) (same_Some [] values is)
    (refl, tt)
values_fit layout (suc n) kind bytes values is =
    let first = bind_some (value_at layout kind bytes) _ values is in
    let others = bind_some (values_from layout n (suc kind) first.0.1) _ values first.2 in
    let fit = values_fit layout n (suc kind) first.0.1 others.0 others.1 in
    subst (λ (vs : List (List ℕ)). (length vs ≡ suc n) × Fit layout kind vs)
    (same_Some (first.0.0 ∷ others.0) values others.2)
    (ap suc fit.0, (value_fits layout kind bytes first.0 first.1, fit.1))

-- a value, where its numbers are among all
pub record Found (layout : Layout) (kind at : ℕ) (values : List (List ℕ)) : Type 0 where
  pub value : List ℕ
  pub rest : List ℕ
  pub is_there : slice_get values at ≡ Some value
  pub is_long : length value ≡ width_of layout (kind + at)
  pub splits : drop (widths layout at kind) (flat values) ≡ value ++ rest

found : (layout : Layout) (kind at : ℕ) (values : List (List ℕ)) → Fit layout kind values
    → at < length values → Found layout kind at values
found layout kind at [] fit lt = absurd (omega (arith, lt))
found layout kind zero (first ∷ others) fit lt =
    let k : kind + 0 ≡ kind = omega arith in
    record {
      value = first;
      rest = flat others;
      is_there = refl;
      is_long = fit.0 ∙ ap (width_of layout) (sym k);
      splits = refl;
    }
found layout kind (suc at) (first ∷ others) fit lt =
    let k : suc kind + at ≡ kind + suc at = omega arith in
    let next = found layout (suc kind) at others fit.1 (omega (arith, lt)) in
    record {
      value = next.value;
      rest = next.rest;
      is_there = next.is_there;
      is_long = next.is_long ∙ ap (width_of layout) k;
      splits = sym (drop-drop (widths layout at (suc kind)) (width_of layout kind)
          (first ++ flat others))
          ∙ ap (drop (widths layout at (suc kind))) (drop_at first (flat others)
          (width_of layout kind) fit.0)
          ∙ next.splits;
    }

-- ---- the cell of one column

rate_front : (n : ℕ) (front rest : List ℕ) → n + 3 ≤ length front
    → rate_in (drop n (front ++ rest)) ≡ rate_in (drop n front)
rate_front zero [] rest le = absurd (omega (arith, le))
rate_front zero (x ∷ []) rest le = absurd (omega (arith, le))
rate_front zero (x ∷ y ∷ []) rest le = absurd (omega (arith, le))
rate_front zero (x ∷ y ∷ z ∷ front) rest le = refl
rate_front (suc n) [] rest le = absurd (omega (arith, le))
rate_front (suc n) (x ∷ front) rest le = rate_front n front rest (omega (arith, le))

count_front : (wide : Bool) (n : ℕ) (front rest : List ℕ) → n < length front
    → count_in wide (drop n (front ++ rest)) ≡ count_in wide (drop n front)
count_front wide n [] rest lt = absurd (omega (arith, lt))
count_front wide zero (x ∷ front) rest lt = refl
count_front wide (suc n) (x ∷ front) rest lt = count_front wide n front rest (omega (arith, lt))

-- the numbers of a column's place are within its value
abbrev pub IsWithin : Layout → Col → Place → Type 0
IsWithin layout col place =
    (is_rate col ≡ true → 3 * place.element + 3 ≤ width_of layout place.kind)
    × (is_rate col ≡ false → place.element < width_of layout place.kind)

cell_rate : (layout : Layout) (values : List (List ℕ)) (place : Place)
    → Found layout 0 place.kind values
    → 3 * place.element + 3 ≤ width_of layout place.kind
    → rate_in (drop (widths layout place.kind 0 + 3 * place.element) (flat values))
    ≡ rate_in (numbers_of values true place)
cell_rate layout values place at fits =
    let k : 0 + place.kind ≡ place.kind = omega arith in
    let long : length at.value ≡ width_of layout place.kind =
    at.is_long ∙ ap (width_of layout) k in
    rw (
      ← drop-drop (3 * place.element) (widths layout place.kind 0) (flat values),
      at.splits,
      at.is_there,
    ) (rate_front (3 * place.element) at.value at.rest (omega (arith, fits, long)))

cell_count : (layout : Layout) (values : List (List ℕ)) (place : Place) (wide : Bool)
    → Found layout 0 place.kind values → place.element < width_of layout place.kind
    → count_in wide (drop (widths layout place.kind 0 + place.element) (flat values))
    ≡ count_in wide (numbers_of values false place)
cell_count layout values place wide at fits =
    let k : 0 + place.kind ≡ place.kind = omega arith in
    let long : length at.value ≡ width_of layout place.kind =
    at.is_long ∙ ap (width_of layout) k in
    rw (
      ← drop-drop place.element (widths layout place.kind 0) (flat values),
      at.splits,
      at.is_there,
    ) (count_front wide place.element at.value at.rest (omega (arith, fits, long)))

-- the cell of a column, where its value may be
abbrev pub cell_with : List (List ℕ) → Col → Option Place → Cell
cell_with values col place =
    cond (is_rate col) (rate_in (option_map_or (numbers_of values (is_rate col)) place []))
    (count_in (is_wide col) (option_map_or (numbers_of values (is_rate col)) place []))

cell_none : (layout : Layout) (count : ℕ) (numbers : List ℕ) (values : List (List ℕ)) (col : Col)
    → cell_from numbers (source_at layout count col None) ≡ cell_with values col None
cell_none layout count numbers values col =
    elim (bool_is (is_rate col)) [
      | inl rate ↦ rw rate refl
      | inr count ↦ rw count refl
    ]

pub drop_none : (n : ℕ) → ◌≡◌ {A = List ℕ} (drop n []) []
drop_none zero = refl
drop_none (suc n) = refl

-- behind the data types that are read a column has no numbers
cell_past : (layout : Layout) (count : ℕ) (values : List (List ℕ)) (col : Col) (place : Place)
    → length values ≡ count → count ≤ place.kind
    → cell_from (flat values) (source_at layout count col (Some place))
    ≡ cell_with values col (Some place)
cell_past layout count values col place all le =
    let none : slice_get values place.kind ≡ None =
    slice_get_past values place.kind (omega (arith, all, le)) in
    rw (le-ltb place.kind count le) (elim (bool_is (is_rate col)) [
      | inl rate ↦ rw (rate, none) (ap rate_in (sym (drop_none (3 * place.element))))
      | inr number ↦ rw (number, none) (ap (count_in (is_wide col))
          (sym (drop_none place.element)))
    ])

cell_there : (layout : Layout) (count : ℕ) (values : List (List ℕ)) (col : Col) (place : Place)
    → place.kind < count → Found layout 0 place.kind values → IsWithin layout col place
    → cell_from (flat values) (source_at layout count col (Some place))
    ≡ cell_with values col (Some place)
cell_there layout count values col place lt at within =
    rw (lt-ltb place.kind count lt) (elim (bool_is (is_rate col)) [
      | inl rate ↦ rw rate (cell_rate layout values place at (within.0 rate))
      | inr number ↦ rw number
          (cell_count layout values place (is_wide col) at (within.1 number))
    ])

cell_same_by : (layout : Layout) (count : ℕ) (values : List (List ℕ)) (col : Col)
    (place : Option Place) → length values ≡ count → Fit layout 0 values
    → ((p : Place) → place ≡ Some p → IsWithin layout col p)
    → cell_from (flat values) (source_at layout count col place) ≡ cell_with values col place
cell_same_by layout count values col None all fit within =
    cell_none layout count (flat values) values col
cell_same_by layout count values col (Some place) all fit within =
    elim (cases_lt place.kind count) [
      | inl lt ↦ cell_there layout count values col place lt
          (found layout 0 place.kind values fit (omega (arith, lt, all))) (within place refl)
      | inr le ↦ cell_past layout count values col place all le
    ]

-- ---- where a column is, there its numbers are

abbrev agree : Bool → Bool → Bool
agree true b = b
agree false b = not b

same_from_agree : (a b : Bool) → agree a b ≡ true → a ≡ b
same_from_agree true true is = refl
same_from_agree true false is = sym is
same_from_agree false true is = is
same_from_agree false false is = refl

rate_ids : (col : Col) → is_rate_type (col_id col) ≡ is_rate col
rate_ids col = same_from_agree (is_rate_type (col_id col)) (is_rate col)
    (of_each (λ c. agree (is_rate_type (col_id c)) (is_rate c)) refl col)

-- no column's own data type is a server's name or an array
own_kind : (col : Col) → ((col_id col == SERVER_KEY) ≡ false) × (is_array (col_id col) ≡ false)
own_kind col = (
  same_from_agree (col_id col == SERVER_KEY) false
      (of_each (λ c. agree (col_id c == SERVER_KEY) false) refl col),
  same_from_agree (is_array (col_id col)) false
      (of_each (λ c. agree (is_array (col_id c)) false) refl col),
)

own_within : (layout : Layout) (col : Col) → has_type layout.bits (col_id col) ≡ true
    → IsWithin layout col (record { kind = col_id col; element = 0 })
own_within layout col some =
    let own = own_kind col in
    let wide : width_of layout (col_id col) ≡ cond (is_rate col) 3 1 =
    rw (some, own.0, own.1, rate_ids col) refl in (
      λ rate. rw (wide, rate) (omega arith),
      λ count. rw (wide, count) (omega arith),
    )

-- an element of an array stands in the place of a column of its kind
abbrev IsElementFor : Col → Place → Type 0
IsElementFor col place =
    (place.element ≤ 1) × (place.kind ≡ cond (is_rate col) GPC_RATE_ARRAY GPC_ARRAY)

abbrev is_element_for : Col → Option Place → Bool
is_element_for col None = true
is_element_for col (Some place) =
    leb place.element 1 && (place.kind == cond (is_rate col) GPC_RATE_ARRAY GPC_ARRAY)

element_by : (col : Col) (o : Option Place) (place : Place) → o ≡ Some place
    → is_element_for col o ≡ true → IsElementFor col place
element_by col None place is fits = absurd (none-some place is)
element_by col (Some other) place is fits =
    let both = and_both (leb other.element 1)
    (other.kind == cond (is_rate col) GPC_RATE_ARRAY GPC_ARRAY) fits in
    subst (IsElementFor col) (same_Some other place is)
    (leb-true other.element 1 both.0, eqb-true other.kind _ both.1)

element_is : (col : Col) (place : Place) → element_for col ≡ Some place → IsElementFor col place
element_is col place is =
    element_by col (element_for col) place is
    (of_each (λ c. is_element_for c (element_for c)) refl col)

array_width : (layout : Layout) (place : Place) → has_type layout.bits place.kind ≡ true
    → place.kind ≡ GPC_ARRAY
    → width_of layout place.kind ≡ 1 * min (count_of layout place.kind) MOST_ELEMENTS
array_width layout place some is = rw some (rw is refl)

rates_width : (layout : Layout) (place : Place) → has_type layout.bits place.kind ≡ true
    → place.kind ≡ GPC_RATE_ARRAY
    → width_of layout place.kind ≡ 3 * min (count_of layout place.kind) MOST_ELEMENTS
rates_width layout place some is = rw some (rw is refl)

array_within : (layout : Layout) (col : Col) (place : Place) → IsElementFor col place
    → has_type layout.bits place.kind ≡ true → place.element < count_of layout place.kind
    → IsWithin layout col place
array_within layout col place is some lt = (
  λ rate.
      let kind : place.kind ≡ GPC_RATE_ARRAY =
      is.1 ∙ ap (λ (b : Bool). cond b GPC_RATE_ARRAY GPC_ARRAY) rate in
      omega (arith, rates_width layout place some kind, is.0, lt),
  λ count.
      let kind : place.kind ≡ GPC_ARRAY =
      is.1 ∙ ap (λ (b : Bool). cond b GPC_RATE_ARRAY GPC_ARRAY) count in
      omega (arith, array_width layout place some kind, is.0, lt),
)

if_within : (layout : Layout) (col : Col) (o : Option Place) (place : Place)
    → ((p : Place) → o ≡ Some p → IsElementFor col p)
    → if_element layout o ≡ Some place → IsWithin layout col place
if_within layout col None place for is = absurd (none-some place is)
if_within layout col (Some other) place for is =
    elim (bool_is (has_type layout.bits other.kind && ltb other.element
    (count_of layout other.kind))) [
      | inl there ↦
          let both = and_both (has_type layout.bits other.kind)
          (ltb other.element (count_of layout other.kind)) there in
          let same = same_Some other place (rw there at is) in
          subst (IsWithin layout col) same (array_within layout col other (for other refl) both.0
          (ltb-true other.element (count_of layout other.kind) both.1))
      | inr none ↦ absurd (none-some place (rw none at is))
    ]

place_within : (layout : Layout) (col : Col) (place : Place) → place_of layout col ≡ Some place
    → IsWithin layout col place
place_within layout col place is =
    elim (bool_is (has_type layout.bits (col_id col))) [
      | inl own ↦
          let same = same_Some (record { kind = col_id col; element = 0 }) place (rw own at is) in
          subst (IsWithin layout col) same (own_within layout col own)
      | inr none ↦ if_within layout col (element_for col) place (element_is col)
          (rw none at is)
    ]

period_within : (layout : Layout) (col : Col × ℕ) (o : Option Place) (place : Place)
    → ((p : Place) → o ≡ Some p → IsWithin layout col.0 p)
    → (o >>= λ (p : Place). cond (has_period layout p.kind col) (Some p) None) ≡ Some place
    → IsWithin layout col.0 place
period_within layout col o place within is =
    let p = bind_some o _ place is in
    elim (bool_is (has_period layout p.0.kind col)) [
      | inl own ↦ subst (IsWithin layout col.0) (same_Some p.0 place (rw own at p.2))
          (within p.0 p.1)
      | inr other ↦ absurd (none-some place (rw other at p.2))
    ]

cell_within : (layout : Layout) (col : Col × ℕ) (place : Place)
    → cell_place layout col ≡ Some place → IsWithin layout col.0 place
cell_within layout col place is =
    period_within layout col (place_of layout col.0) place (place_within layout col.0) is

cell_same : (layout : Layout) (count : ℕ) (values : List (List ℕ)) (col : Col × ℕ)
    → length values ≡ count → Fit layout 0 values
    → cell_from (flat values) (source_of layout count col) ≡ cell_of layout values col
unfolding cell_of
cell_same layout count values col all fit =
    cell_same_by layout count values col.0 (cell_place layout col) all fit (cell_within layout col)

cells_same : (layout : Layout) (count : ℕ) (values : List (List ℕ)) (cols : List (Col × ℕ))
    → length values ≡ count → Fit layout 0 values
    → map (cell_from (flat values)) (map (source_of layout count) cols)
    ≡ map (cell_of layout values) cols
cells_same layout count values [] all fit = refl
cells_same layout count values (col ∷ cols) all fit =
    rw (
      cell_same layout count values col all fit,
      cells_same layout count values cols all fit,
    ) refl

cells_split : (layout : Layout) (count : ℕ) (cols : List (Col × ℕ))
    (o : Option (List (List ℕ)))
    → ((values : List (List ℕ)) → o ≡ Some values → (length values ≡ count) × Fit layout 0 values)
    → option_map (λ numbers. map (cell_from numbers) (map (source_of layout count) cols))
    (option_map flat o)
    ≡ (o >>= λ (values : List (List ℕ)). Some (map (cell_of layout values) cols))
cells_split layout count cols None fits = refl
cells_split layout count cols (Some values) fits =
    let fit = fits values refl in
    ap Some (cells_same layout count values cols fit.0 fit.1)

name_is : (layout : Layout) (count : ℕ) → name_before layout count ≡ name_within layout count 0
name_is layout count =
    let z : 0 + count ≡ count = omega arith in
    rw z refl

-- what is read along a plan is what the definitions say
pub planned_cells : (layout : Layout) (cols : List (Col × ℕ)) (bytes : List ℕ) (plan : DecodePlan)
    → IsPlan layout cols plan → planned plan bytes ≡ cells_at layout cols bytes
unfolding cells_at
planned_cells layout cols bytes plan is =
    let count = types_read layout cols in
    rw (is.0, is.1, is.2, name_is layout count, ← reads layout count 0 bytes)
    (cells_split layout count cols (values_from layout count 0 bytes)
    (values_fit layout count 0 bytes))
