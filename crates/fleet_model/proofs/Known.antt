-- What is found in `known`, and when two of them are one insert, removal or filter apart.
use Rattle.std.proofs.Common.{◌≡◌, ℕ, Bool, true, false, cond, not, ◌||◌, List, [], ◌∷◌, Option}
use Rattle.std.proofs.Common.{None, Some, T, refl, sym, ap, ◌∙◌}
use Rattle.std.proofs.lemmas.Cmp.{nat_cmp_total}
use Rattle.std.proofs.lemmas.Map.Lookups.{exact_unsigned}
use Rattle.std.specs.BTreeMap.{insert_entry, is_at}
use Rattle.std.specs.FinMap.Entries.{is_sorted}
use Rattle.std.specs.List.{filter, fold, list_any}
use Rattle.std.specs.Map.{lookup, remove_entry}
use Rattle.std.specs.Option.{option_or}
use Rattle.std.specs.Ordering.{is_eq, nat_cmp}
use Rattle.fleet_model.proofs.Entries.{equal_from, keep, lookup-filter, lookup-insert, remove_is}
use Rattle.fleet_model.proofs.Entries.{same_lookups, sorted-filter, sorted-insert}
use Rattle.fleet_model.specs.Seats.{known, put_some}

abbrev pub is_among : ℕ → List ℕ → Bool
is_among q ns = list_any (λ n. is_eq (nat_cmp q n)) ns

abbrev pub found : {X : Type 0} → ℕ → List (ℕ × X) → Option X
found q es = lookup (is_at (nat_cmp q)) es

abbrev known_on : {X : Type 0} → (ℕ → Option X) → List (ℕ × X) → List ℕ → List (ℕ × X)
known_on g es ns = fold (λ es n. put_some es n (g n)) es ns

found-put_some : {X : Type 0} (q : ℕ) (es : List (ℕ × X)) (n : ℕ) (x : Option X)
    → found q (put_some es n x) ≡ cond (is_eq (nat_cmp q n)) (option_or x (found q es)) (found q es)
found-put_some q es n None = elim (is_eq (nat_cmp q n)) as
    (λ b. found q es ≡ cond b (found q es) (found q es)) [ true ↦ refl | false ↦ refl ]
found-put_some q es n (Some x) = lookup-insert nat_cmp nat_cmp_total exact_unsigned q es n x

twice : {X : Type 0} (x o : Option X) → option_or x (option_or x o) ≡ option_or x o
twice None o = refl
twice (Some x) o = refl

joined : {X : Type 0} (here among : Bool) (g x o : Option X) → (here ≡ true → x ≡ g)
    → cond among (option_or g (cond here (option_or x o) o)) (cond here (option_or x o) o)
    ≡ cond (here || among) (option_or g o) o
joined true true g x o h = ap (λ y. option_or g (option_or y o)) (h refl) ∙ twice g o
joined true false g x o h = ap (λ y. option_or y o) (h refl)
joined false true g x o h = refl
joined false false g x o h = refl

found-known_on : {X : Type 0} (g : ℕ → Option X) (q : ℕ) (es : List (ℕ × X)) (ns : List ℕ)
    → found q (known_on g es ns) ≡ cond (is_among q ns) (option_or (g q) (found q es)) (found q es)
found-known_on g q es [] = refl
found-known_on g q es (n ∷ ns) =
    found-known_on g q (put_some es n (g n)) ns
    ∙ ap (λ o. cond (is_among q ns) (option_or (g q) o) o) (found-put_some q es n (g n))
    ∙ joined (is_eq (nat_cmp q n)) (is_among q ns) (g q) (g n) (found q es)
    (λ e. ap g (sym (exact_unsigned q n (equal_from _ e))))

or_none : {X : Type 0} (x : Option X) → option_or x None ≡ x
or_none None = refl
or_none (Some x) = refl

-- what is found is what g says
pub found-known : {X : Type 0} (g : ℕ → Option X) (q : ℕ) (ns : List ℕ)
    → found q (known g ns) ≡ cond (is_among q ns) (g q) None
unfolding known
found-known g q ns = found-known_on g q [] ns
    ∙ ap (λ o. cond (is_among q ns) o None) (or_none (g q))

sorted-put_some : {X : Type 0} (es : List (ℕ × X)) (n : ℕ) (x : Option X) → T (is_sorted nat_cmp es)
    → T (is_sorted nat_cmp (put_some es n x))
sorted-put_some es n None h = h
sorted-put_some es n (Some x) h = sorted-insert nat_cmp nat_cmp_total exact_unsigned es n x h

sorted-known_on : {X : Type 0} (g : ℕ → Option X) (es : List (ℕ × X)) (ns : List ℕ)
    → T (is_sorted nat_cmp es) → T (is_sorted nat_cmp (known_on g es ns))
sorted-known_on g es [] h = h
sorted-known_on g es (n ∷ ns) h =
    sorted-known_on g (put_some es n (g n)) ns (sorted-put_some es n (g n) h)

pub known-sorted : {X : Type 0} (g : ℕ → Option X) (ns : List ℕ)
    → T (is_sorted nat_cmp (known g ns))
unfolding known
known-sorted g ns = sorted-known_on g [] ns tt

pub same_known : {X : Type 0} (g g' : ℕ → Option X) (ns ns' : List ℕ)
    → ((q : ℕ) → found q (known g' ns') ≡ found q (known g ns)) → known g' ns' ≡ known g ns
same_known g g' ns ns' is = same_lookups nat_cmp nat_cmp_total exact_unsigned _ _
    (known-sorted g' ns') (known-sorted g ns) is

-- one number of which something is known now
pub known-insert : {X : Type 0} (g g' : ℕ → Option X) (ns ns' : List ℕ) (k : ℕ) (x : X)
    → ((q : ℕ) → found q (known g' ns') ≡ cond (is_eq (nat_cmp q k)) (Some x)
    (found q (known g ns))) → known g' ns' ≡ insert_entry nat_cmp (known g ns) k x
known-insert g g' ns ns' k x is =
    same_lookups nat_cmp nat_cmp_total exact_unsigned _ _ (known-sorted g' ns')
    (sorted-insert nat_cmp nat_cmp_total exact_unsigned (known g ns) k x (known-sorted g ns))
    (λ q. is q ∙ sym (lookup-insert nat_cmp nat_cmp_total exact_unsigned q (known g ns) k x))

-- those that pass a test
pub known-filter : {X : Type 0} (g g' : ℕ → Option X) (ns ns' : List ℕ) (p : ℕ × X → Bool)
    → ((q : ℕ) → found q (known g' ns') ≡ keep (λ x. p (q, x)) (found q (known g ns)))
    → known g' ns' ≡ filter p (known g ns)
known-filter g g' ns ns' p is =
    same_lookups nat_cmp nat_cmp_total exact_unsigned _ _ (known-sorted g' ns')
    (sorted-filter nat_cmp p (known g ns) (known-sorted g ns))
    (λ q. is q ∙ sym (lookup-filter nat_cmp nat_cmp_total exact_unsigned q p (known g ns)
    (known-sorted g ns)))

-- one number of which nothing is known any more
pub known-remove : {X : Type 0} (g g' : ℕ → Option X) (ns ns' : List ℕ) (k : ℕ)
    → ((q : ℕ) → found q (known g' ns') ≡ keep (λ _. not (is_eq (nat_cmp k q)))
    (found q (known g ns))) → known g' ns' ≡ remove_entry (is_at (nat_cmp k)) (known g ns)
known-remove g g' ns ns' k is =
    known-filter g g' ns ns' (λ e. not (is_eq (nat_cmp k e.0))) is
    ∙ sym (remove_is nat_cmp nat_cmp_total exact_unsigned k (known g ns) (known-sorted g ns))
