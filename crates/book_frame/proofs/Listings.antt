-- Lists of keys: which are chosen, and whether two are the same.
use Rattle.std.proofs.Common.{◌≡◌, ℕ, ◌&&◌, Bool, true, false, cond, List, [], ◌∷◌, map, refl}
use Rattle.std.proofs.Common.{ap, ◌∙◌}
use Rattle.std.specs.Bool.{Decides}
use Rattle.std.specs.Borrow.{Bor}
use Rattle.std.specs.List.{filter}
use Rattle.std.proofs.lemmas.Slice.Eq.{slice_eq-Decides}
use Rattle.std.specs.Cmp.Lexicographic.{pointwise}
use Rattle.fleet_model.specs.Values.{same_key}
use Rattle.book_frame.proofs.Chosen.{same_key-decides}

filter-cond : {X Y : Type 0} (f : X → Y) (b : Bool) (x : X) (xs : List X)
    → map f (cond b (x ∷ xs) xs) ≡ cond b (f x ∷ map f xs) (map f xs)
filter-cond f true x xs = refl
filter-cond f false x xs = refl

-- what is chosen by what it shows shows what is chosen
pub map-filter : {X Y : Type 0} (f : X → Y) (p : Y → Bool) (xs : List X)
    → map f (filter (λ x. p (f x)) xs) ≡ filter p (map f xs)
map-filter f p [] = refl
map-filter f p (x ∷ xs) =
    filter-cond f (p (f x)) x (filter (λ x. p (f x)) xs)
    ∙ ap (λ ys. cond (p (f x)) (f x ∷ ys) ys) (map-filter f p xs)

shown_pairs : (keys others : List (Bor (List ℕ)))
    → pointwise (λ (a b : Bor (List ℕ)). same_key a.now b.now) keys others
    ≡ pointwise same_key (map (λ key. key.now) keys) (map (λ key. key.now) others)
shown_pairs [] [] = refl
shown_pairs [] (y ∷ ys) = refl
shown_pairs (x ∷ xs) [] = refl
shown_pairs (x ∷ xs) (y ∷ ys) = ap (λ b. same_key x.now y.now && b) (shown_pairs xs ys)

-- what `==` says of lists of keys
pub same_keys : (keys others : List (Bor (List ℕ))) (same : Bool)
    → same ≡ pointwise (λ (a b : Bor (List ℕ)). same_key a.now b.now) keys others
    → Decides same (map (λ key. key.now) keys ≡ map (λ key. key.now) others)
same_keys keys others same is =
    slice_eq-Decides same_key-decides (map (λ key. key.now) keys) (map (λ key. key.now) others) same
    (is ∙ shown_pairs keys others)
