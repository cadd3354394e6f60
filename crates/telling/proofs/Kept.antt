-- Which keys have marks behind a turn, and which of the marks are in the set.
use Rattle.std.proofs.Common.{◌≡◌, ℕ, Bool, true, false, List, [], ◌∷◌, ◌++◌, map, Option, None}
use Rattle.std.proofs.Common.{Some, refl, ap, ◌∙◌, inl, inr}
use Rattle.std.proofs.lemmas.Bool.{cases_Bool}
use Rattle.std.specs.Cmp.Lexicographic.{slice_cmp}
use Rattle.std.specs.Ordering.{nat_cmp}
use Rattle.std.specs.declared.cmp.Ordering.{Ordering}
use Rattle.std.specs.declared.cmp.Ordering.TheVariants.{Less, Equal, Greater}
use Rattle.pushed_keys.specs.declared.change.Turn.{Turn}
use Rattle.pushed_keys.specs.declared.pushed.Pushed.{Pushed}
use Rattle.pushed_keys.specs.declared.told.Mark.{Mark}
use Rattle.pushed_keys.specs.Moves.{marked, set_of}
use Rattle.pushed_keys.specs.Rules.{is_told, is_written, put_after}
use Rattle.pushed_keys.specs.Stands.{Stand, in_set, by_order, only_told, placed, stands}
use Rattle.pushed_keys.specs.Turns.{marks_after}
use Rattle.telling.proofs.Brought.{left_mark}

-- ---- which keys have marks, without a hold

pub in_marked : (table : Pushed) (turn : Turn) (key : List ℕ) (put : Option ℕ)
    (standing : List Stand) → marked (marks_after table turn (in_set key put ∷ standing))
    ≡ key ∷ marked (marks_after table turn standing)
unfolding put_after
in_marked table turn key None standing = refl
in_marked table turn key (Some put) standing =
    elim (cases_Bool (is_written table turn (Some put))) [
      | inl is ↦ rw is refl
      | inr is ↦ rw is refl
    ]

out_marked : (table : Pushed) (turn : Turn) (mark : Mark) (standing : List Stand)
    → table.holds ≡ false → marked (marks_after table turn (only_told mark ∷ standing))
    ≡ marked (marks_after table turn standing)
unfolding put_after left_mark
out_marked table turn mark standing loose =
    ap (λ (b : Bool). marked (left_mark b (is_told table turn.now mark.put) mark
    ++ marks_after table turn standing)) loose

rest_marked : (table : Pushed) (turn : Turn) (marks : List Mark) → table.holds ≡ false
    → marked (marks_after table turn (map only_told marks)) ≡ []
rest_marked table turn [] loose = refl
rest_marked table turn (mark ∷ marks) loose =
    out_marked table turn mark (map only_told marks) loose ∙ rest_marked table turn marks loose

placed_marked : (table : Pushed) (turn : Turn) (key : List ℕ) (keys : List (List ℕ))
    (behind : List Mark → List Stand) (marks : List Mark) → table.holds ≡ false
    → ((ms : List Mark) → marked (marks_after table turn (behind ms)) ≡ keys)
    → marked (marks_after table turn (placed key behind marks)) ≡ key ∷ keys
placed_marked table turn key keys behind [] loose are =
    in_marked table turn key None (behind []) ∙ ap (λ ks. key ∷ ks) (are [])
placed_marked table turn key keys behind (mark ∷ marks) loose are =
    by (slice_cmp nat_cmp key mark.key)
    (placed_marked table turn key keys behind marks loose are)
  where
    by : (o : Ordering) → marked (marks_after table turn (placed key behind marks)) ≡ key ∷ keys
        → marked (marks_after table turn (by_order o (in_set key None ∷ behind (mark ∷ marks))
        (in_set key (Some mark.put) ∷ behind marks) (only_told mark ∷ placed key behind marks)))
        ≡ key ∷ keys
    by Less later =
        in_marked table turn key None (behind (mark ∷ marks))
        ∙ ap (λ ks. key ∷ ks) (are (mark ∷ marks))
    by Equal later =
        in_marked table turn key (Some mark.put) (behind marks) ∙ ap (λ ks. key ∷ ks) (are marks)
    by Greater later = out_marked table turn mark (placed key behind marks) loose ∙ later

-- those of the set
pub set_marked : (table : Pushed) (turn : Turn) (set : List (List ℕ)) (marks : List Mark)
    → table.holds ≡ false → marked (marks_after table turn (stands set marks)) ≡ set
unfolding stands
set_marked table turn [] marks loose = rest_marked table turn marks loose
set_marked table turn (key ∷ keys) marks loose =
    placed_marked table turn key keys (stands keys) marks loose
    (λ ms. set_marked table turn keys ms loose)

-- ---- which keys of the marks are in the set

in_set_of : (table : Pushed) (turn : Turn) (key : List ℕ) (put : Option ℕ)
    (standing : List Stand) → set_of (marks_after table turn (in_set key put ∷ standing))
    ≡ key ∷ set_of (marks_after table turn standing)
unfolding put_after
in_set_of table turn key None standing = refl
in_set_of table turn key (Some put) standing =
    elim (cases_Bool (is_written table turn (Some put))) [
      | inl is ↦ rw is refl
      | inr is ↦ rw is refl
    ]

out_set_of : (table : Pushed) (turn : Turn) (mark : Mark) (standing : List Stand)
    → set_of (marks_after table turn (only_told mark ∷ standing))
    ≡ set_of (marks_after table turn standing)
unfolding put_after left_mark
out_set_of table turn mark standing = by table.holds (is_told table turn.now mark.put)
  where
    by : (holds told : Bool) → set_of (left_mark holds told mark ++ marks_after table turn standing)
        ≡ set_of (marks_after table turn standing)
    by false told = refl
    by true false = refl
    by true true = refl

rest_set_of : (table : Pushed) (turn : Turn) (marks : List Mark)
    → set_of (marks_after table turn (map only_told marks)) ≡ []
rest_set_of table turn [] = refl
rest_set_of table turn (mark ∷ marks) =
    out_set_of table turn mark (map only_told marks) ∙ rest_set_of table turn marks

placed_set_of : (table : Pushed) (turn : Turn) (key : List ℕ) (keys : List (List ℕ))
    (behind : List Mark → List Stand) (marks : List Mark)
    → ((ms : List Mark) → set_of (marks_after table turn (behind ms)) ≡ keys)
    → set_of (marks_after table turn (placed key behind marks)) ≡ key ∷ keys
placed_set_of table turn key keys behind [] are =
    in_set_of table turn key None (behind []) ∙ ap (λ ks. key ∷ ks) (are [])
placed_set_of table turn key keys behind (mark ∷ marks) are =
    by (slice_cmp nat_cmp key mark.key) (placed_set_of table turn key keys behind marks are)
  where
    by : (o : Ordering) → set_of (marks_after table turn (placed key behind marks)) ≡ key ∷ keys
        → set_of (marks_after table turn (by_order o (in_set key None ∷ behind (mark ∷ marks))
        (in_set key (Some mark.put) ∷ behind marks) (only_told mark ∷ placed key behind marks)))
        ≡ key ∷ keys
    by Less later =
        in_set_of table turn key None (behind (mark ∷ marks))
        ∙ ap (λ ks. key ∷ ks) (are (mark ∷ marks))
    by Equal later =
        in_set_of table turn key (Some mark.put) (behind marks) ∙ ap (λ ks. key ∷ ks) (are marks)
    by Greater later = out_set_of table turn mark (placed key behind marks) ∙ later

-- behind a turn they are the set, with a hold too
pub set_kept : (table : Pushed) (turn : Turn) (set : List (List ℕ)) (marks : List Mark)
    → set_of (marks_after table turn (stands set marks)) ≡ set
unfolding stands
set_kept table turn [] marks = rest_set_of table turn marks
set_kept table turn (key ∷ keys) marks =
    placed_set_of table turn key keys (stands keys) marks (λ ms. set_kept table turn keys ms)
