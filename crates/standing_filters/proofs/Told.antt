-- A key judged by its conditions.
use Rattle.std.proofs.Common.{◌≡◌, ◌≢◌, ℕ, zero, suc, ◌+◌, ◌≤◌, nat_lt, Bool, true, false, ◌&&◌}
use Rattle.std.proofs.Common.{List, [], ◌∷◌, length, take, drop, ◌-◌, get_or, Option, None, Some}
use Rattle.std.proofs.Common.{refl, sym, ap, ◌∙◌, arith}
use Rattle.std.specs.List.{list_all}
use Rattle.agg_types.specs.declared.config.Cond.{Cond}
use Rattle.crossing.specs.First.{IsFirstFrom}
use Rattle.standing_filters.specs.Verdicts.{Foretells, out}
use Rattle.standing_filters.specs.declared.judging.Verdict.{Verdict}

first_same : (from : ℕ) (p q : ℕ → Type 0) → ((t : ℕ) → p t → q t) → ((t : ℕ) → q t → p t)
    → (o : Option ℕ) → IsFirstFrom from p o → IsFirstFrom from q o
first_same from p q there back None first = λ s since holds. first s since (back s holds)
first_same from p q there back (Some t) first = record {
  since = first.since;
  holds = there t first.holds;
  not_before = λ s since before holds. first.not_before s since before (back s holds);
}

-- what is told of a truth is told of any that is the same
pub told_same : (truth other : ℕ → Bool) (now : ℕ) (verdict : Verdict)
    → ((t : ℕ) → other t ≡ truth t) → Foretells truth now verdict → Foretells other now verdict
told_same truth other now verdict same told = record {
  holds = told.holds ∙ sym (same now);
  next = first_same (now + 1) (λ t. truth t ≢ truth now) (λ t. other t ≢ other now)
      (λ t differs is. differs (sym (same t) ∙ is ∙ same now)) (λ t differs is. differs (same t ∙ is
      ∙ sym (same now))) verdict.next told.next;
}

-- a truth that is false now and later
pub told_out : (truth : ℕ → Bool) (now : ℕ) (verdict : Verdict)
    → ((t : ℕ) → now ≤ t → truth t ≡ false) → Foretells truth now verdict → verdict ≡ out
told_out truth now verdict never told = by verdict.next refl told.next
  where
    holds : verdict.holds ≡ false
    holds = told.holds ∙ never now (omega arith)

    by : (o : Option ℕ) → verdict.next ≡ o → IsFirstFrom (now + 1) (λ t. truth t ≢ truth now) o
        → verdict ≡ out
    by None is first = λ i. record { holds = holds i; next = is i }
    by (Some t) is first =
        let since : now + 1 ≤ t = first.since in
        absurd (first.holds (never t (omega arith) ∙ sym (never now (omega arith))))

pub dead_never : (living : ℕ → ℕ) (met : ℕ → Bool) (now t : ℕ) → living now ≡ 0
    → living t ≤ living now → (nat_lt 0 (living t) && met t) ≡ false
dead_never living met now t dead falls =
    let none : living t ≡ 0 = omega arith in
    rw none refl

-- where one behind the first of some conditions fails, they don't hold together
pub rest_fails : (f : Cond → Bool) (xs : List Cond)
    → list_all f (take (length xs - 1) (drop 1 xs)) ≡ false → list_all f xs ≡ false
rest_fails f [] fails = fails
rest_fails f (x ∷ xs) fails =
    ap (λ ys. f x && list_all f ys) (sym (take_all (length (x ∷ xs) - 1) xs (omega arith)))
    ∙ ap (λ b. f x && b) fails
    ∙ by (f x)
  where
    take_all : (n : ℕ) (ys : List Cond) → length ys ≤ n → take n ys ≡ ys
    take_all zero [] all = refl
    take_all (suc n) [] all = refl
    take_all zero (y ∷ ys) all = absurd (omega (arith, all))
    take_all (suc n) (y ∷ ys) all = ap (λ zs. y ∷ zs) (take_all n ys (omega (arith, all)))

    by : (b : Bool) → (b && false) ≡ false
    by true = refl
    by false = refl

-- a key that never meets the conditions is out for good
pub never_in : (living : ℕ → ℕ) (met : ℕ → Bool) (now : ℕ) → ((t : ℕ) → met t ≡ false)
    → Foretells (λ t. nat_lt 0 (living t) && met t) now out
never_in living met now never = record {
  holds = sym (nowhere now);
  next = λ s since differs. differs (nowhere s ∙ sym (nowhere now));
}
  where
    by : (b : Bool) → (b && false) ≡ false
    by true = refl
    by false = refl

    nowhere : (t : ℕ) → (nat_lt 0 (living t) && met t) ≡ false
    nowhere t = ap (λ b. nat_lt 0 (living t) && b) (never t) ∙ by (nat_lt 0 (living t))

-- a key that never has a live row is out for good
pub never_lives : (living : ℕ → ℕ) (met : ℕ → Bool) (now : ℕ) → ((t : ℕ) → living t ≡ 0)
    → Foretells (λ t. nat_lt 0 (living t) && met t) now out
never_lives living met now none = record {
  holds = sym (nowhere now);
  next = λ s since differs. differs (nowhere s ∙ sym (nowhere now));
}
  where
    nowhere : (t : ℕ) → (nat_lt 0 (living t) && met t) ≡ false
    nowhere t = ap (λ n. nat_lt 0 n && met t) (none t)

-- what is asked first may be asked behind another
behind : (a b c : Bool) → (a && (b && c)) ≡ (b && (a && c))
behind true b c = refl
behind false true c = refl
behind false false c = refl

one_list : (xs : List Cond) (d0 : Cond) → length xs ≡ 1 → xs ≡ get_or xs 0 d0 ∷ []
one_list [] d0 is = absurd (omega arith)
one_list (x0 ∷ []) d0 is = refl
one_list (x0 ∷ x1 ∷ xs) d0 is = absurd (omega arith)

pub one_hold : (f : Cond → Bool) (xs : List Cond) (d0 : Cond) (l pl p0 : Bool) → length xs ≡ 1
    → pl ≡ l → p0 ≡ f (get_or xs 0 d0) → (l && list_all f xs) ≡ (p0 && (pl && true))
one_hold f xs d0 l pl p0 is el e0 =
    ap (λ b. b && list_all f xs) (sym el)
    ∙ ap (λ ys. pl && list_all f ys) (one_list xs d0 is)
    ∙ ap (λ b. pl && (b && true)) (sym e0)
    ∙ behind pl p0 true

two_list : (xs : List Cond) (d0 d1 : Cond) → length xs ≡ 2
    → xs ≡ get_or xs 0 d0 ∷ get_or xs 1 d1 ∷ []
two_list [] d0 d1 is = absurd (omega arith)
two_list (x0 ∷ []) d0 d1 is = absurd (omega arith)
two_list (x0 ∷ x1 ∷ []) d0 d1 is = refl
two_list (x0 ∷ x1 ∷ x2 ∷ xs) d0 d1 is = absurd (omega arith)

pub two_hold : (f : Cond → Bool) (xs : List Cond) (d0 d1 : Cond) (l pl p0 p1 : Bool) → length xs ≡ 2
    → pl ≡ l → p0 ≡ f (get_or xs 0 d0) → p1 ≡ f (get_or xs 1 d1)
    → (l && list_all f xs) ≡ (p0 && (p1 && (pl && true)))
two_hold f xs d0 d1 l pl p0 p1 is el e0 e1 =
    ap (λ b. b && list_all f xs) (sym el)
    ∙ ap (λ ys. pl && list_all f ys) (two_list xs d0 d1 is)
    ∙ ap (λ b. pl && (b && (f (get_or xs 1 d1) && true))) (sym e0)
    ∙ ap (λ b. pl && (p0 && (b && true))) (sym e1)
    ∙ behind pl p0 (p1 && true)
    ∙ ap (λ b. p0 && b) (behind pl p1 true)

three_list : (xs : List Cond) (d0 d1 d2 : Cond) → length xs ≡ 3
    → xs ≡ get_or xs 0 d0 ∷ get_or xs 1 d1 ∷ get_or xs 2 d2 ∷ []
three_list [] d0 d1 d2 is = absurd (omega arith)
three_list (x0 ∷ []) d0 d1 d2 is = absurd (omega arith)
three_list (x0 ∷ x1 ∷ []) d0 d1 d2 is = absurd (omega arith)
three_list (x0 ∷ x1 ∷ x2 ∷ []) d0 d1 d2 is = refl
three_list (x0 ∷ x1 ∷ x2 ∷ x3 ∷ xs) d0 d1 d2 is = absurd (omega arith)

pub three_hold : (f : Cond → Bool) (xs : List Cond) (d0 d1 d2 : Cond) (l pl p0 p1 p2 : Bool)
    → length xs ≡ 3 → pl ≡ l → p0 ≡ f (get_or xs 0 d0) → p1 ≡ f (get_or xs 1 d1)
    → p2 ≡ f (get_or xs 2 d2) → (l && list_all f xs) ≡ (p0 && (p1 && (p2 && (pl && true))))
three_hold f xs d0 d1 d2 l pl p0 p1 p2 is el e0 e1 e2 =
    ap (λ b. b && list_all f xs) (sym el)
    ∙ ap (λ ys. pl && list_all f ys) (three_list xs d0 d1 d2 is)
    ∙ ap (λ b. pl && (b && (f (get_or xs 1 d1) && (f (get_or xs 2 d2) && true)))) (sym e0)
    ∙ ap (λ b. pl && (p0 && (b && (f (get_or xs 2 d2) && true)))) (sym e1)
    ∙ ap (λ b. pl && (p0 && (p1 && (b && true)))) (sym e2)
    ∙ behind pl p0 (p1 && (p2 && true))
    ∙ ap (λ b. p0 && b) (behind pl p1 (p2 && true))
    ∙ ap (λ b. p0 && (p1 && b)) (behind pl p2 true)

four_list : (xs : List Cond) (d0 d1 d2 d3 : Cond) → length xs ≡ 4
    → xs ≡ get_or xs 0 d0 ∷ get_or xs 1 d1 ∷ get_or xs 2 d2 ∷ get_or xs 3 d3 ∷ []
four_list [] d0 d1 d2 d3 is = absurd (omega arith)
four_list (x0 ∷ []) d0 d1 d2 d3 is = absurd (omega arith)
four_list (x0 ∷ x1 ∷ []) d0 d1 d2 d3 is = absurd (omega arith)
four_list (x0 ∷ x1 ∷ x2 ∷ []) d0 d1 d2 d3 is = absurd (omega arith)
four_list (x0 ∷ x1 ∷ x2 ∷ x3 ∷ []) d0 d1 d2 d3 is = refl
four_list (x0 ∷ x1 ∷ x2 ∷ x3 ∷ x4 ∷ xs) d0 d1 d2 d3 is = absurd (omega arith)

pub four_hold : (f : Cond → Bool) (xs : List Cond) (d0 d1 d2 d3 : Cond) (l pl p0 p1 p2 p3 : Bool)
    → length xs ≡ 4 → pl ≡ l → p0 ≡ f (get_or xs 0 d0) → p1 ≡ f (get_or xs 1 d1)
    → p2 ≡ f (get_or xs 2 d2) → p3 ≡ f (get_or xs 3 d3)
    → (l && list_all f xs) ≡ (p0 && (p1 && (p2 && (p3 && (pl && true)))))
four_hold f xs d0 d1 d2 d3 l pl p0 p1 p2 p3 is el e0 e1 e2 e3 =
    ap (λ b. b && list_all f xs) (sym el)
    ∙ ap (λ ys. pl && list_all f ys) (four_list xs d0 d1 d2 d3 is)
    ∙ ap (λ b. pl && (b && (f (get_or xs 1 d1)
    && (f (get_or xs 2 d2) && (f (get_or xs 3 d3) && true))))) (sym e0)
    ∙ ap (λ b. pl && (p0 && (b && (f (get_or xs 2 d2) && (f (get_or xs 3 d3) && true))))) (sym e1)
    ∙ ap (λ b. pl && (p0 && (p1 && (b && (f (get_or xs 3 d3) && true))))) (sym e2)
    ∙ ap (λ b. pl && (p0 && (p1 && (p2 && (b && true))))) (sym e3)
    ∙ behind pl p0 (p1 && (p2 && (p3 && true)))
    ∙ ap (λ b. p0 && b) (behind pl p1 (p2 && (p3 && true)))
    ∙ ap (λ b. p0 && (p1 && b)) (behind pl p2 (p3 && true))
    ∙ ap (λ b. p0 && (p1 && (p2 && b))) (behind pl p3 true)
