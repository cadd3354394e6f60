-- Places and buckets as a plan comes, goes or moves.
use Rattle.std.proofs.Common.{◌≡◌, ◌≢◌, ℕ, zero, suc, ◌+◌, ◌-◌, ◌<◌, ◌≤◌, List, [], ◌∷◌, ◌++◌}
use Rattle.std.proofs.Common.{length, Option, Some, None, take, refl, ap, sym, ◌∙◌, subst, arith}
use Rattle.std.proofs.Common.{slice_get, inl, inr}
use Rattle.std.proofs.lemmas.Bool.{cases_eq, cases_lt}
use Rattle.std.proofs.lemmas.Option.{none-some, same_Some, slice_get_within, slice_get-get_or}
use Rattle.std.specs.List.{swap_remove}
use Rattle.std.specs.Prelude.{slice_set, slice_index_or, ◌⊎◌}
use Rattle.segments.proofs.Lists.{slice_get-append_left, slice_get-append_right}
use Rattle.segments.proofs.Lists.{slice_get-set_same, slice_get-set_other}
use Rattle.place_plans.specs.Links.{AreLinked}

get-take : {X : Type 0} (n : ℕ) (xs : List X) (i : ℕ) → i < n
    → slice_get (take n xs) i ≡ slice_get xs i
get-take zero xs i below = absurd (omega arith)
get-take (suc n) [] i below = refl
get-take (suc n) (x ∷ xs) zero below = refl
get-take (suc n) (x ∷ xs) (suc i) below = get-take n xs i (omega arith)

taken_within : {X : Type 0} (n : ℕ) (xs : List X) (i : ℕ) (x : X)
    → slice_get (take n xs) i ≡ Some x → i < n
taken_within zero xs i x is = absurd (none-some x is)
taken_within (suc n) [] i x is = absurd (none-some x is)
taken_within (suc n) (y ∷ xs) zero x is = omega arith
taken_within (suc n) (y ∷ xs) (suc i) x is =
    let later = taken_within n xs i x is in omega arith

-- what is left stood before the last
pub left_within : (xs : List ℕ) (i j q : ℕ) → slice_get (swap_remove xs i 0) j ≡ Some q
    → j + 1 < length xs
left_within xs i j q is =
    let below : j < length xs - 1 = taken_within (length xs - 1)
    (slice_set xs i (slice_index_or xs (length xs - 1) 0)) j q is in omega arith

-- what is left elsewhere stood there
left_there : (xs : List ℕ) (i j q : ℕ) → j ≢ i → slice_get (swap_remove xs i 0) j ≡ Some q
    → slice_get xs j ≡ Some q
left_there xs i j q other is =
    let last = slice_index_or xs (length xs - 1) 0 in
    let within = left_within xs i j q is in
    sym (slice_get-set_other xs i j last other)
    ∙ sym (get-take (length xs - 1) (slice_set xs i last) j (omega arith)) ∙ is

-- what stood elsewhere, and not last, is left there
stays_there : (xs : List ℕ) (i j q : ℕ) → j ≢ i → j + 1 < length xs
    → slice_get xs j ≡ Some q → slice_get (swap_remove xs i 0) j ≡ Some q
stays_there xs i j q other within is =
    let last = slice_index_or xs (length xs - 1) 0 in
    get-take (length xs - 1) (slice_set xs i last) j (omega arith)
    ∙ slice_get-set_other xs i j last other ∙ is

-- the last one takes the stand
moved_from : (xs : List ℕ) (i q : ℕ) → slice_get (swap_remove xs i 0) i ≡ Some q
    → slice_get xs (length xs - 1) ≡ Some q
moved_from xs i q is =
    let last = slice_index_or xs (length xs - 1) 0 in
    let within = left_within xs i i q is in
    slice_get-get_or xs (length xs - 1) 0 (omega arith)
    ∙ sym (slice_get-set_same xs i last (omega arith))
    ∙ sym (get-take (length xs - 1) (slice_set xs i last) i (omega arith)) ∙ is

moved_to : (xs : List ℕ) (i q : ℕ) → i + 1 < length xs
    → slice_get xs (length xs - 1) ≡ Some q → slice_get (swap_remove xs i 0) i ≡ Some q
moved_to xs i q within is =
    let last = slice_index_or xs (length xs - 1) 0 in
    get-take (length xs - 1) (slice_set xs i last) i (omega arith)
    ∙ slice_get-set_same xs i last (omega arith)
    ∙ sym (slice_get-get_or xs (length xs - 1) 0 (omega arith)) ∙ is

cases_some : (o : Option ℕ) (q : ℕ) → (o ≡ Some q) ⊎ (o ≢ Some q)
cases_some None q = inr (none-some q)
cases_some (Some r) q = elim (cases_eq r q) [
  | inl e ↦ inl (ap Some e)
  | inr n ↦ inr (λ h. n (same_Some r q h))
]

same_pair : (a b : ℕ × ℕ) → a.0 ≡ b.0 → a.1 ≡ b.1 → a ≡ b
same_pair a b e f = ap (λ (m : ℕ). (m, a.1)) e ∙ ap (λ (j : ℕ). (b.0, j)) f

-- a place that takes another's stand is not that one, and stood last
pub moved_other : {at : ℕ → Option (ℕ × ℕ)} {places : ℕ → List ℕ} (p : ℕ) (s : ℕ × ℕ) (q : ℕ)
    → AreLinked at places → at p ≡ Some s
    → slice_get (swap_remove (places s.0) s.1 0) s.1 ≡ Some q
    → at q ≡ Some (s.0, length (places s.0) - 1)
moved_other {at} {places} p s q was is moved =
    was.says q (s.0, length (places s.0) - 1) (moved_from (places s.0) s.1 q moved)

pub moved_apart : {at : ℕ → Option (ℕ × ℕ)} {places : ℕ → List ℕ} (p : ℕ) (s : ℕ × ℕ) (q : ℕ)
    → AreLinked at places → at p ≡ Some s
    → slice_get (swap_remove (places s.0) s.1 0) s.1 ≡ Some q → q ≢ p
moved_apart {at} {places} p s q was is moved = λ e.
    let within = left_within (places s.0) s.1 s.1 q moved in
    let same : s.1 ≡ length (places s.0) - 1 = ap (λ (x : ℕ × ℕ). x.1)
    (same_Some s (s.0, length (places s.0) - 1)
    (sym is ∙ ap at (sym e) ∙ moved_other p s q was is moved)) in
    omega arith

-- a plan goes: the last place of its bucket takes its stand
module _ (at later : ℕ → Option (ℕ × ℕ)) (places left : ℕ → List ℕ) (p : ℕ) (s : ℕ × ℕ)
    (was : AreLinked at places) (is : at p ≡ Some s)
    (own : left s.0 ≡ swap_remove (places s.0) s.1 0)
    (others : (m : ℕ) → m ≢ s.0 → left m ≡ places m) (gone : later p ≡ None)
    (moved : (q : ℕ) → slice_get (left s.0) s.1 ≡ Some q → later q ≡ Some s)
    (kept : (q : ℕ) → q ≢ p → slice_get (left s.0) s.1 ≢ Some q → later q ≡ at q) where
  -- what stands in the bucket
  here : (j q : ℕ) → slice_get (left s.0) j ≡ Some q
      → slice_get (swap_remove (places s.0) s.1 0) j ≡ Some q
  here j q h = sym (ap (λ xs. slice_get xs j) own) ∙ h

  there : (j q : ℕ) → slice_get (swap_remove (places s.0) s.1 0) j ≡ Some q
      → slice_get (left s.0) j ≡ Some q
  there j q h = ap (λ xs. slice_get xs j) own ∙ h

  stands_in : (q j : ℕ) → q ≢ p → slice_get (left s.0) s.1 ≢ Some q
      → slice_get (places s.0) j ≡ Some q → slice_get (left s.0) j ≡ Some q
  stands_in q j other unmoved stood =
      let first = slice_get_within (places s.0) s.1 p (was.stands p s is) in
      let within = slice_get_within (places s.0) j q stood in
      elim (cases_eq j s.1) [
        | inl e ↦ absurd (other (same_Some q p (sym stood ∙ ap (slice_get (places s.0)) e
            ∙ was.stands p s is)))
        | inr d ↦ elim (cases_lt (j + 1) (length (places s.0))) [
          | inl below ↦ there j q (stays_there (places s.0) s.1 j q d below stood)
          | inr past ↦
              let e : j ≡ length (places s.0) - 1 = omega arith in
              absurd (unmoved (there s.1 q (moved_to (places s.0) s.1 q (omega arith)
              (sym (ap (slice_get (places s.0)) e) ∙ stood))))
        ]
      ]

  stands_now : (q : ℕ) (u : ℕ × ℕ) → later q ≡ Some u → slice_get (left u.0) u.1 ≡ Some q
  stands_now q u h = elim (cases_some (slice_get (left s.0) s.1) q) [
    | inl e ↦
        let same : s ≡ u = same_Some s u (sym (moved q e) ∙ h) in
        subst (λ (v : ℕ × ℕ). slice_get (left v.0) v.1 ≡ Some q) same e
    | inr n ↦ elim (cases_eq q p) [
      | inl e ↦ absurd (none-some u (sym gone ∙ ap later (sym e) ∙ h))
      | inr o ↦
          let stood = was.stands q u (sym (kept q o n) ∙ h) in
          elim (cases_eq u.0 s.0) [
            | inl e ↦ ap (λ m. slice_get (left m) u.1) e
                ∙ stands_in q u.1 o n (sym (ap (λ m. slice_get (places m) u.1) e) ∙ stood)
            | inr d ↦ ap (λ xs. slice_get xs u.1) (others u.0 d) ∙ stood
          ]
    ]
  ]

  says_now : (q : ℕ) (u : ℕ × ℕ) → slice_get (left u.0) u.1 ≡ Some q → later q ≡ Some u
  says_now q u h = elim (cases_eq u.0 s.0) [
    | inr d ↦
        let said = was.says q u (sym (ap (λ xs. slice_get xs u.1) (others u.0 d)) ∙ h) in
        kept q (λ e. d (ap (λ (x : ℕ × ℕ). x.0) (same_Some u s (sym said ∙ ap at e ∙ is))))
        (λ m. d (ap (λ (x : ℕ × ℕ). x.0) (same_Some u (s.0, length (places s.0) - 1)
        (sym said ∙ moved_other p s q was is (here s.1 q m)))))
        ∙ said
    | inl e ↦
        let now : slice_get (left s.0) u.1 ≡ Some q =
        sym (ap (λ m. slice_get (left m) u.1) e) ∙ h in
        elim (cases_eq u.1 s.1) [
          | inl f ↦ moved q (sym (ap (slice_get (left s.0)) f) ∙ now)
              ∙ ap Some (sym (same_pair u s e f))
          | inr d ↦
              let said = was.says q (s.0, u.1)
              (left_there (places s.0) s.1 u.1 q d (here u.1 q now)) in
              let within = left_within (places s.0) s.1 u.1 q (here u.1 q now) in
              kept q (λ g. d (ap (λ (x : ℕ × ℕ). x.1)
              (same_Some (s.0, u.1) s (sym said ∙ ap at g ∙ is))))
              (λ m.
              let last : u.1 ≡ length (places s.0) - 1 = ap (λ (x : ℕ × ℕ). x.1)
              (same_Some (s.0, u.1) (s.0, length (places s.0) - 1)
              (sym said ∙ moved_other p s q was is (here s.1 q m))) in
              omega arith)
              ∙ said ∙ ap (λ m. Some (m, u.1)) (sym e)
        ]
  ]

  pub linked_left : AreLinked later left
  linked_left = record { stands = stands_now; says = says_now }

-- a plan comes, behind the others of its bucket
module _ (at later : ℕ → Option (ℕ × ℕ)) (places more : ℕ → List ℕ) (p m : ℕ)
    (was : AreLinked at places) (none : at p ≡ None)
    (own : more m ≡ places m ++ p ∷ []) (others : (k : ℕ) → k ≢ m → more k ≡ places k)
    (set : later p ≡ Some (m, length (places m)))
    (kept : (q : ℕ) → q ≢ p → later q ≡ at q) where
  stands_more : (q : ℕ) (u : ℕ × ℕ) → later q ≡ Some u → slice_get (more u.0) u.1 ≡ Some q
  stands_more q u h = elim (cases_eq q p) [
    | inl e ↦
        let same : (m, length (places m)) ≡ u =
        same_Some (m, length (places m)) u (sym set ∙ ap later (sym e) ∙ h) in
        subst (λ (v : ℕ × ℕ). slice_get (more v.0) v.1 ≡ Some q) same
        (ap (λ xs. slice_get xs (length (places m))) own
        ∙ slice_get-append_right (places m) (p ∷ []) (length (places m)) 0 (omega arith)
        ∙ ap Some (sym e))
    | inr o ↦
        let stood = was.stands q u (sym (kept q o) ∙ h) in
        elim (cases_eq u.0 m) [
          | inl e ↦
              let before : slice_get (places m) u.1 ≡ Some q =
              sym (ap (λ k. slice_get (places k) u.1) e) ∙ stood in
              ap (λ k. slice_get (more k) u.1) e
              ∙ ap (λ xs. slice_get xs u.1) own
              ∙ slice_get-append_left (places m) (p ∷ []) u.1
              (slice_get_within (places m) u.1 q before)
              ∙ before
          | inr d ↦ ap (λ xs. slice_get xs u.1) (others u.0 d) ∙ stood
        ]
  ]

  said_before : (q : ℕ) (u : ℕ × ℕ) → slice_get (places u.0) u.1 ≡ Some q → later q ≡ Some u
  said_before q u h =
      let said = was.says q u h in
      kept q (λ e. none-some u (sym none ∙ ap at (sym e) ∙ said)) ∙ said

  last : (q : ℕ) (u : ℕ × ℕ) → u.0 ≡ m → length (places m) ≤ u.1
      → slice_get (places m ++ p ∷ []) u.1 ≡ Some q → later q ≡ Some u
  last q u e past now =
      let within : slice_get (p ∷ []) (u.1 - length (places m)) ≡ Some q =
      sym (slice_get-append_right (places m) (p ∷ []) u.1 (u.1 - length (places m))
      (omega arith)) ∙ now in
      let small = slice_get_within (p ∷ []) (u.1 - length (places m)) q within in
      let zeroth : u.1 - length (places m) ≡ 0 = omega arith in
      let same : p ≡ q = same_Some p q (sym (ap (slice_get (p ∷ [])) zeroth) ∙ within) in
      ap later (sym same) ∙ set
      ∙ ap Some (sym (same_pair u (m, length (places m)) e (omega arith)))

  says_more : (q : ℕ) (u : ℕ × ℕ) → slice_get (more u.0) u.1 ≡ Some q → later q ≡ Some u
  says_more q u h = elim (cases_eq u.0 m) [
    | inr d ↦ said_before q u (sym (ap (λ xs. slice_get xs u.1) (others u.0 d)) ∙ h)
    | inl e ↦
        let now : slice_get (places m ++ p ∷ []) u.1 ≡ Some q =
        sym (ap (λ xs. slice_get xs u.1) own) ∙ sym (ap (λ k. slice_get (more k) u.1) e) ∙ h in
        elim (cases_lt u.1 (length (places m))) [
          | inl below ↦ said_before q u (ap (λ k. slice_get (places k) u.1) e
              ∙ sym (slice_get-append_left (places m) (p ∷ []) u.1 below) ∙ now)
          | inr past ↦ last q u e past now
        ]
  ]

  pub linked_more : AreLinked later more
  linked_more = record { stands = stands_more; says = says_more }
