-- A joint truth changes only where one of its conditions turns.
use Rattle.std.proofs.Common.{◌≡◌, ◌≢◌, ℕ, ◌+◌, ◌-◌, ◌<◌, ◌≤◌, zero, suc, Bool, true, false, ◌&&◌}
use Rattle.std.proofs.Common.{nat_le, List, [], ◌∷◌, length, get_or, drop, Option, None, Some}
use Rattle.std.proofs.Common.{◌⊎◌, inl, inr, refl, sym, ap, subst, ◌∙◌, take, arith}
use Rattle.std.specs.Prelude.{IfSome}
use Rattle.std.proofs.lemmas.List.{take_rest}
use Rattle.agg_types.specs.Op.{op_holds}
use Rattle.agg_types.specs.declared.config.Op.{Op}
use Rattle.agg_types.specs.declared.config.Op.TheVariants.{Ge}
use Rattle.crossing.specs.First.{IsFirstFrom}
use Rattle.crossing.specs.Parts.{AnyTurnsAfter, IsBy, TurnsAfter, all_hold, part_holds}
use Rattle.crossing.specs.declared.change.Part.{Part}

pub same_or_not : (a b : Bool) → (a ≡ b) ⊎ (a ≢ b)
same_or_not true true = inl refl
same_or_not true false = inr (λ e. cc)
same_or_not false true = inr (λ e. cc)
same_or_not false false = inl refl

-- what holds of what was found
pub of_found : (p : ℕ → Type 0) (o : Option ℕ) (t : ℕ) → o ≡ Some t → IfSome o p → p t
of_found p o t e h = subst (λ o. IfSome o p) e h

-- the first condition turns, or one of the others
pub first_or_others : {F : Type 0} (value : F → ℕ → ℕ) (d : ℕ) (parts : List (Part F))
    (part : Part F)
    → part ≡ get_or parts 0 part → 1 ≤ length parts → AnyTurnsAfter value d parts
    → TurnsAfter value d part ⊎ AnyTurnsAfter value d (take (length parts - 1) (drop 1 parts))
first_or_others value d [] part is some any = absurd (omega arith)
first_or_others value d (p ∷ parts) part is some (inl turns) =
    inl (subst (TurnsAfter value d) (sym is) turns)
first_or_others value d (p ∷ parts) part is some (inr any) =
    inr (subst (AnyTurnsAfter value d) (sym (take_rest (p ∷ parts) 1)) any)

-- either some condition turns after a moment, or their joint truth stays
pub turn_or_same : {F : Type 0} (value : F → ℕ → ℕ) (d : ℕ) (parts : List (Part F))
    → AnyTurnsAfter value d parts ⊎ (all_hold value parts (suc d) ≡ all_hold value parts d)
turn_or_same value d [] = inr refl
turn_or_same value d (part ∷ parts) =
    elim (same_or_not (part_holds value part (suc d)) (part_holds value part d)) [
      | inl same ↦ elim (turn_or_same value d parts) [
        | inl any ↦ inl (inr any)
        | inr others ↦ inr (ap (λ b. b && all_hold value parts (suc d)) same
            ∙ ap (λ b. part_holds value part d && b) others)
      ]
      | inr turns ↦ inl (inl turns)
    ]

-- a truth stays as it was while no change of it is found
pub same_before : (truth : ℕ → Bool) (now : ℕ) (found : Option ℕ)
    → ((d : ℕ) → now ≤ d → (truth (suc d) ≡ truth d)
    ⊎ (truth (suc d) ≢ truth now → IsBy found (suc d)))
    → (k : ℕ) → ((u : ℕ) → now < u → u ≤ now + k → IsBy found u → ⊥) → truth (now + k) ≡ truth now
same_before truth now found step zero none = ap truth (omega arith)
same_before truth now found step (suc k) none =
    let before : truth (now + k) ≡ truth now =
    same_before truth now found step k (λ u a b. none u a (omega arith)) in
    let next : now + suc k ≡ suc (now + k) = omega arith in
    ap truth next ∙ elim (step (now + k) (omega arith)) [
      | inl same ↦ same ∙ before
      | inr by ↦ elim (same_or_not (truth (suc (now + k))) (truth now)) [
        | inl same ↦ same
        | inr other ↦ absurd (none (suc (now + k)) (omega arith) (omega arith) (by other))
      ]
    ]

-- what was found is the first change
pub is_first_change : (truth : ℕ → Bool) (now : ℕ) (found : Option ℕ)
    → ((d : ℕ) → now ≤ d → (truth (suc d) ≡ truth d)
    ⊎ (truth (suc d) ≢ truth now → IsBy found (suc d)))
    → IfSome found (λ t. (now < t) × (truth t ≢ truth now))
    → IsFirstFrom (now + 1) (λ t. truth t ≢ truth now) found
is_first_change truth now None step is = λ s since other.
    let same : truth (now + (s - now)) ≡ truth now =
    same_before truth now None step (s - now) (λ u a b by. by) in
    other (ap truth (omega arith) ∙ same)
is_first_change truth now (Some t) step is = record {
  since = let later : now < t = is.0 in omega arith;
  holds = is.1;
  not_before = λ s since before other.
      let same : truth (now + (s - now)) ≡ truth now =
      same_before truth now (Some t) step (s - now) (λ u a b by. absurd (omega arith)) in
      other (ap truth (omega arith) ∙ same);
}

-- a value that falls turns no longer at least a bound
pub turned_ge : (op : Op) (bound now next : ℕ) → op ≡ Ge → next ≤ now
    → op_holds op next bound ≢ op_holds op now bound → (bound ≤ now) × (next < bound)
turned_ge op bound now next is falls turns =
    of_ge (subst (λ op. op_holds op next bound ≢ op_holds op now bound) is turns)
  where
    of_ge : nat_le bound next ≢ nat_le bound now → (bound ≤ now) × (next < bound)
    of_ge turns = grind (arith, falls, turns)
