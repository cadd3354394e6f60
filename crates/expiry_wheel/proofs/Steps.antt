-- What one call of `next` gives of a range.
use Rattle.std.proofs.Common.{◌≡◌, Bool, true, false, List, [], ◌∷◌, refl, ap, sym, arith}
use Rattle.std.specs.Prelude.{Option, Some, None, Result, Ok, Err, OnOk, OnErr, MatchOption, IfSome}
use Rattle.std.specs.Prelude.{IfNone, filter, ◌&&◌}
use Rattle.std.specs.Borrow.{Bor}
use Rattle.std.specs.List.{find}
use Rattle.std.specs.Option.{option_copied}
use Rattle.std.proofs.lemmas.Grind.{common_steps}
use Rattle.expiry_wheel.specs.Items.{first_item}

-- what `next` answers is the first of what was left
pub step-first : {T : Type 0} (r : Option (Bor T)) (s t : List T)
    → MatchOption r ((s ≡ []) × (t ≡ [])) (λ x. s ≡ x.now ∷ t) → option_copied r ≡ first_item s
step-first None s t h = sym (ap first_item h.0)
step-first (Some x) s t h = sym (ap first_item h)

-- the first that passes a test
pub first-filter : {T : Type 0} (p q : T → Bool) → ((x : T) → p x ≡ q x) → (xs : List T)
    → first_item (filter p xs) ≡ find q xs
first-filter p q same [] = refl
first-filter p q same (x ∷ xs) = grind (arith, common_steps, same x, first-filter p q same xs)

pub and_true : (b : Bool) → (b && true) ≡ b
and_true true = refl
and_true false = refl

-- a fact for one outcome follows from another
pub on_ok : {A B : Type 0} (r : Result A B) {P Q : Type 0} → OnOk r P → (P → Q) → OnOk r Q
on_ok (Ok x) h f = f h
on_ok (Err e) h f = tt

pub on_err : {A B : Type 0} (r : Result A B) {P Q : Type 0} → OnErr r P → (P → Q) → OnErr r Q
on_err (Ok x) h f = tt
on_err (Err e) h f = f h

-- a fact that follows under either outcome
pub either_way : {A B : Type 0} (r : Result A B) {P Q R : Type 0} → OnOk r P → OnErr r Q
    → (P → R) → (Q → R) → R
either_way (Ok x) h k f g = f h
either_way (Err e) h k f g = g k

-- a fact for one variant, from that variant
pub if_some_by : {X : Type 0} (o : Option X) {P : X → Type 0}
    → ((x : X) → o ≡ Some x → P x) → IfSome o P
if_some_by None f = tt
if_some_by (Some x) f = f x refl

pub if_none_by : {X : Type 0} (o : Option X) {P : Type 0} → (o ≡ None → P) → IfNone o P
if_none_by None f = f refl
if_none_by (Some x) f = tt

pub if_some : {X : Type 0} (o : Option X) {P Q : X → Type 0} → IfSome o P
    → ((x : X) → P x → Q x) → IfSome o Q
if_some None h f = tt
if_some (Some x) h f = f x h

pub if_none : {X : Type 0} (o : Option X) {P Q : Type 0} → IfNone o P → (P → Q) → IfNone o Q
if_none None h f = f h
if_none (Some x) h f = tt

pub match_option : {X : Type 0} (o : Option X) {P P' : Type 0} {Q Q' : X → Type 0} → IfNone o P
    → IfSome o Q → (P → P') → ((x : X) → Q x → Q' x) → MatchOption o P' Q'
match_option None h k f g = f h
match_option (Some x) h k f g = g x k
