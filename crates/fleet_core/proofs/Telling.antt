-- What connections were told.
use Rattle.std.proofs.Common.{◌≡◌, ℕ, false, if◌then◌else◌, List, [], ◌∷◌}
use Rattle.std.proofs.Common.{refl, sym, ap, ◌∙◌, suc, ◌+◌, ◌<◌, ◌++◌, map, length, drop, get_or}
use Rattle.std.proofs.Common.{append_assoc, add-one, drop-cons}
use Rattle.std.proofs.lemmas.List.{map-append}
use Rattle.std.specs.List.{list_any}
use Rattle.agg_types.specs.declared.config.Config.{Config}
use Rattle.telling.specs.Telling.{asked, untold}
use Rattle.fleet_core.specs.declared.step.Step.{Step}
use Rattle.fleet_core.specs.declared.step.Step.TheVariants.{Connect, Bytes, Lost, Clear, AddFilter}
use Rattle.fleet_core.specs.declared.step.Step.TheVariants.{DropFilter, Moment, Told}
use Rattle.fleet_core.specs.Steps.{names}
use Rattle.fleet_core.specs.Telling.{is_asked, told_of, told_turn}
use Rattle.fleet_core.proofs.Counts.{eq_self, or_false}

-- a step that doesn't name a connection tells it nothing
pub told_other : (config : Config) (opening : ℕ) (past : List Step) (step : Step) (conn : ℕ)
    → names conn step ≡ false
    → told_of config opening (step ∷ past) conn ≡ told_of config opening past conn
unfolding told_of
told_other config opening past Connect conn other = refl
told_other config opening past (Bytes of piece) conn other = rw other refl
told_other config opening past (Lost of) conn other = refl
told_other config opening past (Clear table sel) conn other = refl
told_other config opening past (AddFilter filter) conn other = refl
told_other config opening past (DropFilter name) conn other = refl
told_other config opening past (Moment moment) conn other = refl
told_other config opening past (Told of) conn other = rw other refl

-- a connection that no step names was told nothing
pub told_stranger : (config : Config) (opening : ℕ) (past : List Step) (conn : ℕ)
    → list_any (names conn) past ≡ false → told_of config opening past conn ≡ untold
unfolding told_of
told_stranger config opening [] conn none = refl
told_stranger config opening (step ∷ past) conn none =
    let both = or_false (names conn step) (list_any (names conn) past) none in
    told_other config opening past step conn both.0
    ∙ told_stranger config opening past conn both.1

-- a loss tells nothing
pub told_lost : (config : Config) (opening : ℕ) (past : List Step) (of conn : ℕ)
    → told_of config opening (Lost of ∷ past) conn ≡ told_of config opening past conn
unfolding told_of
told_lost config opening past of conn = refl

-- a piece of its stream tells a connection to be told all anew, if it asks for that
pub told_bytes : (config : Config) (opening : ℕ) (past : List Step) (conn : ℕ) (piece : List ℕ)
    → told_of config opening (Bytes conn piece ∷ past) conn
    ≡ (if is_asked config opening past conn piece then asked (told_of config opening past conn)
    else told_of config opening past conn)
unfolding told_of
told_bytes config opening past conn piece = rw (eq_self conn) refl

-- a turn
pub told_told : (config : Config) (opening : ℕ) (past : List Step) (conn : ℕ)
    → told_of config opening (Told conn ∷ past) conn
    ≡ told_turn config opening past conn (told_of config opening past conn)
unfolding told_of
told_told config opening past conn = rw (eq_self conn) refl

-- one more of what is done, from one of what is left
pub one_more_done : {A B P : Type 0} (g : A → B) (f : P → B) (done : List A) (x : A) (xs : List P)
    (i : ℕ) (p : P) → i < length xs → p ≡ get_or xs i p → g x ≡ f p
    → map g (done ++ x ∷ []) ++ map f (drop (i + 1) xs) ≡ map g done ++ map f (drop i xs)
one_more_done g f done x xs i p lt is same =
    let here : drop i xs ≡ p ∷ drop (i + 1) xs =
    rw add-one (drop-cons xs i p lt ∙ ap (λ y. y ∷ drop (suc i) xs) (sym is)) in
    rw (here, map-append, same) (append_assoc (map g done) (f p ∷ []) (map f (drop (i + 1) xs)))
