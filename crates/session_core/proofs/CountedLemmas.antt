-- The last update id, counted from the last explicit one.
use Rattle.std.proofs.Common.{◌≡◌, ℕ, suc, ◌+◌, ◌%◌, ◌^◌, ◌++◌, Bool, true, false, if◌then◌else◌}
use Rattle.std.proofs.Common.{List, [], ◌∷◌, Option, Some, None, refl, arith}
use Rattle.std.specs.Prelude.{option_to_list}
use Rattle.peers_msg.specs.declared.message.Message.{Message}
use Rattle.agg_types.specs.declared.config.Shape.{Shape}
use Rattle.session_core.specs.InForce.{counted_id, followed_updates, id_given, incremental_since}
use Rattle.session_core.specs.InForce.{is_under, last_explicit, last_id, update_of_message}
use Rattle.session_core.specs.Tracked.{id_after}

one_counted : (ids : List (Option ℕ)) → (counted_id ids + 1) % 2 ^ 32
    ≡ (last_explicit ids + suc (incremental_since ids)) % 2 ^ 32
one_counted [] = refl
one_counted (Some explicit ∷ older) = refl
one_counted (None ∷ older) = omega arith

one_more : (explicit : Option ℕ) (last : ℕ) (ids : List (Option ℕ)) → last ≡ counted_id ids
    → id_after last explicit ≡ counted_id (explicit ∷ ids)
one_more (Some id) last ids is = refl
one_more None last ids is = rw is (one_counted ids)

given_counted : (under : Bool) (update : Option (Option ℕ)) (last : ℕ) (ids : List (Option ℕ))
    → last ≡ counted_id ids → id_given under update last
    ≡ counted_id (if under then option_to_list update ++ ids else ids)
given_counted true None last ids is = is
given_counted false None last ids is = is
given_counted true (Some explicit) last ids is = one_more explicit last ids is
given_counted false (Some explicit) last ids is = is

pub last_id_counted : (tables : List Shape) (id : ℕ) (past : List Message)
    → last_id tables id past ≡ counted_id (followed_updates tables id past)
last_id_counted tables id [] = refl
last_id_counted tables id (message ∷ past) =
    given_counted (is_under tables id past) (update_of_message message) (last_id tables id past)
    (followed_updates tables id past) (last_id_counted tables id past)
