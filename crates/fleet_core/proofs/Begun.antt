-- A fleet stands for no steps at first.
use Rattle.std.proofs.Common.{◌≡◌, ℕ, zero, suc, false, List, [], ◌∷◌, sym, ap, ◌∙◌, refl, None}
use Rattle.std.proofs.Common.{Bool, true, ◌&&◌, not, is_none, nat_le, nat_lt, inl, inr, arith}
use Rattle.std.proofs.lemmas.Bool.{leb-true}
use Rattle.std.specs.Bool.{then_some}
use Rattle.agg_types.specs.declared.config.Config.{Config}
use Rattle.agg_types.specs.declared.event.Event.{Event}
use Rattle.agg_types.specs.declared.event.What.TheVariants.{Sit}
use Rattle.fleet_model.proofs.Step.{one_more}
use Rattle.fleet_model.specs.Machine.{after}
use Rattle.fleet_model.specs.State.{IsStateOf, State, state_of}
use Rattle.fleet_core.specs.Events.{events_of, talk_of}
use Rattle.fleet_core.specs.Links.{Link, is_open, link_of, linked, open_link}
use Rattle.fleet_core.specs.Possible.{are_possible}
use Rattle.fleet_core.specs.Steps.{is_lost}
use Rattle.fleet_core.specs.Represents.{Collected, Represents}
use Rattle.fleet_core.proofs.Counts.{bool_tells}

abbrev first : Event
first = record { seat = 0; seq = 0; what = Sit }

state_is : (state : State) (config : Config) (opening : ℕ) → IsStateOf state config opening []
    → state ≡ state_of config opening []
unfolding IsStateOf
state_is state config opening h = h

no_links : (config : Config) (events : List Event) (conn : ℕ) → link_of config events [] conn ≡ None
unfolding link_of is_open
no_links config events zero = refl
no_links config events (suc conn) =
    rw (late conn) (never (nat_lt 0 (suc conn)) (not (is_lost [] (suc conn)))
    (is_none (talk_of config events [] (suc conn)).end) (open_link config events [] (suc conn)))
  where
    late : (n : ℕ) → nat_le (suc n) 0 ≡ false
    late n = elim (bool_tells (nat_le (suc n) 0)) [
      | inl e ↦
          (let le = leb-true (suc n) 0 e in let no : ⊥ = omega (arith, le) in elim no [ ])
      | inr e ↦
          e
    ]

    never : (a b c : Bool) (link : Link) → then_some ((a && (false && b)) && c) link ≡ None
    never true b c link = refl
    never false b c link = refl

pub opened_stands : (fleet : Collected) (book : State) (config : Config) (opening : ℕ)
    → fleet.book ≡ after book (record { seat = 0; seq = 0; what = Sit })
    → IsStateOf book config opening [] → fleet.waiting ≡ [] → fleet.links ≡ [] → fleet.connected ≡ 0
    → fleet.next_seq ≡ 1 → Represents fleet config opening []
unfolding events_of are_possible
opened_stands fleet book config opening taken stands waiting links connected front =
    record {
      handed = first ∷ [];
      split = ap (λ some. first ∷ some) (sym waiting);
      book = taken ∙ ap (λ state. after state first) (state_is book config opening stands)
          ∙ sym (one_more config opening [] first);
      links = λ conn. ap (λ some. linked some conn) links ∙ sym (no_links config (first ∷ []) conn);
      connected = connected;
      next_seq = front;
      told = λ conn. rw links tt;
      strangers = λ conn later. refl;
      possible = refl;
    }
