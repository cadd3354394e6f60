-- The ids of a session's updates of one table.
use Rattle.std.proofs.Common.{◌≡◌, ℕ, ◌+◌, ◌%◌, ◌^◌, List, [], ◌∷◌, ◌++◌, map, Option, Some}
use Rattle.std.proofs.Common.{refl, sym, ap, subst, ◌∙◌}
use Rattle.std.specs.Prelude.{slice_get, slice_index_or}
use Rattle.std.specs.List.{enumerate_from}
use Rattle.std.proofs.Math.Nat.{mod-add-mod}
use Rattle.peers_msg.specs.declared.message.Message.{Message}
use Rattle.pushed_keys.specs.Stands.{stands}
use Rattle.pushed_keys.specs.Turns.{changes, last_after, next_id}
use Rattle.pushed_keys.specs.declared.change.Change.{Change}
use Rattle.pushed_keys.specs.declared.change.Change.TheVariants.{Put, TakeAway}
use Rattle.pushed_keys.specs.declared.pushed.Pushed.{Pushed}
use Rattle.telling.specs.Telling.{Told, asked, table_at, told_after, turn_at, untold, update_of}
use Rattle.telling.specs.Telling.{updates}
use Rattle.turn_laws.specs.Session.{Asked, Step, Turned, id_of, updates_behind}
use Rattle.turn_laws.specs.Written.{updates_at}
use Rattle.turn_laws.proofs.Places.{last_there, updates_there}

-- the ids behind the last one
abbrev ids_from : ℕ → List Message → List (Option ℕ)
ids_from last [] = []
ids_from last (u ∷ us) = Some (next_id last) ∷ ids_from (next_id last) us

abbrev last_of : ℕ → List Message → ℕ
last_of last [] = last
last_of last (u ∷ us) = last_of (next_id last) us

ids_append : (last : ℕ) (us vs : List Message)
    → ids_from last (us ++ vs) ≡ ids_from last us ++ ids_from (last_of last us) vs
ids_append last [] vs = refl
ids_append last (u ∷ us) vs =
    ap (λ (ids : List (Option ℕ)). Some (next_id last) ∷ ids) (ids_append (next_id last) us vs)

mapped_append : (us vs : List Message) → map id_of (us ++ vs) ≡ map id_of us ++ map id_of vs
mapped_append [] vs = refl
mapped_append (u ∷ us) vs =
    ap (λ (ids : List (Option ℕ)). id_of u ∷ ids) (mapped_append us vs)

own_id : (table : Pushed) (id : ℕ) (key : List ℕ) (change : Change)
    → id_of (update_of table id key change) ≡ Some id
own_id table id key Put = refl
own_id table id key TakeAway = refl

own_ids : (table : Pushed) (last : ℕ) (cs : List (List ℕ × Change))
    → map id_of (updates table last cs) ≡ ids_from last (updates table last cs)
own_ids table last [] = refl
own_ids table last (c ∷ cs) =
    λ i. own_id table (next_id last) c.0 c.1 i ∷ own_ids table (next_id last) cs i

own_last : (table : Pushed) (last : ℕ) (cs : List (List ℕ × Change))
    → last_after last cs ≡ last_of last (updates table last cs)
own_last table last [] = refl
own_last table last (c ∷ cs) = own_last table (next_id last) cs

ids_at : (pushed : List Pushed) (sets : List (List (List ℕ))) (now : ℕ) (told : Told)
    (place : ℕ) (table : Pushed) → slice_get pushed place ≡ Some table
    → map id_of (updates_at pushed sets now told place)
    ≡ ids_from (table_at told place).last (updates_at pushed sets now told place)
ids_at pushed sets now told place table is =
    subst (λ (us : List Message). map id_of us ≡ ids_from (table_at told place).last us)
    (sym (updates_there pushed sets now told place table is))
    (own_ids table (table_at told place).last (changes table (turn_at now told)
    (stands (slice_index_or sets place []) (table_at told place).marks)))

last_at : (pushed : List Pushed) (sets : List (List (List ℕ))) (now : ℕ) (told : Told)
    (place : ℕ) (table : Pushed) → slice_get pushed place ≡ Some table
    → last_of (table_at told place).last (updates_at pushed sets now told place)
    ≡ (table_at (told_after pushed sets now told) place).last
last_at pushed sets now told place table is =
    ap (last_of (table_at told place).last)
    (updates_there pushed sets now told place table is)
    ∙ sym (last_there pushed sets now told place table is
    ∙ own_last table (table_at told place).last (changes table (turn_at now told)
    (stands (slice_index_or sets place []) (table_at told place).marks)))

all_ids : (pushed : List Pushed) (told : Told) (steps : List Step) (place : ℕ) (table : Pushed)
    → slice_get pushed place ≡ Some table
    → map id_of (updates_behind pushed told steps place)
    ≡ ids_from (table_at told place).last (updates_behind pushed told steps place)
all_ids pushed told [] place table is = refl
all_ids pushed told (Turned sets now ∷ steps) place table is =
    let here : List Message = updates_at pushed sets now told place in
    let rest : List Message = updates_behind pushed (told_after pushed sets now told) steps place in
    mapped_append here rest
    ∙ (λ i. ids_at pushed sets now told place table is i
    ++ all_ids pushed (told_after pushed sets now told) steps place table is i)
    ∙ ap (λ (n : ℕ). ids_from (table_at told place).last here ++ ids_from n rest)
    (sym (last_at pushed sets now told place table is))
    ∙ sym (ids_append (table_at told place).last here rest)
all_ids pushed told (Asked ∷ steps) place table is =
    all_ids pushed (asked told) steps place table is

counted_from : (last k : ℕ) (us : List Message) → next_id last ≡ k % 2 ^ 32
    → ids_from last us ≡ map (λ n. Some (n.0 % 2 ^ 32)) (enumerate_from k us)
counted_from last k [] e = refl
counted_from last k (u ∷ us) e =
    let next : next_id (next_id last) ≡ (k + 1) % 2 ^ 32 =
    ap (λ (n : ℕ). (n + 1) % 2 ^ 32) e ∙ mod-add-mod k (2 ^ 32) 1 in
    λ i. Some (e i) ∷ counted_from (next_id last) (k + 1) us next i

pub counted : (pushed : List Pushed) (steps : List Step) (place : ℕ) (table : Pushed)
    → slice_get pushed place ≡ Some table
    → map id_of (updates_behind pushed untold steps place)
    ≡ map (λ n. Some (n.0 % 2 ^ 32))
    (enumerate_from 1 (updates_behind pushed untold steps place))
counted pushed steps place table is =
    all_ids pushed untold steps place table is
    ∙ counted_from 0 1 (updates_behind pushed untold steps place) refl
