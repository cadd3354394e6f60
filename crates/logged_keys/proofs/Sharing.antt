-- What a round finds, tells and leaves out, one filter behind the other.
use Rattle.std.proofs.Common.{◌≡◌, ℕ, List, [], ◌∷◌, ◌++◌, map, Option, None, Some, refl, sym, ap}
use Rattle.std.proofs.Common.{◌∙◌, ◌<◌, length, arith, append-nil, append_assoc}
use Rattle.std.proofs.lemmas.List.Elements.{All-cons, All-nil}
use Rattle.hub.specs.Trailed.{Trailed}
use Rattle.logged_keys.specs.Telling.{Adds, AreFound, AreShared, IsFound, IsShared, Share, Shares}
use Rattle.logged_keys.specs.declared.found.Found.{Found}
use Rattle.logged_keys.specs.declared.round.LeftOut.{LeftOut}
use Rattle.logged_keys.specs.declared.round.Round.{Round}
use Rattle.logged_keys.specs.declared.round.Told.{Told}

-- ---- what is found

pub found_none : (trail : Trailed) (seen : ℕ) (found : List Found)
    → AreFound trail seen [] found found
found_none trail seen found =
    ([], sym (append-nil found), refl, All-nil (IsFound trail seen))

pub found_more : (trail : Trailed) (seen filter : ℕ) (filters : List ℕ) (one : Found)
    (before middle after : List Found) → middle ≡ before ++ one ∷ [] → one.filter ≡ filter
    → IsFound trail seen one → AreFound trail seen filters middle after
    → AreFound trail seen (filter ∷ filters) before after
found_more trail seen filter filters one before middle after next is known rest =
    let more = rest.0 in (
      one ∷ more,
      rest.1 ∙ (ap (λ l. l ++ more) next ∙ append_assoc before (one ∷ []) more),
      ap (λ n. n ∷ map (λ found. found.filter) more) is ∙ ap (λ l. filter ∷ l) rest.2,
      All-cons (IsFound trail seen) one more known rest.3,
    )

-- ---- what is told and left out

shared_none : (round : Round) → AreShared [] round round
shared_none round = record {
  told = [];
  left = [];
  told_behind = sym (append-nil round.told.items);
  left_behind = sym (append-nil round.left_out.items);
  holds = (refl, refl);
}

pub shared_empty : (found : List Found) (round : Round) → length found < 1
    → AreShared found round round
shared_empty [] round none = shared_none round
shared_empty (one ∷ found) round none = absurd (omega (arith, none))

pub shared_more : (one : Found) (found : List Found) (before middle after : Round)
    → IsShared one before middle → AreShared found middle after
    → AreShared (one ∷ found) before after
shared_more one found before middle after first rest = record {
  told = first.told ++ rest.told;
  left = first.left ++ rest.left;
  told_behind = rest.told_behind ∙ (ap (λ l. l ++ rest.told) first.told_behind
      ∙ append_assoc before.told.items first.told rest.told);
  left_behind = rest.left_behind ∙ (ap (λ l. l ++ rest.left) first.left_behind
      ∙ append_assoc before.left_out.items first.left rest.left);
  holds = (first.told, rest.told, first.left, rest.left, refl, refl, first.holds, rest.holds);
}

-- nothing is told of a filter whose changes aren't known
share_none : (found : Found) → found.changes ≡ None
    → Share found [] (record { filter = found.filter; count = None } ∷ [])
share_none found none = rw none (refl, refl)

pub shared_unknown : (found : Found) (before after : Round) → found.changes ≡ None
    → after.told.items ≡ before.told.items
    → after.left_out.items
    ≡ before.left_out.items ++ record { filter = found.filter; count = None } ∷ []
    → IsShared found before after
shared_unknown found before after none told left = record {
  told = [];
  left = record { filter = found.filter; count = None } ∷ [];
  told_behind = told ∙ sym (append-nil before.told.items);
  left_behind = left;
  holds = share_none found none;
}
