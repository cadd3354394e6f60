-- A text that is written piece by piece.
use Rattle.std.proofs.Common.{◌≡◌, ℕ, List, [], ◌++◌, take, drop, Option}
use Rattle.std.proofs.Common.{take-append-drop, subst, sym, ap, ◌∙◌, refl, append_assoc, append-nil}
use Rattle.std.specs.Io.KnownBytes.{Appends, Keeps}
use Rattle.std.proofs.KnownBytes.{Appends-kept, Appends-nil, Appends-trans}
use Rattle.replay.specs.Writing.{AppendsFront}

-- the text but for what is left was written
pub record Left (before after : Option (List ℕ)) (text left : List ℕ) : Type 0 where
  pub front : List ℕ
  pub whole : text ≡ front ++ left
  pub appends : Appends before after front

pub all_left : (before : Option (List ℕ)) (text : List ℕ) → Left before before text text
all_left before text = record { front = []; whole = refl; appends = Appends-nil before }

pub left_kept : (before middle after : Option (List ℕ)) (text left : List ℕ)
    → Left before middle text left → Keeps middle after → Left before after text left
left_kept before middle after text left h keeps =
    record {
      front = h.front;
      whole = h.whole;
      appends =
          Appends-kept before middle after h.front h.appends keeps;
    }

pub left_less : (before middle after : Option (List ℕ)) (text left : List ℕ) (count : ℕ)
    → Left before middle text left → Appends middle after (take count left)
    → Left before after text (drop count left)
left_less before middle after text left count h more =
    record {
      front = h.front ++ take count left;
      whole = h.whole ∙ ap (λ (t : List ℕ). h.front ++ t) (sym (take-append-drop count left))
          ∙ sym (append_assoc h.front (take count left) (drop count left));
      appends = Appends-trans before middle after h.front (take count left) h.appends more;
    }

pub left_none : (before after : Option (List ℕ)) (text left : List ℕ) → Left before after text left
    → left ≡ [] → Appends before after text
left_none before after text left h none =
    subst (λ (t : List ℕ). Appends before after t)
    (sym (h.whole ∙ ap (λ (t : List ℕ). h.front ++ t) none ∙ append-nil h.front)) h.appends

pub left_cut : (before after : Option (List ℕ)) (text left : List ℕ) → Left before after text left
    → AppendsFront before after text
left_cut before after text left h = record {
  front = h.front;
  behind = left;
  whole =
      h.whole;
  appends = h.appends;
}
