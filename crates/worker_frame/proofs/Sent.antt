-- Bytes that were sent in parts.
use Rattle.std.specs.Io.KnownBytes.{Appends, Keeps}
use Rattle.std.proofs.Common.{Option, None, Some, [], append-nil, ◌≡◌, ◌++◌, ℕ, List, take, drop}
use Rattle.std.proofs.Common.{ap, sym, ◌∙◌, append_assoc}
use Rattle.std.proofs.lemmas.List.{take-append-drop}

pub sent_more : (bytes sent rest : List ℕ) (count : ℕ) → bytes ≡ sent ++ rest
    → bytes ≡ (sent ++ take count rest) ++ drop count rest
sent_more bytes sent rest count is =
    is ∙ (ap (λ r. sent ++ r) (sym (take-append-drop count rest))
    ∙ sym (append_assoc sent (take count rest) (drop count rest)))

-- what was kept has nothing more
pub kept_none : (a b : Option (List ℕ)) → Keeps a b → Appends a b []
kept_none None b keeps = tt
kept_none (Some w) None keeps = absurd keeps
kept_none (Some w) (Some v) keeps = keeps ∙ sym (append-nil w)

-- what was written goes on
pub wrote_more : (a b c : Option (List ℕ)) (xs ys : List ℕ) → Appends a b xs → Appends b c ys
    → Appends a c (xs ++ ys)
wrote_more None b c xs ys p q = tt
wrote_more (Some w) None c xs ys p q = absurd p
wrote_more (Some w) (Some v) None xs ys p q = absurd q
wrote_more (Some w) (Some v) (Some u) xs ys p q = q ∙ (ap (λ zs. zs ++ ys) p ∙ append_assoc w xs ys)

pub wrote_none : (a : Option (List ℕ)) → Appends a a []
wrote_none None = tt
wrote_none (Some w) = sym (append-nil w)

pub wrote_kept : (a b c : Option (List ℕ)) (xs : List ℕ) → Appends a b xs → Keeps b c
    → Appends a c xs
wrote_kept None b c xs p q = tt
wrote_kept (Some w) None c xs p q = absurd p
wrote_kept (Some w) (Some v) None xs p q = absurd q
wrote_kept (Some w) (Some v) (Some u) xs p q = q ∙ p
