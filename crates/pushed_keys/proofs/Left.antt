-- How far a table is taken down: what is done, and what is left to do.
use Rattle.std.proofs.Common.{◌≡◌, List, [], ◌∷◌, ◌++◌, append_assoc, append-nil, ap, subst, sym}
use Rattle.std.proofs.Common.{◌∙◌, ℕ, ◌+◌, ◌<◌, ◌%◌, ◌^◌, length, arith}
use Rattle.std.proofs.Math.Nat.{mod-add-mod}
use Rattle.std.proofs.lemmas.List.Concat.{flat_map-append}
pub use Rattle.pushed_keys.specs.Passed.{IsDone}
use Rattle.pushed_keys.specs.Stands.{Stand}
use Rattle.pushed_keys.specs.Turns.{changes, key_change, key_mark, last_after, marks_after, next_id}
use Rattle.pushed_keys.specs.declared.change.Change.{Change}
use Rattle.pushed_keys.specs.declared.change.Turn.{Turn}
pub use Rattle.pushed_keys.specs.declared.done.Done.{Done}
use Rattle.pushed_keys.specs.declared.pushed.Pushed.{Pushed}
use Rattle.pushed_keys.specs.declared.told.Mark.{Mark}

pub none_done : (p : Pushed) (turn : Turn) (old : Done) → IsDone p turn old [] old
none_done p turn old = record {
  said = sym (append-nil old.changes);
  kept = sym (append-nil old.kept);
}

-- some keys, and then others
pub done_then : (p : Pushed) (turn : Turn) (old mid new : Done) (xs ys : List Stand)
    → IsDone p turn old xs mid → IsDone p turn mid ys new → IsDone p turn old (xs ++ ys) new
done_then p turn old mid new xs ys f h = record {
  said = h.said ∙ ap (λ (cs : List (List ℕ × Change)). cs ++ changes p turn ys) f.said
      ∙ append_assoc old.changes (changes p turn xs) (changes p turn ys)
      ∙ ap (λ (cs : List (List ℕ × Change)). old.changes ++ cs)
      (sym (flat_map-append (key_change p turn) xs ys));
  kept = h.kept ∙ ap (λ (ms : List Mark). ms ++ marks_after p turn ys) f.kept
      ∙ append_assoc old.kept (marks_after p turn xs) (marks_after p turn ys)
      ∙ ap (λ (ms : List Mark). old.kept ++ ms) (sym (flat_map-append (key_mark p turn) xs ys));
}

-- all is done where no key is left
pub done_by : (p : Pushed) (turn : Turn) (old at : Done) (keys left : List Stand) → left ≡ []
    → ((new : Done) → IsDone p turn at left new → IsDone p turn old keys new)
    → IsDone p turn old keys at
done_by p turn old at keys left none more =
    more at (subst (λ (ks : List Stand). IsDone p turn at ks at) (sym none)
    (none_done p turn at))

-- the last id behind changes, by how many they are
pub last_counts : (last : ℕ) (cs : List (List ℕ × Change)) → last < 2 ^ 32
    → last_after last cs ≡ (last + length cs) % 2 ^ 32
last_counts last [] small = omega arith
last_counts last (c ∷ cs) small =
    last_counts (next_id last) cs (omega arith) ∙ mod-add-mod (last + 1) (2 ^ 32) (length cs)
    ∙ ap (λ (n : ℕ). n % 2 ^ 32)
    (let s : (last + 1) + length cs ≡ last + length (c ∷ cs) = omega arith in s)
