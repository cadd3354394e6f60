-- Changes that are packed.
use Rattle.std.proofs.Common.{◌≡◌, ℕ, ◌+◌, ◌≤◌, ◌<◌, List, [], ◌∷◌, ◌++◌, length, take, drop}
use Rattle.std.proofs.Common.{ap, arith, length-drop, subst, sym, ◌∙◌, refl}
use Rattle.std.specs.List.{sum_by}
use Rattle.std.proofs.lemmas.List.Sums.{sum_by-cons, sum_by_push}
use Rattle.std.proofs.lemmas.List.{drop-drop, drop_all, length-append, nil_from_length, take_all}
use Rattle.std.proofs.lemmas.List.{take-append-le, drop-append-le}
use Rattle.std.proofs.lemmas.List.{drop_min, take_min}
use Rattle.std.proofs.lemmas.Option.{slice_get_within}
use Rattle.std.specs.Prelude.{None, Some, min, slice_get}
use Rattle.pushed_keys.specs.Changed.{AreChanges, IsChange, change_in, unpacked_changes}
use Rattle.pushed_keys.specs.Packed.{len_in}
use Rattle.pushed_keys.specs.declared.change.Change.{Change}
use Rattle.pushed_keys.proofs.Rest.{drop_found, none_from}

-- a change that is packed behind others is behind them
one_more : (bytes words key : List ℕ) (word : ℕ) (change : Change)
    → sum_by len_in words ≡ length bytes → IsChange word (length key) change
    → unpacked_changes (bytes ++ key) (words ++ word ∷ [])
    ≡ unpacked_changes bytes words ++ (key, change) ∷ []
one_more bytes [] key word change whole is =
    let all : take (len_in word) key ≡ key = take_all (len_in word) key
    (let long = is.long in omega arith) in
    subst (λ (bs : List ℕ). unpacked_changes (bs ++ key) (word ∷ []) ≡ (key, change) ∷ [])
    (sym (nil_from_length bytes (sym whole))) (λ i. (all i, is.says i) ∷ [])
one_more bytes (w ∷ words) key word change whole is =
    let len : ℕ = len_in w in
    let all : len + sum_by len_in words ≡ length bytes =
    sym (sum_by-cons len_in w words) ∙ whole in
    let within : len ≤ length bytes = omega (arith, all) in
    let left : sum_by len_in words ≡ length (drop len bytes) =
    omega (arith, all, length-drop len bytes) in
    rw (
      take-append-le len bytes key within,
      drop-append-le len bytes key within,
      one_more (drop len bytes) words key word change left is,
    ) refl

-- so it is behind those that are left
pub left_more : (bytes words key : List ℕ) (behind begin word : ℕ) (change : Change)
    → AreChanges bytes words behind begin → IsChange word (length key) change
    → unpacked_changes (drop begin (bytes ++ key)) (drop behind (words ++ word ∷ []))
    ≡ unpacked_changes (drop begin bytes) (drop behind words) ++ (key, change) ∷ []
left_more bytes words key behind begin word change were is =
    rw (
      drop-append-le begin bytes key were.bytes_left,
      drop-append-le behind words (word ∷ []) were.words_left,
    ) (one_more (drop begin bytes) (drop behind words) key word change were.whole is)

pub changes_more : (bytes words key : List ℕ) (behind begin word : ℕ) (change : Change)
    → AreChanges bytes words behind begin → IsChange word (length key) change
    → AreChanges (bytes ++ key) (words ++ word ∷ []) behind begin
changes_more bytes words key behind begin word change were is =
    record {
      words_left = omega (arith, were.words_left, length-append words (word ∷ []));
      bytes_left = omega (arith, were.bytes_left, length-append bytes key);
      whole = rw (
        drop-append-le begin bytes key were.bytes_left,
        drop-append-le behind words (word ∷ []) were.words_left,
      ) (omega (
        arith,
        sum_by_push len_in (drop behind words) word,
        is.long,
        were.whole,
        length-append (drop begin bytes) key,
      ));
    }

-- the first of those that are left
first_left : (bytes words : List ℕ) (behind begin word : ℕ)
    → drop behind words ≡ word ∷ drop (behind + 1) words
    → unpacked_changes (drop begin bytes) (drop behind words)
    ≡ (take (len_in word) (drop begin bytes), change_in word)
    ∷ unpacked_changes (drop (begin + len_in word) bytes) (drop (behind + 1) words)
first_left bytes words behind begin word here =
    ap (unpacked_changes (drop begin bytes)) here
    ∙ ap (λ (bs : List ℕ). (take (len_in word) (drop begin bytes), change_in word)
    ∷ unpacked_changes bs (drop (behind + 1) words)) (drop-drop (len_in word) begin bytes)

-- those behind it
left_behind : (bytes words : List ℕ) (behind begin word : ℕ)
    → AreChanges bytes words behind begin → behind < length words
    → drop behind words ≡ word ∷ drop (behind + 1) words
    → AreChanges bytes words (behind + 1) (begin + len_in word)
left_behind bytes words behind begin word were lt here =
    let all : len_in word + sum_by len_in (drop (behind + 1) words) ≡ length (drop begin bytes) =
    sym (sum_by-cons len_in word (drop (behind + 1) words)) ∙ ap (sum_by len_in) (sym here)
    ∙ were.whole in
    record {
      words_left = omega (arith, lt);
      bytes_left = omega (arith, all, were.bytes_left, length-drop begin bytes);
      whole = omega (
        arith,
        all,
        were.bytes_left,
        length-drop begin bytes,
        length-drop (begin + len_in word) bytes,
      );
    }

-- how many are left
length_changes : (bytes words : List ℕ) → length (unpacked_changes bytes words) ≡ length words
length_changes bytes [] = refl
length_changes bytes (word ∷ words) =
    omega (arith, length_changes (drop (len_in word) bytes) words)

pub many_left : (bytes words : List ℕ) (behind begin n : ℕ) → AreChanges bytes words behind begin
    → n ≡ length words
    → length (unpacked_changes (drop begin bytes) (drop behind words)) + behind ≡ n
many_left bytes words behind begin n were is =
    omega (
      arith,
      is,
      were.words_left,
      length-drop behind words,
      length_changes (drop begin bytes) (drop behind words),
    )

-- none is left
none_left : (bytes words : List ℕ) (behind begin : ℕ) → length words ≤ behind
    → unpacked_changes (drop begin bytes) (drop behind words) ≡ []
none_left bytes words behind begin out =
    ap (unpacked_changes (drop begin bytes)) (drop_all behind words out)

-- the first, as it is lent
pub first_found : (bytes words key : List ℕ) (behind begin word : ℕ) (change : Change)
    (cs : List (List ℕ × Change))
    → unpacked_changes (drop begin bytes) (drop behind words) ≡ cs
    → slice_get words behind ≡ Some word → key ≡ take (len_in word) (drop begin bytes)
    → change ≡ change_in word → cs ≡ (key, change) ∷ drop 1 cs
first_found bytes words key behind begin word change cs view is k c =
    let first = first_left bytes words behind begin word (drop_found words behind word is) in
    subst (λ (all : List (List ℕ × Change)). all ≡ (key, change) ∷ drop 1 all) view
    (first ∙ (λ i. (sym k i, sym c i) ∷ drop 1 (sym first i)))

-- its key
pub key_taken : (bytes all left key : List ℕ) (begin at word n : ℕ) → all ≡ bytes
    → at ≡ min begin (length all) → left ≡ drop at all → n ≡ min (len_in word) (length left)
    → key ≡ take n left → key ≡ take (len_in word) (drop begin bytes)
key_taken bytes all left key begin at word n same a l m k =
    k ∙ ap (λ (i : ℕ). take i left) m ∙ take_min (len_in word) left
    ∙ ap (take (len_in word)) (l ∙ ap (λ (i : ℕ). drop i all) a ∙ drop_min begin all
    ∙ ap (drop begin) same)

-- there is none
pub none_found : (bytes words : List ℕ) (behind begin : ℕ) (cs : List (List ℕ × Change))
    → unpacked_changes (drop begin bytes) (drop behind words) ≡ cs
    → slice_get words behind ≡ None → cs ≡ []
none_found bytes words behind begin cs view none =
    sym view ∙ none_left bytes words behind begin (none_from words behind none)

-- those behind the first
pub first_skipped : (bytes words : List ℕ) (behind begin word : ℕ) (cs : List (List ℕ × Change))
    → unpacked_changes (drop begin bytes) (drop behind words) ≡ cs
    → slice_get words behind ≡ Some word
    → unpacked_changes (drop (begin + len_in word) bytes) (drop (behind + 1) words) ≡ drop 1 cs
first_skipped bytes words behind begin word cs view is =
    ap (drop 1)
    (sym (first_left bytes words behind begin word (drop_found words behind word is)) ∙ view)

pub skipped_left : (bytes words : List ℕ) (behind begin word : ℕ)
    → AreChanges bytes words behind begin → slice_get words behind ≡ Some word
    → AreChanges bytes words (behind + 1) (begin + len_in word)
skipped_left bytes words behind begin word were is =
    left_behind bytes words behind begin word were (slice_get_within words behind word is)
    (drop_found words behind word is)
