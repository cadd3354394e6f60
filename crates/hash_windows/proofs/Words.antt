-- Words in windows, as windows change, and as there are more of them.
use Rattle.std.proofs.Common.{◌≡◌, ℕ, zero, suc, ◌+◌, ◌-◌, ◌*◌, ◌%◌, ◌<◌, ◌≤◌, List, [], ◌∷◌, ◌++◌}
use Rattle.std.proofs.Common.{length, Some, None, Option, refl, ap, sym, ◌∙◌, subst, arith}
use Rattle.std.proofs.Common.{slice_get}
use Rattle.std.proofs.Common.{true, inl, inr}
use Rattle.std.proofs.Math.Nat.{mod-mod_of_dvd, dvd-mul_right, mod-eq-sub-mod, mod-eq_of_lt}
use Rattle.std.proofs.lemmas.Bool.{cases_lt, cases_eq, cond_below, cond_above}
use Rattle.std.proofs.lemmas.List.{get_or_past, get_or-set_same, get_or-set_other, length-set}
use Rattle.std.proofs.lemmas.List.{length_push, get_or_push, get_or_append_left}
use Rattle.std.proofs.lemmas.Nat.{mod_below}
use Rattle.std.proofs.lemmas.Option.{none-some, slice_get_within, same_Some}
use Rattle.std.specs.Option.{is_some, option_map}
use Rattle.std.specs.Prelude.{◌≢◌, slice_set, slice_index_or}
use Rattle.segments.proofs.Lists.{slice_get-set_same, slice_get-set_other}
use Rattle.segments.proofs.Joined.{past_from_none}
use Rattle.hash_windows.specs.Windows.{word_of, home, hash_in, place_in, short_of, IsFreeAt, IsIn}
use Rattle.hash_windows.specs.Windows.{Has, Names}
use Rattle.hash_windows.specs.declared.windows.Windows.{Windows}
use Rattle.hash_windows.specs.declared.windows.Word.{Word}

pub home_below : (wide half count hash : ℕ) → hash % wide < count
    → home wide half count hash ≡ hash % wide
home_below wide half count hash below =
    sym (cond_below (hash % wide) count (hash % wide) (hash % wide - half) below)

pub home_above : (wide half count hash : ℕ) → count ≤ hash % wide
    → home wide half count hash ≡ hash % wide - half
home_above wide half count hash above =
    sym (cond_above (hash % wide) count (hash % wide) (hash % wide - half) (hash % wide - half)
    above refl)

-- as many windows as hashes choose among serve twice as many
pub home_widened : (wide half count hash : ℕ) → count ≡ wide → 0 < wide
    → home (wide * 2) wide count hash ≡ home wide half count hash
home_widened wide half count hash full some =
    let m : hash % wide < wide = mod_below hash wide some in
    let n : hash % (wide * 2) < wide * 2 = mod_below hash (wide * 2) (omega arith) in
    let old : home wide half count hash ≡ hash % wide =
    home_below wide half count hash (omega arith) in
    let e : hash % (wide * 2) % wide ≡ hash % wide =
    mod-mod_of_dvd wide hash (dvd-mul_right wide 2) in
    elim (cases_lt (hash % (wide * 2)) wide) [
      | inl below ↦
          home_below (wide * 2) wide count hash (omega arith)
          ∙ sym (mod-eq_of_lt below) ∙ e ∙ sym old
      | inr above ↦
          let rest : hash % (wide * 2) - wide < wide = omega arith in
          home_above (wide * 2) wide count hash (omega arith)
          ∙ sym (mod-eq_of_lt rest) ∙ sym (mod-eq-sub-mod above) ∙ e ∙ sym old
    ]

nothing_in : (word : Word) → IsIn [] word → ⊥
nothing_in word there = none-some word there.is

pub in_within : (windows : List (List Word)) (n : ℕ) (word : Word)
    → IsIn (slice_index_or windows n []) word → n < length windows
in_within windows n word there =
    elim (cases_lt n (length windows)) [
      | inl within ↦ within
      | inr past ↦ absurd (nothing_in word
          (subst (λ w. IsIn w word) (get_or_past windows n [] past) there))
    ]

some_within : {X : Type 0} (xs : List X) (n : ℕ) → is_some (slice_get xs n) ≡ true → n < length xs
some_within [] zero is = absurd (cc)
some_within [] (suc n) is = absurd (cc)
some_within (x ∷ xs) zero is = omega arith
some_within (x ∷ xs) (suc n) is =
    let later : n < length xs = some_within xs n is in omega arith

placed : {X Y : Type 0} (f : X → Y) (o : Option X) (y : Y) (P : Type 0) → option_map f o ≡ Some y
    → ((x : X) → o ≡ Some x → f x ≡ y → P) → P
placed f None y P is then = absurd (none-some y is)
placed f (Some x) y P is then = then x refl (same_Some (f x) y is)

free_within : (window : List Word) (index : ℕ) → IsFreeAt window index → index < length window
free_within window index free =
    placed place_in (slice_get window index) 0 (index < length window) free
    (λ x is _. slice_get_within window index x is)

names_nothing : (window : List Word) (index hash at : ℕ) → IsFreeAt window index
    → slice_get window index ≡ Some (word_of hash at) → ⊥
names_nothing window index hash at free is =
    placed place_in (slice_get window index) 0 ⊥ free
    (λ x same nought.
    let e : x ≡ word_of hash at = same_Some x (word_of hash at) (sym same ∙ is) in
    let f : place_in (word_of hash at) ≡ 0 = ap place_in (sym e) ∙ nought in omega (arith, f))

stays_in : (window : List Word) (at : ℕ) (x word : Word)
    → (slice_get window at ≡ Some word → ⊥) → IsIn window word → IsIn (slice_set window at x) word
stays_in window at x word other there =
    record {
      index = there.index;
      is = slice_get-set_other window at there.index x
          (λ e. other (ap (λ i. slice_get window i) (sym e) ∙ there.is))
          ∙ there.is;
    }

written : (windows : List (List Word)) (at n : ℕ) (window new : List Word) (word : Word)
    → ((w : Word) → IsIn (slice_index_or windows at []) w → IsIn window w)
    → (IsIn window word → IsIn new word) → IsIn (slice_index_or windows n []) word
    → IsIn (slice_index_or (slice_set windows at new) n []) word
written windows at n window new word covers keeps there =
    elim (cases_eq n at) [
      | inl e ↦
          let here : IsIn (slice_index_or windows at []) word =
          subst (λ m. IsIn (slice_index_or windows m []) word) e there in
          subst (λ m. IsIn (slice_index_or (slice_set windows at new) m []) word) (sym e)
          (subst (λ w. IsIn w word)
          (sym (get_or-set_same windows at new [] (in_within windows at word here)))
          (keeps (covers word here)))
      | inr e ↦
          subst (λ w. IsIn w word) (sym (get_or-set_other windows at n new [] e)) there
    ]

-- a window in the place of another has what the other had
pub rewritten : (wide half at : ℕ) (windows after : List (List Word)) (window new : List Word)
    (hash : ℕ) (word : Word) → after ≡ slice_set windows at new
    → ((w : Word) → IsIn (slice_index_or windows at []) w → IsIn window w)
    → (IsIn window word → IsIn new word)
    → IsIn (slice_index_or windows (home wide half (length windows) hash) []) word
    → IsIn (slice_index_or after (home wide half (length after) hash) []) word
rewritten wide half at windows after window new hash word is covers keeps there =
    rw (is, length-set windows at new)
    (written windows at (home wide half (length windows) hash) window new word covers keeps
    there)

-- a free word is written over
pub kept_by_put : (wide half at index : ℕ) (windows after : List (List Word))
    (window : List Word) (x : Word) (hash q : ℕ)
    → after ≡ slice_set windows at (slice_set window index x)
    → ((w : Word) → IsIn (slice_index_or windows at []) w → IsIn window w)
    → IsFreeAt window index
    → IsIn (slice_index_or windows (home wide half (length windows) hash) []) (word_of hash q)
    → IsIn (slice_index_or after (home wide half (length after) hash) []) (word_of hash q)
kept_by_put wide half at index windows after window x hash q is covers free =
    rewritten wide half at windows after window (slice_set window index x) hash (word_of hash q)
    is covers
    (stays_in window index x (word_of hash q) (names_nothing window index hash q free))

pub there_by_put : (wide half at index : ℕ) (windows after : List (List Word))
    (window : List Word) (x : Word) (hash : ℕ)
    → after ≡ slice_set windows at (slice_set window index x)
    → at ≡ home wide half (length windows) hash → IsFreeAt window index
    → is_some (slice_get windows at) ≡ true
    → IsIn (slice_index_or after (home wide half (length after) hash) []) x
there_by_put wide half at index windows after window x hash is chosen free some =
    rw (is, length-set windows at (slice_set window index x), ← chosen)
    (subst (λ w. IsIn w x)
    (sym (get_or-set_same windows at (slice_set window index x) []
    (some_within windows at some)))
    (record {
      index = index;
      is = slice_get-set_same window index x (free_within window index free);
    }))

-- a word of another place is written over
pub kept_by_free : (wide half at index : ℕ) (windows after : List (List Word))
    (window : List Word) (x : Word) (freed hash q : ℕ)
    → after ≡ slice_set windows at (slice_set window index x)
    → ((w : Word) → IsIn (slice_index_or windows at []) w → IsIn window w)
    → Names window index (freed + 1) → q ≢ freed
    → IsIn (slice_index_or windows (home wide half (length windows) hash) []) (word_of hash q)
    → IsIn (slice_index_or after (home wide half (length after) hash) []) (word_of hash q)
kept_by_free wide half at index windows after window x freed hash q is covers names other =
    rewritten wide half at windows after window (slice_set window index x) hash (word_of hash q)
    is covers
    (stays_in window index x (word_of hash q)
    (λ e.
    let f : place_in (word_of hash q) ≡ freed + 1 =
    same_Some (place_in (word_of hash q)) (freed + 1) (ap (option_map place_in) (sym e) ∙ names) in
    let h : q ≡ freed = omega (arith, f) in other h))

-- a further window, and the one that its words come from
pub kept_by_grow : (wide half from : ℕ) (windows after : List (List Word))
    (window stay go : List Word) (hash : ℕ) (word : Word)
    → after ≡ slice_set (windows ++ go ∷ []) from stay → from ≡ length windows - half
    → hash_in word ≡ hash
    → ((w : Word) → IsIn (slice_index_or windows from []) w → IsIn window w)
    → ((w : Word) → IsIn window w → hash_in w % wide ≢ length windows → IsIn stay w)
    → ((w : Word) → IsIn window w → hash_in w % wide ≡ length windows → IsIn go w)
    → IsIn (slice_index_or windows (home wide half (length windows) hash) []) word
    → IsIn (slice_index_or after (home wide half (length after) hash) []) word
kept_by_grow wide half from windows after window stay go hash word is chosen own covers stays goes
    there =
    let count = length windows in
    let longer : length (slice_set (windows ++ go ∷ []) from stay) ≡ length windows + 1 =
    length-set (windows ++ go ∷ []) from stay ∙ length_push windows go in
    let n = home wide half (length windows) hash in
    let within : n < length windows = in_within windows n word there in
    let choice : hash_in word % wide ≡ hash % wide = ap (λ h. h % wide) own in
    rw (is, longer) (
    elim (cases_eq (hash % wide) (length windows)) [
      | inl e ↦
          let old : n ≡ from =
          home_above wide half (length windows) hash (omega arith)
          ∙ ap (λ m. m - half) e ∙ sym chosen in
          let new : home wide half (length windows + 1) hash ≡ length windows =
          home_below wide half (length windows + 1) hash (omega arith) ∙ e in
          let here : IsIn (slice_index_or windows from []) word =
          subst (λ m. IsIn (slice_index_or windows m []) word) old there in
          let apart : length windows ≢ from = λ f. omega arith in
          rw (
            new,
            get_or-set_other (windows ++ go ∷ []) from (length windows) stay [] apart,
            get_or_push windows go [] (length windows) refl,
          )
          (goes word (covers word here) (choice ∙ e))
      | inr e ↦
          let same : home wide half (length windows + 1) hash ≡ n =
          elim (cases_lt (hash % wide) (length windows)) [
            | inl below ↦
                home_below wide half (length windows + 1) hash (omega arith)
                ∙ sym (home_below wide half (length windows) hash below)
            | inr above ↦
                home_above wide half (length windows + 1) hash (omega arith)
                ∙ sym (home_above wide half (length windows) hash above)
          ] in
          rw same (
          elim (cases_eq n from) [
            | inl f ↦
                let here : IsIn (slice_index_or windows from []) word =
                subst (λ m. IsIn (slice_index_or windows m []) word) f there in
                let long : from < length (windows ++ go ∷ []) =
                omega (arith, length_push windows go) in
                rw (f, get_or-set_same (windows ++ go ∷ []) from stay [] long)
                (stays word (covers word here) (λ g. e (sym choice ∙ g)))
            | inr f ↦
                rw (
                  get_or-set_other (windows ++ go ∷ []) from n stay [] f,
                  get_or_append_left windows (go ∷ []) [] n within,
                ) there
          ])
    ])

-- the same where memory was refused, or nothing was parted yet: more hashes are chosen among
pub kept_by_widen : (wide half : ℕ) (windows : List (List Word)) (hash : ℕ) (word : Word)
    → length windows ≡ wide → 0 < wide
    → IsIn (slice_index_or windows (home wide half (length windows) hash) []) word
    → IsIn (slice_index_or windows (home (wide * 2) wide (length windows) hash) []) word
kept_by_widen wide half windows hash word full some there =
    rw (home_widened wide half (length windows) hash full some) there

-- one more word of a window is put on a side
pub parted_more : (window side : List Word) (P : Word → Type 0) (i : ℕ) (x : Word)
    → i < length side → ((w : Word) → slice_get window i ≡ Some w → P w → x ≡ w)
    → ((n : ℕ) (w : Word) → n < i → slice_get window n ≡ Some w → P w
    → slice_get side n ≡ Some w)
    → (n : ℕ) (w : Word) → n < i + 1 → slice_get window n ≡ Some w → P w
    → slice_get (slice_set side i x) n ≡ Some w
parted_more window side P i x within chosen before n w below here passes =
    elim (cases_eq n i) [
      | inl e ↦
          let is : slice_get window i ≡ Some w =
          ap (λ m. slice_get window m) (sym e) ∙ here in
          ap (λ m. slice_get (slice_set side i x) m) e
          ∙ slice_get-set_same side i x within
          ∙ ap Some (chosen w is passes)
      | inr e ↦
          slice_get-set_other side i n x e ∙ before n w (omega arith) here passes
    ]

-- a window that is not there has no word
pub none_there : (windows : List (List Word)) (n : ℕ) (word : Word)
    → slice_get windows n ≡ None → IsIn (slice_index_or windows n []) word → ⊥
none_there windows n word none there =
    let past : length windows ≤ n = past_from_none windows n none in
    let within : n < length windows = in_within windows n word there in omega arith

-- what has a word has it in the window of its hash
pub in_window : (windows : Windows) (window : List Word) (hash h at : ℕ)
    → window ≡ slice_index_or windows.windows.items
    (home windows.wide windows.half (length windows.windows.items) hash) []
    → hash ≡ short_of h → Has windows h at → IsIn window (word_of hash at)
in_window windows window hash h at is same has =
    subst (λ w. IsIn w (word_of hash at)) (sym is)
    (subst (λ x. IsIn (slice_index_or windows.windows.items
    (home windows.wide windows.half (length windows.windows.items) x) []) (word_of x at))
    (sym same) has.word)
