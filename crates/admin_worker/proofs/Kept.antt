-- What is kept of a line.
use Rattle.std.proofs.Common.{◌≡◌, ℕ, zero, suc, ◌+◌, ◌<◌, ◌≤◌, true, false, not, subst, eqb, ltb}
use Rattle.std.proofs.Common.{List, [], ◌∷◌, ◌++◌, length, take, drop, Option, Some, None, refl, ap}
use Rattle.std.proofs.Common.{sym, ◌∙◌, inl, inr, arith, append-nil, length-take-le, Ok, Err, codes}
use Rattle.std.specs.Fmt.{decimal}
use Rattle.std.specs.Prelude.{if◌then◌else◌, nat_lt, Bool, ◌&&◌, OnOk, Result}
use Rattle.std.specs.Result.{is_err}
use Rattle.std.specs.Option.{option_or, option_to_list}
use Rattle.std.proofs.Math.Seq.{take-append-add, drop-append-add}
use Rattle.std.proofs.lemmas.Bool.{cases_Bool, cases_lt}
use Rattle.std.proofs.lemmas.Bool.Decides.{nat_tests}
use Rattle.std.proofs.lemmas.List.{take-append-drop, take-append-le, drop-append-le, length-drop}
use Rattle.std.proofs.lemmas.List.{length-append}
use Rattle.std.proofs.lemmas.List.Folds.{find-append}
use Rattle.agg_types.specs.declared.config.Config.{Config}
use Rattle.agg_types.specs.declared.limits.TheConstants.{LONGEST_COMMAND_LINE as longest}
use Rattle.fleet_model.specs.State.{State}
use Rattle.show_clear.proofs.Returns.{are_returns, returns_before, returns_behind}
use Rattle.line_words.specs.Words.{words}
use Rattle.show_clear.specs.Parse.{command_in, reading_of, without_returns}
use Rattle.show_clear.specs.Explained.{long_text, refused_text}
use Rattle.show_clear.specs.Refusal.{fault_name, fault_number}
use Rattle.show_clear.specs.Refused.{unplaced}
use Rattle.show_clear.specs.declared.fault.CommandFault.TheVariants.{Unknown}
use Rattle.show_clear.specs.declared.refused.Refused.{Refused}
use Rattle.admin_worker.specs.Commanding.{kept_of, text_byte}
use Rattle.admin_worker.specs.Commands.{is_silent}
use Rattle.admin_worker.specs.Manners.{asks_prompt, closing, is_prompt, manner_behind}
use Rattle.admin_worker.specs.declared.manner.Manner.{Manner}
use Rattle.admin_worker.specs.Status.{asked_by, asked_in, by_words, is_blank, is_quit}
use Rattle.admin_worker.specs.Status.{is_wordless, quits, refusal_at}
use Rattle.worker_frame.specs.declared.door.Door.{Door}
use Rattle.worker_frame.specs.declared.door.Door.TheVariants.{Programs, People}
use Rattle.worker_frame.proofs.Pieces.{take_short}

-- ---- what a line says stands in what is kept of it

-- a manner behind a part
abbrev manner_with : Manner → Bool → ℕ → Manner
manner_with manner prompts end = record {
  door = manner.door;
  prompts = prompts;
  behind = eqb end 59;
}

-- what keeping it promises where it wasn't refused
pub from_ok : {T E P : Type 0} (result : Result T E) → is_err result ≡ false → OnOk result P → P
from_ok (Ok u) not ok = ok
from_ok (Err e) not ok = cc

only_returns : (xs : List ℕ) → text_byte xs ≡ None → are_returns xs ≡ true
only_returns [] none = refl
only_returns (x ∷ xs) none =
    elim (cases_Bool (eqb x 13)) [
      | inl is ↦ rw is (only_returns xs (let more : text_byte xs ≡ None = rw is at none in more))
      | inr other ↦ absurd (let bad : Some x ≡ None = rw other at none in cc)
    ]

-- a byte that is no CR is left
some_left : (xs : List ℕ) (byte : ℕ) → text_byte xs ≡ Some byte
    → (are_returns xs ≡ false) × (eqb byte 13 ≡ false)
some_left [] byte some = absurd cc
some_left (x ∷ xs) byte some =
    elim (cases_Bool (eqb x 13)) [
      | inl is ↦ rw is (some_left xs byte (let more : text_byte xs ≡ Some byte = rw is at some in
          more))
      | inr other ↦
          let same : x ≡ byte = (let s : Some x ≡ Some byte = rw other at some in cc) in
          (rw other refl, ap (λ b. eqb b 13) (sym same) ∙ other)
    ]

not_empty : (xs : List ℕ) → are_returns xs ≡ false → 1 ≤ length (without_returns xs)
not_empty [] some = absurd cc
not_empty (x ∷ xs) some = rw some (omega arith)

too_long : (front rest : List ℕ) → length front ≡ longest → are_returns rest ≡ false
    → ltb longest (length (without_returns (front ++ rest))) ≡ true
too_long front rest long some =
    let left = not_empty rest some in
    let whole : length (without_returns (front ++ rest)) ≡ length front
    + length (without_returns rest) = ap length (returns_before front rest some)
    ∙ length-append front (without_returns rest) in
    grind (arith, nat_tests)

some_there : (xs : List ℕ) → are_returns xs ≡ false → 1 ≤ length xs
some_there [] some = absurd cc
some_there (x ∷ xs) some = omega arith

-- what a line says is told by the line without the CRs at its end
same_text : {A : Type 0} (long : A) (says : List (List ℕ) → A) (a b : List ℕ)
    → without_returns a ≡ without_returns b → by_words long says a ≡ by_words long says b
same_text long says a b same =
    ap (λ (text : List ℕ). if nat_lt longest (length text) then long else says (words text)) same

-- what a line says stands in what is kept of it
kept_words : {A : Type 0} (long : A) (says : List (List ℕ) → A) (line : List ℕ)
    → by_words long says (kept_of line) ≡ by_words long says line
kept_words {A} long says line = by (text_byte (drop longest line)) refl
  where
    by : (found : Option ℕ) → text_byte (drop longest line) ≡ found
        → by_words long says (take longest line ++ option_to_list found) ≡ by_words long says line
    by None none =
        ap (λ l. by_words long says l) (append-nil (take longest line))
        ∙ same_text long says (take longest line) line
        (sym (returns_behind (take longest line) (drop longest line)
        (only_returns (drop longest line) none))
        ∙ ap without_returns (take-append-drop longest line))
    by (Some byte) some =
        let facts = some_left (drop longest line) byte some in
        let there = some_there (drop longest line) facts.0 in
        let behind = length-drop longest line in
        let full : length (take longest line) ≡ longest =
        length-take-le longest line (omega (arith, there, behind)) in
        let kept : ltb longest (length (without_returns (take longest line ++ byte ∷ []))) ≡ true =
        too_long (take longest line) (byte ∷ []) full (rw facts.1 refl) in
        let whole : ltb longest (length (without_returns line)) ≡ true =
        subst (λ (l : List ℕ). ltb longest (length (without_returns l)) ≡ true)
        (take-append-drop longest line)
        (too_long (take longest line) (drop longest line) full facts.0) in
        rw (kept, whole) refl

pub kept_says : (book : State) (line : List ℕ) → reading_of book (kept_of line)
    ≡ reading_of book line
kept_says book line = kept_words (Err (unplaced Unknown))
    (λ ws. command_in book (record { number = 1; words = ws })) line

pub kept_asks : (config : Config) (line : List ℕ) → asked_in config (kept_of line)
    ≡ asked_in config line
unfolding asked_in
kept_asks config line = kept_words None (asked_by config) line

-- what is told of a refused line stands in what is kept of it
pub kept_tells : (door : Door) (book : State) (line : List ℕ) (refused : Refused)
    → refusal_at door book (kept_of line) refused ≡ refusal_at door book line refused
kept_tells Programs book line refused = refl
kept_tells People book line refused =
    ap (λ (told : List ℕ). codes "refused " ++ decimal (fault_number refused.fault) ++ codes " "
    ++ fault_name refused.fault ++ codes ": " ++ told ++ codes "\n")
    (kept_words long_text (refused_text book refused) line)

pub kept_quits : (line : List ℕ) → quits (kept_of line) ≡ quits line
unfolding quits
kept_quits line = kept_words false is_quit line

pub kept_prompt : (line : List ℕ) → asks_prompt (kept_of line) ≡ asks_prompt line
unfolding asks_prompt
kept_prompt line = kept_words false is_prompt line

-- what stands behind the answer to a line, and how the next one is answered, is told by what is
-- kept of it
pub kept_closing : (manner : Manner) (line : List ℕ)
    → closing manner (kept_of line) ≡ closing manner line
kept_closing manner line =
    ap (λ (asks : Bool). if (if asks then not manner.prompts else manner.prompts)
    then codes "\n> " else codes "\n") (kept_prompt line)

pub kept_manner : (manner : Manner) (line : List ℕ) (end : ℕ)
    → manner_behind manner (kept_of line) end ≡ manner_behind manner line end
kept_manner manner line end =
    ap (λ (asks : Bool). manner_with manner (if asks then not manner.prompts else manner.prompts)
    end) (kept_prompt line)

pub kept_blank : (line : List ℕ) → is_blank (kept_of line) ≡ is_blank line
unfolding is_blank
kept_blank line = kept_words false is_wordless line

pub kept_silent : (behind : Bool) (line : List ℕ) → is_silent behind (kept_of line)
    ≡ is_silent behind line
kept_silent behind line = ap (λ (b : Bool). behind && b) (kept_blank line)

-- ---- what is kept of a line that goes on

pub drop_short : {A : Type 0} (n : ℕ) (xs : List A) → length xs ≤ n → drop n xs ≡ []
drop_short zero [] le = refl
drop_short (suc n) [] le = refl
drop_short zero (x ∷ xs) le = absurd (omega arith)
drop_short (suc n) (x ∷ xs) le = drop_short n xs (omega arith)

-- a short line is kept whole
kept_short : (line : List ℕ) → length line ≤ longest → kept_of line ≡ line
kept_short line short =
    ap (λ behind. take longest line ++ option_to_list (text_byte behind))
    (drop_short longest line short)
    ∙ (append-nil (take longest line) ∙ take_short longest line short)

-- bytes behind a short line
short_on : (line more : List ℕ) (room : ℕ) → length line + room ≡ longest
    → (line ++ take room more) ++ option_to_list (text_byte (drop room more))
    ≡ kept_of (line ++ more)
short_on line more room is =
    sym (ap (λ n. take n (line ++ more) ++ option_to_list (text_byte (drop n (line ++ more))))
    (sym is) ∙ (ap (λ ks. ks ++ option_to_list (text_byte (drop (length line + room)
    (line ++ more)))) (take-append-add line more room)
    ∙ ap (λ ks. (line ++ take room more) ++ option_to_list (text_byte ks))
    (drop-append-add line more room)))

-- bytes behind a long one
long_on : (line more : List ℕ) (found : Option ℕ) → longest ≤ length line
    → text_byte (drop longest line) ≡ found → kept_of (line ++ more)
    ≡ take longest line ++ option_to_list (option_or found (text_byte more))
long_on line more found long is =
    ap (λ ks. ks ++ option_to_list (text_byte (drop longest (line ++ more))))
    (take-append-le longest line more long)
    ∙ ap (λ (o : Option ℕ). take longest line ++ option_to_list o)
    (ap text_byte (drop-append-le longest line more long)
    ∙ (find-append (λ byte. not (eqb byte 13)) (drop longest line) more
    ∙ ap (λ o. option_or o (text_byte more)) is))

-- a line that is known to be too long
pub kept_full : (line more kept : List ℕ) → kept ≡ kept_of line → longest < length kept
    → kept ≡ kept_of (line ++ more)
kept_full line more kept is full =
    elim (cases_lt longest (length line)) [
      | inl long ↦ by (text_byte (drop longest line)) refl (omega arith)
      | inr short ↦
          let same = ap length (is ∙ kept_short line (omega arith)) in absurd (omega arith)
    ]
  where
    by : (found : Option ℕ) → text_byte (drop longest line) ≡ found → longest ≤ length line
        → kept ≡ kept_of (line ++ more)
    by None none long =
        let alone : kept ≡ take longest line = is
        ∙ (ap (λ o. take longest line ++ option_to_list o) none
        ∙ append-nil (take longest line)) in
        let many = ap length alone ∙ length-take-le longest line long in absurd (omega arith)
    by (Some byte) some long =
        is ∙ (ap (λ o. take longest line ++ option_to_list o) some
        ∙ sym (long_on line more (Some byte) long some))

-- one that isn't
pub kept_on : (line more kept : List ℕ) (room : ℕ) → kept ≡ kept_of line
    → length kept + room ≡ longest
    → (kept ++ take room more) ++ option_to_list (text_byte (drop room more))
    ≡ kept_of (line ++ more)
kept_on line more kept room is free =
    elim (cases_lt longest (length line)) [
      | inl long ↦ by (text_byte (drop longest line)) refl (omega arith)
      | inr short ↦
          let same = is ∙ kept_short line (omega arith) in
          let room_is : length line + room ≡ longest = ap (λ l. length l + room) (sym same)
          ∙ free in
          ap (λ ks. (ks ++ take room more) ++ option_to_list (text_byte (drop room more))) same
          ∙ short_on line more room room_is
    ]
  where
    by : (found : Option ℕ) → text_byte (drop longest line) ≡ found → longest ≤ length line
        → (kept ++ take room more) ++ option_to_list (text_byte (drop room more))
        ≡ kept_of (line ++ more)
    by None none long =
        let alone : kept ≡ take longest line = is
        ∙ (ap (λ o. take longest line ++ option_to_list o) none
        ∙ append-nil (take longest line)) in
        let many = ap length alone ∙ length-take-le longest line long in
        let full : room ≡ 0 = omega (arith, many, free) in
        ap (λ n. (kept ++ take n more) ++ option_to_list (text_byte (drop n more))) full
        ∙ (ap (λ ks. ks ++ option_to_list (text_byte more)) (append-nil kept ∙ alone)
        ∙ sym (long_on line more None long none))
    by (Some byte) some long =
        let more_kept : kept ≡ take longest line ++ byte ∷ [] =
        is ∙ ap (λ o. take longest line ++ option_to_list o) some in
        let many = ap length more_kept ∙ (length-append (take longest line) (byte ∷ [])
        ∙ ap (λ n. n + 1) (length-take-le longest line long)) in
        absurd (omega arith)

-- no byte behind what is kept shows that the line is too long
pub kept_whole : (line more kept front behind after : List ℕ) (room : ℕ) → kept ≡ kept_of line
    → length kept + room ≡ longest → front ≡ take room more → behind ≡ drop room more
    → None ≡ text_byte behind → after ≡ kept ++ front → after ≡ kept_of (line ++ more)
kept_whole line more kept front behind after room is free in_front at_end none grown =
    grown ∙ (ap (λ ks. kept ++ ks) in_front ∙ (sym (append-nil (kept ++ take room more))
    ∙ (ap (λ o. (kept ++ take room more) ++ option_to_list o) (none ∙ ap text_byte at_end)
    ∙ kept_on line more kept room is free)))

-- one does
pub kept_marked : (line more kept front behind middle after : List ℕ) (room byte : ℕ)
    → kept ≡ kept_of line → length kept + room ≡ longest → front ≡ take room more
    → behind ≡ drop room more → Some byte ≡ text_byte behind → middle ≡ kept ++ front
    → after ≡ middle ++ byte ∷ [] → after ≡ kept_of (line ++ more)
kept_marked line more kept front behind middle after room byte is free in_front at_end some grown
    pushed =
    pushed ∙ (ap (λ ks. ks ++ byte ∷ []) (grown ∙ ap (λ ks. kept ++ ks) in_front)
    ∙ (ap (λ o. (kept ++ take room more) ++ option_to_list o) (some ∙ ap text_byte at_end)
    ∙ kept_on line more kept room is free))

pub ruleset parting_at = (take_short, drop_short)
