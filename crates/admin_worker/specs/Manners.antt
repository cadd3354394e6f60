-- How the commands of an admin connection are answered.
use Rattle.std.specs.Prelude.{ℕ, ◌==◌, Bool, true, false, not, if◌then◌else◌, List, [], ◌∷◌}
use Rattle.std.specs.Prelude.{codes}
use Rattle.std.specs.Str.{bytes_eq}
use Rattle.worker_frame.specs.declared.door.Door.{Door}
use Rattle.worker_frame.specs.declared.door.Door.TheVariants.{People}
use Rattle.admin_worker.specs.Status.{by_words}
use Rattle.admin_worker.specs.declared.manner.Manner.{Manner}

-- whether these words are `prompt` alone
abbrev pub is_prompt : List (List ℕ) → Bool
is_prompt [] = false
is_prompt (word ∷ []) = bytes_eq word (codes "prompt")
is_prompt (word ∷ more ∷ ws) = false

-- whether a line asks for a prompt, or for none any more
unfoldable pub asks_prompt : List ℕ → Bool
asks_prompt line = by_words false is_prompt line

-- how the first command is answered
abbrev pub first_manner : Door → Manner
first_manner door = record { door = door; prompts = false; behind = false }

-- for whom an answer is: for people where a prompt is wanted
abbrev pub readers : Manner → Door
readers manner = if manner.prompts then People else manner.door

-- whether a prompt is wanted behind a line: each `prompt` turns that
abbrev pub wants_prompt : Manner → List ℕ → Bool
wants_prompt manner line = if asks_prompt line then not manner.prompts else manner.prompts

-- what stands behind an answer: an empty line, and a prompt where one is wanted
abbrev pub closing : Manner → List ℕ → List ℕ
closing manner line = if wants_prompt manner line then codes "\n> " else codes "\n"

-- how the command behind this one is answered, which this byte ends
abbrev pub manner_behind : Manner → List ℕ → ℕ → Manner
manner_behind manner line end = record {
  door = manner.door;
  prompts = wants_prompt manner line;
  behind = end == 59;
}
