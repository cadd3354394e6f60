use Rattle.std.proofs.Common.{◌≡◌, ◌≤◌, ◌++◌, length, map}
use Rattle.std.specs.Option.{option_copied}
use Rattle.web_text.specs.Parts.{behind}
use Rattle.web_lists.proofs.parts.keys_from.Given as goal

-- what is told and what may be told of those that are left are all that may be told
abbrev pub invariant-loop-key : goal.invariant-loop-key
invariant-loop-key l = record {
  told : map (λ key. key.now) l.told.items ++ behind (option_copied l.after) l.key-iterator
      ≡ behind (option_copied l.after) l.fn.keys;
  few : length l.told.items ≤ l.limit;
}
