use Rattle.std.proofs.Common.{◌≡◌, ◌++◌, ◌∷◌, [], ap, rules, ◌∙◌, List, ℕ}
use Rattle.pushed_keys.specs.declared.change.Change.{Change}
use Rattle.pushed_keys.proofs.Changed.{left_more}
use Rattle.pushed_keys.proofs.changes.Changes.push.Goals as goal

pub returns : goal.returns
returns c =
    let bytes : c.extend_from_slice.new.self.items ≡ c.self.inside.bytes.items ++ c.args.key.now =
    search rules in
    let words : c.push.new.self.items ≡ c.self.inside.words.items ++ c.in-Some.word ∷ [] =
    search rules in
    rw (bytes, words) (left_more c.self.inside.bytes.items c.self.inside.words.items
    c.args.key.now c.self.inside.behind c.self.inside.begin c.in-Some.word c.args.change
    c.self.invariant c.in-Some.ensures
    ∙ ap (λ (cs : List (List ℕ × Change)). cs ++ (c.args.key.now, c.args.change) ∷ [])
    c.self.view_is)
