use Rattle.std.proofs.Common.{◌≡◌, [], ◌∷◌, ◌++◌, length, rules}
use Rattle.agg_types.proofs.Naming.{keeps-push}
use Rattle.agg_types.proofs.declared.Declared.push.Goals as goal

pub invariant_of-self-2 : goal.invariant_of-self-2
invariant_of-self-2 g c =
    let pushed : c.push.new.self.items ≡ c.self.inside.entries.items ++ c.args.entry ∷ [] =
    search rules in
    let placed : c.len-place.result ≡ length c.self.inside.entries.items = search rules in
    rw pushed (keeps-push g.T.Named.name_of c.self.inside.entries.items c.args.entry
    c.self.inside.firsts c.note.new.firsts c.name.result.now c.len-place.result c.self.invariant
    c.name.ensures placed c.in_ok-note.ensures.ok)
