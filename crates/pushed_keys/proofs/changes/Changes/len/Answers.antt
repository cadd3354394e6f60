use Rattle.std.proofs.Common.{◌≡◌, ap, arith, length, rules}
use Rattle.pushed_keys.proofs.Changed.{many_left}
use Rattle.pushed_keys.proofs.changes.Changes.len.Goals as goal

pub returns : goal.returns
returns c =
    let words : c.len.result ≡ length c.self.inside.words.items = search rules in
    let many = many_left c.self.inside.bytes.items c.self.inside.words.items c.self.inside.behind
    c.self.inside.begin c.len.result c.self.invariant words in
    omega (arith, many, ap length c.self.view_is)
