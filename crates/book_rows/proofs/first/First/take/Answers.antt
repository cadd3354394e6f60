use Rattle.std.proofs.Common.{◌≡◌, ◌∙◌, ◌∷◌, ◌++◌, [], length, ap, arith, subst, sym}
use Rattle.std.specs.Option.{option_copied}
use Rattle.peer_rows.specs.Places.{Keys}
use Rattle.book_rows.specs.First.{HoldsOn, IsCut, IsLastOf}
use Rattle.book_rows.proofs.Firsts.{holds_cut, holds_taken}
use Rattle.book_rows.proofs.first.First.take.Goals as goal

pub returns-then-len-self-clause-holds : goal.returns-then-len-self-clause-holds
returns-then-len-self-clause-holds c =
    let most = c.args.self.now.most in
    let held : Keys = c.args.self.now.keys.items in
    let last = option_copied c.args.self.now.last in
    let pushed : c.push.new.self.items ≡ held ++ (c.args.key.now, c.args.rows) ∷ [] =
    c.in_ok-push.ensures.items ∙ ap (λ e. held ++ e ∷ []) c.new.ensures in
    subst (λ (l : Keys). HoldsOn most held last (c.args.key.now, c.args.rows) l last) (sym pushed)
    (holds_taken most held last (c.args.key.now, c.args.rows))

pub returns-clause-holds : goal.returns-clause-holds
returns-clause-holds c =
    let most = c.args.self.now.most in
    let held : Keys = c.args.self.now.keys.items in
    let pushed : c.push.new.self.items ≡ held ++ (c.args.key.now, c.args.rows) ∷ [] =
    c.in_ok-push.ensures.items ∙ ap (λ e. held ++ e ∷ []) c.new.ensures in
    holds_cut most held (option_copied c.args.self.now.last) (c.args.key.now, c.args.rows)
    c.cut.new.keys.items (option_copied c.last_of-self.result)
    (omega (arith, c.if-len-self.false, c.len.ensures, ap (λ (l : Keys). length l) pushed))
    (subst (λ (l : Keys). IsCut most l c.cut.new.keys.items) pushed c.cut.ensures)
    (subst (λ (l : Keys). IsLastOf (option_copied c.last_of-self.result) l)
    c.as_slice.ensures.value c.last_of-self.ensures)
