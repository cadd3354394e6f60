use Rattle.std.proofs.Common.{◌≡◌, Some, ap, rules, subst, sym, ◌∙◌}
use Rattle.std.proofs.lemmas.Bool.{false≢true}
use Rattle.std.proofs.lemmas.Option.{none-some, same_Some}
use Rattle.standing_filters.specs.Plans.{Becomes}
use Rattle.standing_filters.specs.Plans.{Watching, kept_at, kept_by}
use Rattle.standing_filters.proofs.Touched.{becomes_itself}
use Rattle.standing_filters.proofs.watch.Watch.change.Goals as goal

pub returns-else-ne-clause-kept : goal.returns-else-ne-clause-kept
returns-else-ne-clause-kept c =
    let key = c.args.key.now in
    let same : c.in-Some.old ≡ c.args.verdict = search rules in
    becomes_itself key c.args.verdict (kept_by c.args.self.now)
    (sym (c.in-Some.ensures.kept
    ∙ ap (λ (w : Watching). kept_at (kept_by w) key) c.self.view_is) ∙ ap Some same)

-- the copy is one of the key
pub returns-in-Some-copy_of-clause-kept : goal.returns-in-Some-copy_of-clause-kept
returns-in-Some-copy_of-clause-kept c =
    let key = c.args.key.now in
    let room = c.requires.room (λ is. false≢true (sym c.if-is_out.false ∙ c.is_out.ensures.1 is)) in
    let same = same_Some c.in-Some-copy_of.copy key (c.in-Some-copy_of.ensures.copy room.1) in
    subst (λ k. Becomes k c.args.verdict (kept_by c.args.self.now) (kept_by c.enter.new.self)) same
    c.enter.ensures.becomes

-- and there is one
pub returns-in_default-copy_of-clause-kept : goal.returns-in_default-copy_of-clause-kept
returns-in_default-copy_of-clause-kept c =
    let room = c.requires.room (λ is. false≢true (sym c.if-is_out.false ∙ c.is_out.ensures.1 is)) in
    absurd (none-some c.args.key.now (c.in_default-copy_of.ensures.copy room.1))
