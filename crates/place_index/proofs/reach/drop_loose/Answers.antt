use Rattle.std.proofs.Common.{nat_eq, not, rules}
use Rattle.std.proofs.lemmas.Fn.{filter_same}
use Rattle.place_index.proofs.Apart.{loose_kept, unlike}
use Rattle.place_index.proofs.reach.drop_loose.Goals as goal

pub returns-clause-others : goal.returns-clause-others
returns-clause-others c =
    λ q other there.
    loose_kept (λ own. not (nat_eq own c.args.at)) c.args.loose.now.items
    c.retain.new.self.items q
    (filter_same _ (λ own. not (nat_eq own c.args.at)) _ (λ x b f' k. search rules) _ _
    c.retain.ensures.filtered)
    (unlike q c.args.at other) there
