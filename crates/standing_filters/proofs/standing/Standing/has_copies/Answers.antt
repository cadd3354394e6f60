use Rattle.std.proofs.Common.{◌≡◌, ◌∙◌, ◌<◌, [], Some, ap, length, sym, subst}
use Rattle.std.specs.Prelude.{slice_get, unwrap_or}
use Rattle.std.proofs.lemmas.Bool.{false≢true}
use Rattle.place_index.proofs.Ordered.{at_key, is_itself, same_if_at}
use Rattle.standing_filters.specs.Ready.{copied_of}
use Rattle.standing_filters.specs.Watched.{AllWatched}
use Rattle.standing_filters.proofs.Readying.{copied_key}
use Rattle.standing_filters.proofs.standing.Standing.has_copies.Goals as goal

-- what the look at the first copy says
pub returns-then-self-clause-yes : goal.returns-then-self-clause-yes
returns-then-self-clause-yes c = λ is.
    let copies = c.self.inside.copies.items in
    let key = c.args.key.now in
    let first = unwrap_or (slice_get copies 0) [] in
    let told : c.is_first.result ≡ at_key key first =
    subst (λ l. 0 < length l → c.is_first.result ≡ at_key key (unwrap_or (slice_get l 0) []))
    c.as_slice.ensures.value c.is_first.ensures (c.self.invariant.1.some c.if-self.true) in
    sym (ap (λ (s : AllWatched). s.copied) c.self.view_is)
    ∙ ap (λ b. copied_of b copies) c.if-self.true
    ∙ ap Some (sym (same_if_at key first (sym told ∙ is)))

pub returns-then-self-clause-no : goal.returns-then-self-clause-no
returns-then-self-clause-no c = λ other same.
    let copies = c.self.inside.copies.items in
    let key = c.args.key.now in
    let first = unwrap_or (slice_get copies 0) [] in
    let told : c.is_first.result ≡ at_key key first =
    subst (λ l. 0 < length l → c.is_first.result ≡ at_key key (unwrap_or (slice_get l 0) []))
    c.as_slice.ensures.value c.is_first.ensures (c.self.invariant.1.some c.if-self.true) in
    let own = copied_key c.self.inside.is_copied copies key
    (ap (λ (s : AllWatched). s.copied) c.self.view_is ∙ same) in
    false≢true (sym other ∙ told ∙ ap (at_key key) own.1 ∙ is_itself key)
