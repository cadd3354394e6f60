use Rattle.std.proofs.Common.{◌≡◌, IfSome, ap, sym, subst, ◌∙◌}
use Rattle.left_right.specs.Sides.{view}
use Rattle.hub.specs.Copied.{Copy}
use Rattle.hub.specs.History.{Beginning}
use Rattle.hub.specs.Kept.{IsTold}
use Rattle.hub.specs.Posts.{Follows}
use Rattle.hub.specs.Views.{Seeing}
use Rattle.hub.proofs.Publishes.{follows_on, log_of, looks, told_again}
use Rattle.hub.proofs.lens.Lens.enter.Goals as goal

pub enter_as-requires : goal.enter_as-requires
enter_as-requires c = looks _ _

pub begins-requires : goal.begins-requires
begins-requires c =
    let told : IsTold c.self.inside.seen.of (view c.in-Some.reader.place) =
    subst (λ o. IfSome o (λ r. IsTold c.self.inside.seen.of (view r.place)))
    (sym c.in-Some.ensures.value) c.self.invariant.0 in
    let at : c.found-found.result ≡ c.in-Ok.reading.part.value.copied.at = c.found-found.ensures in
    ap (λ (b : Beginning). b.of) at
    ∙ log_of c.self.inside.seen.of c.in-Ok.reading.part.value.copied
    (view c.in-Some.reader.place) told c.in-Ok.ensures.1.1

pub invariant_of-self-then-not-begins : goal.invariant_of-self-then-not-begins
invariant_of-self-then-not-begins c =
    let told : IsTold c.self.inside.seen.of (view c.in-Some.reader.place) =
    subst (λ o. IfSome o (λ r. IsTold c.self.inside.seen.of (view r.place)))
    (sym c.in-Some.ensures.value) c.self.invariant.0 in (
      told_again c.self.inside.seen.of c.in-Ok.reading.part.value.copied
          (view c.in-Some.reader.place)
          (view c.leave-then-not-begins.result.place) told c.in-Ok.ensures.1.1
          (c.leave-then-not-begins.ensures.1 ∙ c.in-Ok.ensures.1.2),
      c.self.invariant.1,
    )

pub invariant_of-self-then-has_part : goal.invariant_of-self-then-has_part
invariant_of-self-then-has_part c =
    let told : IsTold c.self.inside.seen.of (view c.in-Some.reader.place) =
    subst (λ o. IfSome o (λ r. IsTold c.self.inside.seen.of (view r.place)))
    (sym c.in-Some.ensures.value) c.self.invariant.0 in (
      told_again c.self.inside.seen.of c.in-Ok.reading.part.value.copied
          (view c.in-Some.reader.place)
          (view c.leave-then-has_part.result.place) told c.in-Ok.ensures.1.1
          (c.leave-then-has_part.ensures.1 ∙ c.in-Ok.ensures.1.2),
      c.self.invariant.1,
    )

pub returns-else-has_part-clause-seen : goal.returns-else-has_part-clause-seen
returns-else-has_part-clause-seen c =
    let told : IsTold c.self.inside.seen.of (view c.in-Some.reader.place) =
    subst (λ o. IfSome o (λ r. IsTold c.self.inside.seen.of (view r.place)))
    (sym c.in-Some.ensures.value) c.self.invariant.0 in
    let at : c.found-found.result ≡ c.in-Ok.reading.part.value.copied.at = c.found-found.ensures in
    let of : c.found-found.result.of ≡ c.self.inside.seen.of =
    ap (λ (b : Beginning). b.of) at
    ∙ log_of c.self.inside.seen.of c.in-Ok.reading.part.value.copied
    (view c.in-Some.reader.place) told c.in-Ok.ensures.1.1 in
    let seen : c.self.inside.seen ≡ c.args.self.now.seen =
    ap (λ (s : Seeing). s.seen) (c.self.view_is ∙ c.leave.ensures) in
    subst (λ (b : Beginning). Follows b c.found-found.result) seen
    (follows_on c.self.inside.seen c.found-found.result of c.begins.ensures.fleet.0
    c.begins.ensures.fleet.1
    (rw c.if-not-begins.false at c.begins.ensures.order))
