use Rattle.std.proofs.Common.{◌∙◌, [], arith, refl, subst, sym}
use Rattle.std.specs.Prelude.{filter}
use Rattle.std.specs.Option.{option_copied}
use Rattle.std.proofs.lemmas.Map.Made.{IsDistinct-keys_filter}
use Rattle.std.specs.Cmp.Lexicographic.{slice_cmp}
use Rattle.std.specs.Ordering.{eq_by_cmp, nat_cmp}
use Rattle.peer_rows.specs.Places.{Keys}
use Rattle.book_rows.specs.First.{AreFirst, AreHeld, AreOnce, is_sought}
use Rattle.book_rows.proofs.Firsts.{first_held, none_first}
use Rattle.book_rows.proofs.first.first_of.Goals as goal

pub returns-then-sought-eq0 : goal.returns-then-sought-eq0
returns-then-sought-eq0 c =
    subst (λ (l : Keys). AreFirst c.args.sought.most
    (filter (is_sought c.args.cols.now c.args.t c.args.sought) c.args.walk) l)
    (sym c.new.ensures.items)
    (none_first c.args.sought.most
    (filter (is_sought c.args.cols.now c.args.t c.args.sought) c.args.walk)
    (omega (arith, c.if-sought-eq0.true)))

pub loop-key-preserved : goal.loop-key-preserved
loop-key-preserved c =
    let sought = is_sought c.args.cols.now c.args.t c.args.sought in
    let all : Keys = filter sought c.args.walk in
    let once : AreOnce all = IsDistinct-keys_filter (eq_by_cmp (slice_cmp nat_cmp)) sought
    c.args.walk c.requires.once in
    record {
      held = subst (λ most. AreHeld most all c.offer.new.self.keys.items
          (option_copied c.offer.new.self.last) (filter sought c.next.new.self))
          c.loop-key.invariant.most
          (c.in_ok-offer.ensures.holds all c.next.new.self once
          (subst (λ (l : Keys). AreHeld c.loop-key.first.most all c.loop-key.first.keys.items
          (option_copied c.loop-key.first.last) (filter sought l)) c.in-Some.ensures.steps
          (subst (λ most. AreHeld most all c.loop-key.first.keys.items
          (option_copied c.loop-key.first.last) (filter sought c.loop-key.key-iterator))
          (sym c.loop-key.invariant.most) c.loop-key.invariant.held)));
      most = c.in_ok-offer.ensures.most ∙ c.loop-key.invariant.most;
    }

pub returns : goal.returns
returns c =
    let sought = is_sought c.args.cols.now c.args.t c.args.sought in
    let all : Keys = filter sought c.args.walk in
    let once : AreOnce all = IsDistinct-keys_filter (eq_by_cmp (slice_cmp nat_cmp)) sought
    c.args.walk c.requires.once in
    first_held c.args.sought.most all c.loop-key.first.keys.items
    (option_copied c.loop-key.first.last) [] once
    (subst (λ (l : Keys). AreHeld c.args.sought.most all c.loop-key.first.keys.items
    (option_copied c.loop-key.first.last) (filter sought l)) c.in-None.ensures.steps.0
    c.loop-key.invariant.held) c.cut.new.keys.items c.cut.ensures refl
