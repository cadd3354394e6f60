use Rattle.std.proofs.Common.{◌%◌, ◌/◌, ◌∙◌, sym, ap, arith, rules, length, slice_set}
use Rattle.std.proofs.lemmas.List.{length-set}
use Rattle.segments.proofs.Joined.{slice_get-read, slice_get-unseen, joined-written, set-unseen}
use Rattle.segments.proofs.Joined.{AreFull-written, not_within}
use Rattle.segments.specs.Segments.{joined}
use Rattle.segments.proofs.segments.replace_in.Goals as goal

pub returns-in-Some-clause-value : goal.returns-in-Some-clause-value
returns-in-Some-clause-value g c =
    c.replace.ensures.value
    ∙ sym (slice_get-read c.args.segments.now.items c.in-Some.segment.now (c.args.at / 1024)
    (c.args.at % 1024) c.args.at c.requires (omega arith) (omega arith)
    (omega (arith, c.in-Some.ensures.variant.0 (search rules))) c.in-Some.ensures.value)

pub returns-in-Some-clause-after : goal.returns-in-Some-clause-after
returns-in-Some-clause-after g c =
    ap (λ l. joined (slice_set c.args.segments.now.items (c.args.at / 1024) l))
    c.replace.ensures.after
    ∙ joined-written c.args.segments.now.items c.in-Some.segment.now (c.args.at / 1024)
    (c.args.at % 1024) c.args.at c.args.item c.requires (omega arith) (omega arith)
    (omega (arith, c.in-Some.ensures.variant.0 (search rules))) c.in-Some.ensures.value

pub returns-in-Some-clause-full : goal.returns-in-Some-clause-full
returns-in-Some-clause-full g c =
    AreFull-written c.args.segments.now.items c.in-Some.segment.now c.replace.new.self
    (c.args.at / 1024) c.requires
    (omega (arith, c.in-Some.ensures.variant.0 (search rules))) c.in-Some.ensures.value
    (ap (λ l. length l) c.replace.ensures.after
    ∙ length-set c.in-Some.segment.now (c.args.at % 1024) c.args.item)

pub returns-in-None-clause-value : goal.returns-in-None-clause-value
returns-in-None-clause-value g c =
    sym (slice_get-unseen c.args.segments.now.items (c.args.at / 1024) (c.args.at % 1024)
    c.args.at c.requires (omega arith) (omega arith)
    (not_within (c.args.at / 1024) (length c.args.segments.now.items)
    (λ w. c.in-None.ensures.variant.1 (omega arith))))

pub returns-in-None-clause-after : goal.returns-in-None-clause-after
returns-in-None-clause-after g c =
    set-unseen c.args.segments.now.items (c.args.at / 1024) (c.args.at % 1024) c.args.at
    c.args.item c.requires (omega arith) (omega arith)
    (not_within (c.args.at / 1024) (length c.args.segments.now.items)
    (λ w. c.in-None.ensures.variant.1 (omega arith)))
