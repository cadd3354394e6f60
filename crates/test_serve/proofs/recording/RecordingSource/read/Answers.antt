use Rattle.std.proofs.Common.{rules, arith, ◌≡◌, ◌+◌, ◌-◌, ◌++◌, length, take, drop}
use Rattle.std.proofs.Common.{sym, ap, subst, ◌∙◌}
use Rattle.std.proofs.Math.Seq.{take-add, take-append_seam}
use Rattle.test_serve.proofs.recording.RecordingSource.read.Goals as goal

pub returns-clause-gives : goal.returns-clause-gives
returns-clause-gives c =
    let given = c.args.self.now.given in
    let bytes = c.args.self.now.bytes.now in
    let count = c.min-count.result in
    let new = c.copy_from_slice.new.self in
    let rest = drop count c.args.buffer.now in
    let len : length new ≡ count = search rules in
    let step : given + count - given ≡ count = omega arith in
    let is : new ≡ take count (drop given bytes) =
    subst (λ n. new ≡ take n (drop given bytes)) step c.copy_from_slice.ensures.after in
    let front : take count (new ++ rest) ≡ new =
    subst (λ n. take n (new ++ rest) ≡ new) len (take-append_seam new rest) in
    take-add given count bytes ∙ ap (λ l. take given bytes ++ l) (sym (front ∙ is))
