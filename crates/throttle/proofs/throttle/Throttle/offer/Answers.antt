use Rattle.std.proofs.Common.{◌∙◌, ap}
use Rattle.throttle.specs.Minutes.{is_on, one_more}
use Rattle.throttle.specs.declared.minute.Minute.{Minute}
use Rattle.throttle.proofs.Finding.{more_on}
use Rattle.throttle.proofs.throttle.Throttle.offer.Goals as goal

-- the minute of a line isn't over
pub set-requires : goal.set-requires
set-requires c =
    let now = c.args.now in
    ap (λ (minute : Minute). is_on minute now) c.with_one.ensures
    ∙ ap (λ (minute : Minute). is_on (one_more minute) now) c.minute_of-own.ensures
    ∙ more_on c.args.source.now now c.args.self.now.sources.flows.items
