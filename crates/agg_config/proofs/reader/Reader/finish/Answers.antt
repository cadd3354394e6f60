use Rattle.std.proofs.Common.{subst}
use Rattle.agg_config.specs.Lines.{ReadSoFar}
use Rattle.agg_config.proofs.Finished.{ended_wrong}
use Rattle.agg_types.specs.Check.{config_faults}
use Rattle.line_words.proofs.Checked.{both_none}
use Rattle.agg_config.proofs.reader.Reader.finish.Goals as goal

pub returns-in-Some-clause-finished : goal.returns-in-Some-clause-finished
returns-in-Some-clause-finished c = λ lines has.
    ended_wrong lines c.in-Some.fault
    (subst (λ fault. ReadSoFar c.args.self.config c.args.self.named c.args.self.count lines fault)
    c.in-Some.is has)

pub returns-in-None-clause-sound : goal.returns-in-None-clause-sound
returns-in-None-clause-sound c =
    let a = both_none _ _ (c.args.self.sound c.in-None.is) in
    let b = both_none _ _ a.0 in
    let d = both_none _ _ b.0 in
    (both_none (config_faults c.args.self.config) _ d.0).0
