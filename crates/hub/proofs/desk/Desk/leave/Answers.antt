use Rattle.hub.proofs.Replacing.{none_leaves}
use Rattle.hub.proofs.desk.Desk.leave.Goals as goal

pub go-requires-clause-none_replaced : goal.go-requires-clause-none_replaced
go-requires-clause-none_replaced g c = none_leaves c.args.pass c.args.self.now.all.events
