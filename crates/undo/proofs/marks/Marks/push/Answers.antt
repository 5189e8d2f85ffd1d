use Rattle.std.proofs.Common.{arith}
use Rattle.undo.proofs.Table.{one_pushed}
use Rattle.undo.proofs.marks.Marks.push.Goals as goal

pub returns : goal.returns
returns c = one_pushed c.args.self.now _ c.args.mark (omega arith) c.push.ensures
