use Rattle.std.proofs.Common.{arith}
use Rattle.shelf.proofs.Struck.{close_form, close_past}
use Rattle.shelf.proofs.close.close.Goals as goal

pub returns-then-bit-ge32 : goal.returns-then-bit-ge32
returns-then-bit-ge32 c = close_past c.args.bit c.args.place (omega arith) (omega arith)

pub returns : goal.returns
returns c = close_form c.args.bit c.args.place c.if-bit-ge32.false
