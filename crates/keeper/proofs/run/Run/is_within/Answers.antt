use Rattle.std.proofs.Common.{◌∙◌, arith}
use Rattle.std.proofs.lemmas.Bool.{le-ltb}
use Rattle.keeper.proofs.Runs.{run_test, far_test}
use Rattle.keeper.proofs.run.Run.is_within.Goals as goal

pub returns-then-self-lt32 : goal.returns-then-self-lt32
returns-then-self-lt32 c = run_test c.args.count c.args.self.row c.args.self.place

pub returns-else-self-lt32 : goal.returns-else-self-lt32
returns-else-self-lt32 c = le-ltb c.args.self.row 32 (omega arith) ∙ far_test c.args.count c.args.self.row c.args.self.place (omega arith) (omega arith)
