use Rattle.std.proofs.Common.{rules}
use Rattle.undo.proofs.Table.{table}
use Rattle.undo.proofs.mark.Mark.new.Goals as goal

pub returns-clause-value : goal.returns-clause-value
returns-clause-value c = table _ _ c.args.blanked.now (λ i r f' call. search rules) c.from_fn.result 32 c.from_fn.ensures.items
