use Rattle.laws.proofs.Laws.{rows_least}
use Rattle.laws.proofs.rows_least.Goals as goal

pub returns : goal.returns
returns c = rows_least
