use Rattle.laws.proofs.Laws.{needed_count}
use Rattle.laws.proofs.needed_few.Goals as goal

pub returns : goal.returns
returns c = needed_count
