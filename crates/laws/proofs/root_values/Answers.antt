use Rattle.laws.proofs.Laws.{root_values}
use Rattle.laws.proofs.root_values.Goals as goal

pub returns : goal.returns
returns c = root_values
