use Rattle.laws.proofs.Laws.{one_position}
use Rattle.laws.proofs.one_position.Goals as goal

pub returns : goal.returns
returns c = one_position
