use Rattle.laws.proofs.Beneath.{positions_apart}
use Rattle.laws.proofs.positions_apart.Goals as goal

pub returns : goal.returns
returns c = positions_apart
