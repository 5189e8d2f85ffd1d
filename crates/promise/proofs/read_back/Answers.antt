use Rattle.promise.proofs.read_back.Goals as goal
use Rattle.promise.proofs.Composed.{read_back}

pub returns : goal.returns
returns c = read_back
