use Rattle.promise.proofs.write_back.Goals as goal
use Rattle.promise.proofs.Octets.{write_back}

pub returns : goal.returns
returns c = write_back
