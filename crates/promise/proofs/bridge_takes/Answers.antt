use Rattle.promise.proofs.bridge_takes.Goals as goal
use Rattle.promise.proofs.Served.{bridge_takes}

pub returns : goal.returns
returns c = bridge_takes
