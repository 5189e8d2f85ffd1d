use Rattle.promise.proofs.bridge_writes.Goals as goal
use Rattle.promise.proofs.Served.{bridge_writes}

pub returns : goal.returns
returns c = bridge_writes
