use Rattle.promise.proofs.always_agreed.Goals as goal
use Rattle.promise.proofs.Runs.{always}

pub returns : goal.returns
returns c = always
