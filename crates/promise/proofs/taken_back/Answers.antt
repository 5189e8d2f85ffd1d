use Rattle.promise.proofs.taken_back.Goals as goal
use Rattle.promise.proofs.Undone.{taken_back}

pub returns : goal.returns
returns c image g b = taken_back image b g
