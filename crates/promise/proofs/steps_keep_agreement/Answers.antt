use Rattle.promise.proofs.steps_keep_agreement.Goals as goal
use Rattle.promise.proofs.Agreement.{step_keeps}

pub returns : goal.returns
returns c = step_keeps
