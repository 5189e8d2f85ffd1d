use Rattle.promise.proofs.Taking.{blocks_step}
use Rattle.promise.proofs.blocks_step.Goals as goal

pub returns : goal.returns
returns c = blocks_step
