use Rattle.promise.proofs.Hypotheses.{blocks_must_be_bytes}
use Rattle.promise.proofs.blocks_must_be_bytes.Goals as goal

pub returns : goal.returns
returns c = blocks_must_be_bytes
