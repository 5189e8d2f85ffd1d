use Rattle.block.proofs.Running.{run_reads}
use Rattle.block.proofs.read.run_reads.Goals as goal

pub returns : goal.returns
returns c = run_reads
