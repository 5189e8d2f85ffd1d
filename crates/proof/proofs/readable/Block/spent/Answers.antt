use Rattle.proof.proofs.Parts.{spent_read}
use Rattle.proof.proofs.readable.Block.spent.Goals as goal

pub returns : goal.returns
returns c = let b = c.args.self.now in spent_read b.bytes.now b.counts b.counted c.new-coins.ensures c.targets_end-start.result c.targets_end-start.ensures c.read_all.ensures
