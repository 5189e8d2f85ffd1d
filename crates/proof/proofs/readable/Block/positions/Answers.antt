use Rattle.proof.proofs.Parts.{targets_read}
use Rattle.proof.proofs.readable.Block.positions.Goals as goal

pub returns : goal.returns
returns c = let b = c.args.self.now in targets_read b.bytes.now b.counts b.counted c.new-positions.ensures c.read_all.ensures
