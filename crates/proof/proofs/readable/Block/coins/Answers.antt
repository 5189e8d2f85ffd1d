use Rattle.proof.proofs.Parts.{coins_read}
use Rattle.proof.proofs.readable.Block.coins.Goals as goal

pub returns : goal.returns
returns c = let b = c.args.self.now in coins_read b.bytes.now b.counts b.counted c.new-coins.ensures c.hashes_end-start.result c.hashes_end-start.ensures c.read_all.ensures
