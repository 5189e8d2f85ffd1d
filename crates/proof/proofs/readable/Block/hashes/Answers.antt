use Rattle.laws.proofs.Reading.{reads}
use Rattle.proof.proofs.Parts.{hashes_read}
use Rattle.proof.proofs.readable.Block.hashes.Goals as goal

pub returns : goal.returns
returns c =
    let b = c.args.self.now in
    hashes_read b.bytes.now (reads b.bytes.now b.readable) b.counts b.counted c.spent_end.result c.hashes_end.result c.spent_end.ensures c.hashes_end.ensures
