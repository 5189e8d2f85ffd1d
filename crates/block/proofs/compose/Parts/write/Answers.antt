use Rattle.block.proofs.Composing.{block_written}
use Rattle.block.proofs.compose.Parts.write.Goals as goal

pub returns : goal.returns
returns c =
    block_written c.args.self.now.targets.now c.args.self.now.spent.now c.args.self.now.hashes.now c.args.self.now.coins.now c.counts-counts.result c.args.out.now _ _ _ _ _ _ _ _ _ c.counts-counts.ensures c.requires c.pack_all-targets_at.auto.out c.pack_all-spent_at.auto.out c.pack_all-hashes_at.auto.out c.pack_all-targets_at.ensures.end c.pack_all-spent_at.ensures.end c.pack_all-hashes_at.ensures.end c.pack_all-coins_at.ensures.end c.pack_all-targets_at.ensures.after c.pack_all-spent_at.ensures.after c.pack_all-hashes_at.ensures.after c.pack_all-coins_at.ensures.after c.pack_all.ensures.after
