use Rattle.std.proofs.Common.{rules}
use Rattle.climb.proofs.Chunks.{hash_at}
use Rattle.climb.proofs.hashes.hash_at.Goals as goal

pub returns : goal.returns
returns c = hash_at c.args.hashes.now c.args.index c.as_chunks.ensures.front c.get.result c.map_or.result (search rules) c.get.ensures.lookup.1 (search rules)
