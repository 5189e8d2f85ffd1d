use Rattle.std.proofs.Common.{rules}
use Rattle.blake2s.proofs.Mixing.{rounded}
use Rattle.blake2s.proofs.compress.mix_round.Goals as goal

pub returns : goal.returns
returns c =
    rounded c.args.v c.args.m _ _ _ _ _ _ _ _ (search rules) c.mix_four-a0.ensures c.mix_four-a1.ensures c.mix_four-a2.ensures c.mix_four-a3.ensures c.mix_four-v0.ensures c.mix_four-v1.ensures c.mix_four-v2.ensures c.mix_four-v3.ensures
