use Rattle.std.proofs.Common.{refl}
use Rattle.blake2s.specs.Blake2s.{mix, G, round, rounds, F, absorb, blake2s}
use Rattle.blake2s.proofs.published_digests.Goals as goal

pub returns : goal.returns
unfolding mix G round rounds F absorb blake2s
returns c = record { abc = refl; empty = refl }
