use Rattle.std.proofs.Common.{None, rules}
use Rattle.utreexo.specs.Forest.{root_of}
use Rattle.own.proofs.Arrays.{made}
use Rattle.own.proofs.roots.Goals as goal

pub returns : goal.returns
returns g c =
    made _ _ (λ row. root_of g.C.Compression.image (g.K.Keeper.slots c.args.keeper.now) row) (λ i r f' call. search rules) c.from_fn.result 32 None c.from_fn.ensures.items
