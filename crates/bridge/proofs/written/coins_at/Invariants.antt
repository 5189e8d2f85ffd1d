use Rattle.std.proofs.Common.{◌≡◌, take}
use Rattle.utreexo.specs.Collection.{coins_at}
use Rattle.block.specs.Compose.{numbers}
use Rattle.bridge.proofs.written.coins_at.Given as goal

abbrev pub invariant-loop-position : goal.invariant-loop-position
invariant-loop-position g l = l.coins.items ≡ coins_at g.C.Compression.image (g.K.Keeper.slots l.keeper) (numbers (take l.position-index l.positions))
