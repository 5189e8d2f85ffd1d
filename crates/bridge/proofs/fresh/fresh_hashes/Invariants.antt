use Rattle.std.proofs.Common.{◌≡◌, map, take}
use Rattle.utreexo.specs.Collection.{fresh_value}
use Rattle.place.specs.Nodes.{node_of, number_at}
use Rattle.bridge.proofs.fresh.fresh_hashes.Given as goal

abbrev pub invariant-loop-node : goal.invariant-loop-node
invariant-loop-node g l = l.hashes.items ≡ map (λ d. fresh_value g.C.Compression.image (g.K.Keeper.slots l.keeper) (number_at l.targets.count (node_of d))) (take l.node-index l.node-items)
