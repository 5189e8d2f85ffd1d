use Rattle.bridge.proofs.Judging.{SoFar}
use Rattle.bridge.proofs.judge.live_slots.Given as goal

abbrev pub invariant-loop-spend : goal.invariant-loop-spend
invariant-loop-spend g l = SoFar g.C.Compression.image (g.K.Keeper.slots l.keeper) l.spend-items l.spend-index l.found.items
