use Rattle.own.proofs.Going.{Going}
use Rattle.own.proofs.walk.walk.Given as goal

abbrev pub invariant-loop-left : goal.invariant-loop-left
invariant-loop-left g l = Going (g.K.Keeper.slots l.keeper) l.node.row l.node.place l.way.run.row l.way.run.place l.way.bits

abbrev pub decreases-loop-left : goal.decreases-loop-left
decreases-loop-left g l = l.way.run.row
