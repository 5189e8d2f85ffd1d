use Rattle.std.proofs.Common.{length}
use Rattle.climb.specs.Needed.{nodes_of}
use Rattle.climb.proofs.Lacking.{Lacking}
use Rattle.climb.proofs.needed.Needed.push_siblings.Given as goal

abbrev pub invariant-loop-item : goal.invariant-loop-item
invariant-loop-item l = Lacking l.row l.width l.items (nodes_of l.initial.self) (nodes_of l.self) l.rest

abbrev pub decreases-loop-item : goal.decreases-loop-item
decreases-loop-item l = length l.rest
