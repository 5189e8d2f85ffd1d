use Rattle.climb.specs.After.{look}
use Rattle.shelf.specs.Held.{held_of}
use Rattle.refresh.proofs.Striking.{Going}
use Rattle.refresh.proofs.refresh.refresh.Given as goal

abbrev pub invariant-loop-i : goal.invariant-loop-i
invariant-loop-i l = Going (look l.after) (held_of l.initial.held) l.initial.held.len l.held.coin l.row l.place l.kept l.held.path l.i
