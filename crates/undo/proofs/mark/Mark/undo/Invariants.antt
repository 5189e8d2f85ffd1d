use Rattle.std.proofs.Common.{◌≡◌, drop}
use Rattle.undo.specs.Marks.{present}
use Rattle.undo.proofs.Loops.{fills}
use Rattle.undo.proofs.mark.Mark.undo.Given as goal

abbrev pub invariant-loop-entry : goal.invariant-loop-entry
invariant-loop-entry g l =
    (g.K.Keeper.limit l.keeper ≡ g.K.Keeper.limit l.initial.keeper)
    × (fills (present (drop l.entry-index l.entry-items)) (g.K.Keeper.slots l.keeper) ≡ fills (present l.entry-items) (g.K.Keeper.slots l.initial.keeper))
