use Rattle.std.proofs.Common.{◌≡◌, drop}
use Rattle.undo.specs.Marks.{present}
use Rattle.undo.proofs.Loops.{blanks}
use Rattle.undo.proofs.mark.Mark.blank.Given as goal

abbrev pub invariant-loop-entry : goal.invariant-loop-entry
invariant-loop-entry g l =
    (g.K.Keeper.limit l.keeper ≡ g.K.Keeper.limit l.initial.keeper)
    × (blanks (present (drop l.entry-index l.entry-items)) (g.K.Keeper.slots l.keeper) ≡ blanks (present l.entry-items) (g.K.Keeper.slots l.initial.keeper))
