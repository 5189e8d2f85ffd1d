use Rattle.std.proofs.Common.{◌≡◌, ◌-◌, ◌≤◌, take}
use Rattle.undo.proofs.changes.cut_to.Given as goal

abbrev pub invariant-loop : goal.invariant-loop
invariant-loop g l =
    (g.K.Keeper.limit l.keeper ≡ g.K.Keeper.limit l.initial.keeper)
    × (l.end ≤ l.count → l.counter ≡ l.count)
    × (g.K.Keeper.slots l.keeper ≡ take (l.end - (l.counter - l.count)) (g.K.Keeper.slots l.initial.keeper))
