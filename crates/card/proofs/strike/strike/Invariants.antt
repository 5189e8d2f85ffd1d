use Rattle.std.proofs.Common.{◌≡◌, ◌≤◌}
use Rattle.card.proofs.Striking.{struck_from}
use Rattle.card.proofs.strike.strike.Given as goal

abbrev pub invariant-loop-row : goal.invariant-loop-row
invariant-loop-row g l =
    (l.row ≤ l.tree)
    × (struck_from g.C.Compression.image (g.K.Keeper.slots l.keeper) l.slot.number l.tree l.row ≡ record { row = l.node.row; place = l.node.place; path = l.path.items })
