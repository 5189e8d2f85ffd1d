use Rattle.std.proofs.Common.{◌≡◌, ◌+◌, map, length}
use Rattle.utreexo.specs.Blocks.{concat}
use Rattle.block.specs.Compose.{placed}
use Rattle.block.proofs.Placing.{left}
use Rattle.block.proofs.packed.pack_all.Given as goal

-- with the records that are left placed too, all are
abbrev pub invariant-loop-item : goal.invariant-loop-item
invariant-loop-item g l =
    (l.start + length (left g.T.Record.packed l.item-index l.items) ≡ l.at + length (concat (map g.T.Record.packed l.items)))
    × (placed l.start (left g.T.Record.packed l.item-index l.items) l.out ≡ placed l.at (concat (map g.T.Record.packed l.items)) l.initial.out)
