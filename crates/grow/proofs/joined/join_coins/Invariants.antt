use Rattle.std.proofs.Common.{◌≡◌, ◌++◌, map, take, drop}
use Rattle.utreexo.specs.Wallet.{tree_joined}
use Rattle.shelf.specs.Held.{held_of}
use Rattle.grow.proofs.joined.join_coins.Given as goal

-- the coins before the index are joined
abbrev pub invariant-loop-held : goal.invariant-loop-held
invariant-loop-held l =
    map held_of l.held-items
    ≡ map (tree_joined l.row l.left l.right) (take l.held-index (map held_of l.fn.coins)) ++ drop l.held-index (map held_of l.fn.coins)
