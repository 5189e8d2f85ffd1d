use Rattle.std.proofs.Common.{◌≡◌, ◌++◌, map, length, take, drop}
use Rattle.shelf.specs.Held.{held_of}
use Rattle.shelf.specs.Views.{view_of}
use Rattle.grow.specs.Grown.{added}
use Rattle.grow.proofs.Carrying.{Carried}
use Rattle.grow.proofs.carry.add_coin.Given as goal

abbrev pub invariant-loop-row : goal.invariant-loop-row
invariant-loop-row g l =
    record {
      eight : length l.coins ≡ 8;
      carried : Carried g.C.Compression.image l.state.count (added g.C.Compression.image (view_of l.state) l.fn.coin) l.row l.root
          (l.stored-items ++ drop l.joined l.state.roots) (map held_of (take l.len l.coins));
    }
