use Rattle.std.proofs.Common.{◌≡◌, ◌+◌, ◌-◌, ◌≤◌, length, drop}
use Rattle.utreexo.specs.Checks.{most_slots}
use Rattle.utreexo.specs.Wallet.{add_all}
use Rattle.shelf.specs.Views.{view_of}
use Rattle.grow.proofs.add_all.Given as goal

abbrev pub invariant-loop-coin : goal.invariant-loop-coin
invariant-loop-coin g l =
    record {
      room : l.state.count + (length l.coins - l.coin-index) ≤ most_slots;
      rest : add_all g.C.Compression.image (view_of l.state) (drop l.coin-index l.coins) ≡ add_all g.C.Compression.image (view_of l.fn.state) l.coins;
    }
