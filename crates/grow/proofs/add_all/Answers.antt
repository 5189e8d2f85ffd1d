use Rattle.std.proofs.Common.{arith}
use Rattle.shelf.specs.Views.{view_of}
use Rattle.grow.proofs.Carrying.{coin_more}
use Rattle.grow.proofs.add_all.Goals as goal

pub loop-coin-preserved : goal.loop-coin-preserved
loop-coin-preserved g c =
    let l = c.loop-coin in
    record {
      room = omega (arith, c.add_coin.ensures.count);
      rest =
          coin_more g.C.Compression.image (view_of l.state) (view_of c.add_coin.new.state) c.args.coins.now _ l.coin-index _ c.loop-coin-test.true
          c.add_coin.ensures.view l.invariant.rest;
    }
