use Rattle.std.proofs.Common.{ap, ◌∙◌, arith}
use Rattle.bridge.specs.Spends.{coin_or}
use Rattle.bridge.proofs.Writing.{coins_more}
use Rattle.bridge.proofs.written.coins_at.Goals as goal

pub loop-position-preserved : goal.loop-position-preserved
loop-position-preserved g c =
    c.push.ensures.items
    ∙ coins_more g.C.Compression.image (g.K.Keeper.slots c.args.keeper.now) c.args.positions.now c.loop-position.position-index _ c.or_zero.result c.loop-position.coins.items (omega arith)
    (c.or_zero.ensures ∙ ap coin_or c.coin_having.ensures) c.loop-position.invariant
