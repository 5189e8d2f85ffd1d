use Rattle.std.proofs.Common.{sym, arith}
use Rattle.bridge.proofs.Judging.{not_found}
use Rattle.bridge.proofs.judge.live_slots.Goals as goal

pub returns-in_err-slot : goal.returns-in_err-slot
returns-in_err-slot g c =
    not_found g.C.Compression.image (g.K.Keeper.slots c.args.keeper.now) c.as_slice-spend-items.result.now _ c.loop-spend.spend-index _ _ c.from_residual.result c.as_slice-spend-items.ensures.value (omega arith)
    (sym c.in_err-slot.ensures.live) c.from_residual.ensures
