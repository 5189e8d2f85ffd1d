use Rattle.std.proofs.Common.{◌+◌, ◌-◌, arith, ◌∙◌}
use Rattle.block.proofs.Placing.{one_more}
use Rattle.block.proofs.packed.pack_all.Goals as goal

pub loop-item-preserved : goal.loop-item-preserved
loop-item-preserved g c =
    one_more g.T.Record.packed g.row.N g.met.T.Record.sized c.args.items.now c.loop-item.item-index c.item-item.result c.loop-item-test.true c.item-item.is c.loop-item.start (c.loop-item.start + g.row.N - c.loop-item.start) _ c.loop-item.out c.copy_from_slice.new.self _ (omega arith) (c.copy_from_slice.ensures.after ∙ c.to_bytes.ensures) (omega arith) c.loop-item.invariant.0 c.loop-item.invariant.1
