use Rattle.std.proofs.Common.{◌∙◌}
use Rattle.block.specs.Compose.{numbers}
use Rattle.bridge.proofs.Writing.{written_so, not_written}
use Rattle.bridge.proofs.Bridge.write.Goals as goal

pub returns-in_err-spending-clause-answer : goal.returns-in_err-spending-clause-answer
returns-in_err-spending-clause-answer g c =
    let image = g.C.Compression.image in
    let s = g.K.Keeper.slots c.args.self.now.keeper in
    let ps = numbers c.args.positions.now in
    let cs = c.args.coins.now in
    not_written image s ps cs c.args.out.now c.from_residual.result c.in_err-spending.field-0.0 c.from_residual.ensures.1 c.in_err-spending.ensures

pub returns-clause-answer : goal.returns-clause-answer
returns-clause-answer g c =
    let image = g.C.Compression.image in
    let s = g.K.Keeper.slots c.args.self.now.keeper in
    let ps = numbers c.args.positions.now in
    let cs = c.args.coins.now in
    let (none, spends) = c.in_ok-spending.ensures in
    c.compose.ensures.answer
    ∙ written_so image s ps cs c.args.out.now none c.as_slice.result.now c.as_slice-2.result.now (c.as_slice.ensures.value ∙ spends.spent) (c.as_slice-2.ensures.value ∙ spends.hashes) c.as_slice-2.ensures.fits
