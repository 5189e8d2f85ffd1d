use Rattle.std.proofs.Common.{◌-◌, arith, pow_mono}
use Rattle.place.proofs.Powers.{double_shl}
use Rattle.full_keeper.proofs.Indices.{index_sum}
use Rattle.full_keeper.proofs.layout.index_of.Goals as goal

pub overflow_sub-result-2 : goal.overflow_sub-result-2
overflow_sub-result-2 c =
    let R = c.args.rows in
    let d = R - c.args.run.row in
    omega (arith, double_shl R (omega arith), double_shl d (omega arith), pow_mono {i = d} {j = R} (omega arith))

pub returns : goal.returns
returns c =
    let R = c.args.rows in
    let d = R - c.args.run.row in
    omega (arith, double_shl R (omega arith), double_shl d (omega arith), index_sum R c.args.run.row d c.args.run.place (omega arith))
