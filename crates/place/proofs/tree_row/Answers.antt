use Rattle.std.proofs.Common.{◌+◌, sym, arith}
use Rattle.place.proofs.Trees.{outside, tree_found, tree_range}
use Rattle.place.proofs.tree_row.Goals as goal

pub returns-then-node-runs : goal.returns-then-node-runs
returns-then-node-runs c =
    let e = c.runs-runs.ensures.value in
    record { value = sym (outside c.args.count c.args.node.row c.args.node.place (omega arith) (omega arith)); range = tt }

pub returns : goal.returns
returns c =
    let n = c.args.count in
    let r = c.args.node.row in
    let o = c.args.node.place in
    let j = c.highest_bit.result in
    let e = tree_found n r o c.runs-runs.result j (omega arith) c.runs-runs.ensures.value c.if-node-runs.false c.highest_bit.ensures.high_bound c.highest_bit.ensures.low_bound in
    record { value = sym e; range = tree_range n r o (r + j) (omega arith) e }
