use Rattle.std.proofs.Common.{length, arith, rules}
use Rattle.keeper.proofs.Runs.{halves}
use Rattle.keeper.proofs.bare.+value_over.Goals as goal

pub value_over-left-requires : goal.value_over-left-requires
value_over-left-requires g t c κs within =
    let (high, left, right) = c.in-Some.ensures in
    let h = halves (length c.args.slots.now) c.args.run.row c.args.run.place high (omega arith) in
    rw left (search rules)

pub value_over-right-requires : goal.value_over-right-requires
value_over-right-requires g t c κs within =
    let (high, left, right) = c.in-Some.ensures in
    let h = halves (length c.args.slots.now) c.args.run.row c.args.run.place high (omega arith) in
    rw right (search rules)
