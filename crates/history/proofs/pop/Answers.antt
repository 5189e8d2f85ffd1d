use Rattle.std.proofs.Common.{◌≡◌, [], refl, arith}
use Rattle.history.specs.Stack.{stack}
use Rattle.history.proofs.Turns.{stack_pop, stack_none}
use Rattle.history.proofs.pop.Goals as goal

pub returns-then-held-eq0 : goal.returns-then-held-eq0
returns-then-held-eq0 g c =
    let s : stack c.args.marks.now c.args.ring.now ≡ [] = stack_none c.args.marks.now c.args.ring.now (omega arith) in
    rw s record { value = refl; after = refl }

pub returns : goal.returns
returns g c =
    let both =
    stack_pop c.args.marks.now c.args.ring.now c.min-places.result c.min-newest.result c.place_before-ring.result _
    c.index-marks-newest.result c.min-places.ensures (omega arith) (omega arith) c.min-newest.ensures
    c.place_before-ring.ensures (omega arith) c.index-marks-newest.is in
    record { value = both.0; after = both.1 }
