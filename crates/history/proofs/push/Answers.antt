use Rattle.std.proofs.Common.{◌≡◌, arith}
use Rattle.history.specs.Stack.{room}
use Rattle.history.proofs.Turns.{stack_push, stack_no_room}
use Rattle.history.proofs.push.Goals as goal

pub returns-then-places-gt0 : goal.returns-then-places-gt0
returns-then-places-gt0 g c =
    stack_push c.args.marks.now c.args.ring.now c.min-places.result c.next_place-next.result _ c.args.mark
    c.min-places.ensures (omega arith) c.next_place-next.ensures (omega arith)

pub returns-else-places-gt0 : goal.returns-else-places-gt0
returns-else-places-gt0 g c =
    let e : room c.args.marks.now ≡ 0 = omega arith in
    rw e (stack_no_room c.args.marks.now c.args.ring.now e)
