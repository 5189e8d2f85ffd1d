use Rattle.std.proofs.Common.{◌+◌, ◌^◌, ◌≤◌, arith, pow_mono}
use Rattle.std.proofs.lemmas.Nat.{one_shl}
use Rattle.place.proofs.number.Goals as goal

pub overflow_sub-result : goal.overflow_sub-result
overflow_sub-result c =
    let h = c.rows-height.result + 1 in
    let d = c.saturating_sub.result in
    let s = c.saturating_sub.ensures in
    let l = c.rows-height.ensures.low in
    let m : 2 ^ d ≤ 2 ^ h = pow_mono (omega arith) in
    omega (arith, one_shl h 64 (omega arith), one_shl d 64 (omega arith))
