use Rattle.std.proofs.Common.{◌≡◌, ◌-◌, arith}
use native.Mathlib.Nat.{two-pow-succ}
use lib.Count.{count_leading_zeros, leading_top}
use Rattle.place.proofs.highest_bit.Goals as goal

pub returns : goal.returns
returns c =
    let (j, e, low, high) = leading_top 64 c.args.x c.requires (omega arith) in
    let at : 63 - count_leading_zeros 64 c.args.x ≡ j = omega arith in
    let twice = two-pow-succ j in
    record { high_bound = rw at low; low_bound = rw at (omega (arith, twice, high)); bound = omega arith }
