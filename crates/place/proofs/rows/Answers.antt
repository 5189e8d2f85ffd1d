use Rattle.std.proofs.Common.{◌≡◌, ◌-◌, ◌∙◌, arith}
use lib.Count.{count_leading_zeros}
use Rattle.std.proofs.lemmas.Nat.{leading_length}
use Rattle.place.proofs.Powers.{rows_is}
use Rattle.place.proofs.rows.Goals as goal

pub returns : goal.returns
returns c =
    let a = c.saturating_sub.result in
    let m = leading_length 32 a (omega arith) in
    let e : 32 - count_leading_zeros 32 a ≡ m.0 = omega arith in
    let s = c.saturating_sub.ensures in
    record { value = e ∙ rows_is c.args.count m.0 (omega arith) (omega arith) (omega arith); low = omega arith }
