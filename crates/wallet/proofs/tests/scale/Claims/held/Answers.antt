use Rattle.std.proofs.Common.{◌≡◌, ◌/◌, ◌%◌, length, take, arith}
use Rattle.std.proofs.lemmas.Bool.{eq-eqb}
use Rattle.std.proofs.lemmas.List.{length-take-le}
use Rattle.wallet.proofs.tests.scale.Claims.held.Goals as goal

pub returns : goal.returns
returns c =
    let path = c.from_fn.result in
    let long : length (take 31 path) ≡ 31 = length-take-le 31 path (omega arith) in
    rw long (eq-eqb (c.args.slot % 2147483648 / 2147483648) 0 (omega arith))
