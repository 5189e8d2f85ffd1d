use Rattle.std.proofs.Common.{◌/◌, ltb, ap, ◌∙◌, arith}
use Rattle.std.proofs.lemmas.Bool.{ltb-true}
use Rattle.place.proofs.Trees.{below_is}
use Rattle.place.proofs.is_below_root.Goals as goal

pub returns : goal.returns
returns c =
    let n = c.args.count in
    let r = c.args.node.row in
    let o = c.args.node.place in
    let w = c.runs.result in
    let e = ap (λ x. ltb (o / 2) (x / 2)) c.runs.ensures.value in
    record {
      value = e ∙ below_is n r o (omega arith);
      low = λ t. c.runs.ensures.low (let h = ltb-true (o / 2) (w / 2) t in omega arith);
    }
