use Rattle.std.proofs.Common.{ltb, sym, ap, ◌∙◌, arith}
use Rattle.std.proofs.lemmas.Bool.{ltb-true}
use Rattle.laws.proofs.Laws.{inside_exactly}
use Rattle.place.proofs.is_inside.Goals as goal

pub returns : goal.returns
returns c =
    let o = c.args.node.place in
    record {
      value =
          ap (λ x. ltb o x) c.runs.ensures.value
          ∙ sym (inside_exactly c.args.count c.args.node.row o (omega arith));
      low = λ t. c.runs.ensures.low (let h = ltb-true o c.runs.result t in omega arith);
    }
