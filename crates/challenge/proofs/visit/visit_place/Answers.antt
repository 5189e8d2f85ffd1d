use Rattle.std.proofs.Common.{Some, ap, ◌∙◌}
use Rattle.place.specs.Nodes.{node_of}
use Rattle.challenge.specs.Verdicts.{found_or}
use Rattle.challenge.proofs.Comparing.{passed_by, number_is, compared_at}
use Rattle.challenge.proofs.visit.visit_place.Goals as goal

pub returns-in_err-at : goal.returns-in_err-at
returns-in_err-at g c = λ on. ap (λ r. found_or r on) c.from_residual.ensures ∙ passed_by _ _ _ on c.in_err-at.ensures.input

pub returns : goal.returns
returns g c = λ on.
    let t = c.args.claims.now.targets.now in
    c.compare.ensures on
    ∙ compared_at _ _ _ _ _ _ on
    (number_is c.count.result t.count _ (node_of c.args.node) c.in_ok-position.position.number c.count.ensures c.requires.forest c.requires.inside c.in_ok-position.ensures)
    (ap Some c.input-own.ensures ∙ c.in_ok-at.ensures.input) c.in_ok-claimed.ensures
