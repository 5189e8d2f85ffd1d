use Rattle.std.proofs.Common.{◌||◌, ◌∙◌, rules, tests}
use Rattle.std.proofs.lemmas.Iterator.{YieldsList-from_slice}
use Rattle.std.proofs.lemmas.Iterator.Search.{any_from_yields_List}
use Rattle.utreexo.specs.Forest.{at_node}
use Rattle.utreexo.specs.Claims.{Target, beneath}
use Rattle.targets.specs.Spends.{target_of, targets}
use Rattle.targets.proofs.Placing.{any_targets}
use Rattle.refresh.proofs.Leaving.{one_pass}
use Rattle.refresh.proofs.leave.is_spent.Goals as goal

pub returns : goal.returns
returns c =
    let d = at_node c.args.held.now.row c.args.held.now.place in
    let either = λ (t : Target). beneath t.node d || beneath d t.node in
    any_from_yields_List (λ s. either (target_of s)) _ _ _ c.any.ensures.ran (YieldsList-from_slice c.args.spends.now (cc)) (λ x b q k. search (rules, tests))
    ∙ any_targets either c.args.spends.now ∙ one_pass d (targets c.args.spends.now)
