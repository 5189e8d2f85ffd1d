use Rattle.std.proofs.Common.{◌∙◌, ap, rules, tests}
use Rattle.std.proofs.lemmas.Iterator.{YieldsList-from_slice}
use Rattle.std.proofs.lemmas.Iterator.Search.{any_from_yields_List}
use Rattle.utreexo.specs.Lists.{any}
use Rattle.utreexo.specs.Checks.{blank_over}
use Rattle.targets.specs.Spends.{target_of}
use Rattle.targets.specs.Targets.{placed}
use Rattle.targets.proofs.Placing.{any_targets}
use Rattle.proof.proofs.layers.any_under_blank.Goals as goal

pub returns : goal.returns
returns c =
    let under = blank_over c.count-count.result c.args.roots.now in
    let ss = c.as_slice.result.now in
    any_from_yields_List (λ s. under (target_of s)) _ _ _ c.any.ensures.ran (YieldsList-from_slice ss (cc)) (λ x b q k. search (rules, tests))
    ∙ any_targets under ss ∙ ap (any under) c.as_slice.ensures.value
    ∙ ap (λ n. any (blank_over n c.args.roots.now) (placed c.args.targets.now)) c.count-count.ensures
