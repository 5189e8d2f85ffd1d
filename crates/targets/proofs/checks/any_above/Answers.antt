use Rattle.std.proofs.Common.{◌∙◌, rules, tests}
use Rattle.std.proofs.lemmas.Iterator.{YieldsList-from_slice}
use Rattle.std.proofs.lemmas.Iterator.Search.{any_from_yields_List}
use Rattle.utreexo.specs.Lists.{any}
use Rattle.targets.specs.Spends.{target_of, targets}
use Rattle.utreexo.specs.Checks.{strictly_above}
use Rattle.targets.proofs.Placing.{any_targets}
use Rattle.targets.proofs.checks.any_above.Goals as goal

pub returns : goal.returns
returns c =
    let ss = c.args.spends.now in
    any_from_yields_List (λ s. any (strictly_above (target_of s)) (targets ss)) _ _ _ c.any.ensures.ran (YieldsList-from_slice ss (cc)) (λ x b q k. search (rules, tests))
    ∙ any_targets (λ t. any (strictly_above t) (targets ss)) ss
