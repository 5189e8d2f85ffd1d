use Rattle.std.proofs.Common.{◌∙◌, rules, tests}
use Rattle.std.proofs.lemmas.Iterator.{YieldsList-from_slice}
use Rattle.std.proofs.lemmas.Iterator.Search.{any_from_yields_List}
use Rattle.targets.specs.Spends.{target_of}
use Rattle.utreexo.specs.Checks.{strictly_above}
use Rattle.targets.proofs.Placing.{any_targets}
use Rattle.targets.proofs.checks.is_above_any.Goals as goal

pub returns : goal.returns
returns c =
    any_from_yields_List (λ s. strictly_above (target_of c.args.upper) (target_of s)) _ _ _ c.any.ensures.ran (YieldsList-from_slice c.args.spends.now (cc)) (λ x b q k. search (rules, tests))
    ∙ any_targets (strictly_above (target_of c.args.upper)) c.args.spends.now
