use Rattle.std.proofs.Common.{◌≡◌, eqb, length, take, sym, ◌∙◌, subst, rules, tests}
use Rattle.std.proofs.lemmas.Iterator.{YieldsList-from_slice}
use Rattle.std.proofs.lemmas.Iterator.Consumers.{count_from_yields_List}
use Rattle.std.proofs.lemmas.Iterator.Search.{YieldsList-from_take_while}
use Rattle.std.proofs.lemmas.List.Folds.{length-prefix_len}
use Rattle.targets.specs.declared.spend.Spend.{Spend}
use Rattle.climb.specs.Held.{Counted}
use Rattle.climb.proofs.Merging.{of_row, counted}
use Rattle.climb.proofs.step.count_row.Goals as goal

pub returns : goal.returns
returns c =
    let ss = c.args.spends.now in
    let by : c.count.result ≡ length (take (of_row c.args.row ss) ss) =
    count_from_yields_List _ _ c.count.ensures.ran
    (YieldsList-from_take_while _ (λ s. eqb s.node.row c.args.row) (YieldsList-from_slice ss (cc)) c.take_while.ensures.closure c.take_while.ensures.done (λ x b q k. search (rules, tests))) in
    subst (Counted c.args.row ss) (sym (by ∙ length-prefix_len (λ (s : Spend). eqb s.node.row c.args.row) ss)) (counted c.args.row ss)
