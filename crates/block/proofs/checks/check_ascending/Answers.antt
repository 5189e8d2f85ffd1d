use Rattle.std.proofs.Common.{rules, not, [], ◌∷◌, nat_lt, ap}
use Rattle.std.proofs.lemmas.List.Sorted.{answers_always}
use Rattle.utreexo.specs.Checks.{cause, refusal}
use Rattle.block.proofs.Ascents.{all_below, some_above}
use Rattle.block.proofs.checks.check_ascending.Goals as goal

pub returns-then-is_sorted_by : goal.returns-then-is_sorted_by
returns-then-is_sorted_by c =
    (ap (λ t. refusal (cause 4 (not t) ∷ [])) (all_below c.args.targets.now (c.if-is_sorted_by.ensures.cases (λ x y. nat_lt x.number y.number) (answers_always _ _ _ (λ f a r g called. search rules)))), tt)

pub returns-else-is_sorted_by : goal.returns-else-is_sorted_by
returns-else-is_sorted_by c =
    let (k, l, h) = c.if-is_sorted_by.ensures.cases (λ x y. nat_lt x.number y.number) (answers_always _ _ _ (λ f a r g called. search rules)) in
    ap (λ t. refusal (cause 4 (not t) ∷ [])) (some_above c.args.targets.now k l h)
