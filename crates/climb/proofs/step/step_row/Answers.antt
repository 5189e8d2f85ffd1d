use Rattle.climb.proofs.Going.{going_root, going_both, going_lone}
use Rattle.inline_list.specs.InlineList.{listed}
use Rattle.std.proofs.Common.{◌≡◌, ℕ, List, [], ◌∷◌, ◌++◌, get_or, ap, rules, ◌∙◌}
use Rattle.utreexo.specs.Claims.{no_value}
use Rattle.climb.specs.Held.{hashes_in}
use Rattle.climb.proofs.step.step_row.Goals as goal

pub loop-item-preserved-then-is_top : goal.loop-item-preserved-then-is_top
loop-item-preserved-then-is_top g c = (going_root c.loop-item.invariant.0 c.in-Some.ensures.cases.0 c.if-is_top.ensures, c.loop-item.invariant.1)

pub loop-item-preserved-in-Some-split_sibling : goal.loop-item-preserved-in-Some-split_sibling
loop-item-preserved-in-Some-split_sibling g c =
    let pushed : listed c.try_push.new.self ≡ listed c.loop-item.parents ++ (c.above_two.result ∷ []) = search rules in
    (going_both c.loop-item.invariant.0 c.in-Some.ensures.cases.0 c.if-is_top.ensures c.in-Some-split_sibling.ensures.0 c.in-Some-split_sibling.ensures.1 c.above_two.ensures pushed, c.loop-item.invariant.1)

pub loop-item-preserved : goal.loop-item-preserved
loop-item-preserved g c = let pushed : listed c.try_push-in_default-split_sibling.new.self ≡ listed c.loop-item.parents ++ (c.above_one-lone.result ∷ []) = search rules in (
  going_lone c.loop-item.invariant.0 c.in-Some.ensures.cases.0 c.if-is_top.ensures c.in_default-split_sibling.ensures (c.next.ensures.value ∙ ap (λ (h : List ℕ). get_or (hashes_in h) c.loop-item.hashes.used no_value) (ap (λ b. b.now) c.loop-item.invariant.1)) c.above_one-lone.ensures pushed c.next.ensures.used,
  c.next.ensures.bytes ∙ c.loop-item.invariant.1,
)
