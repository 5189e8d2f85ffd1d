use Rattle.std.proofs.Common.{◌≡◌, [], ◌∷◌, ltb, get_or, length, take, ◌++◌, rules, tests, ◌∙◌}
use Rattle.inline_list.specs.InlineList.{listed}
use Rattle.std.proofs.lemmas.Iterator.{YieldsList-from_slice}
use Rattle.std.proofs.lemmas.Iterator.Consumers.{count_from_yields_List}
use Rattle.std.proofs.lemmas.Iterator.Search.{YieldsList-from_take_while}
use Rattle.std.proofs.lemmas.List.Folds.{length-prefix_len}
use Rattle.climb.specs.declared.item.Item.{Item}
use Rattle.targets.specs.declared.spend.Spend.{Spend}
use Rattle.climb.proofs.Merging.{before, merging_more, merging_all}
use Rattle.climb.proofs.step.merge_row.Goals as goal

pub loop-spend-preserved : goal.loop-spend-preserved
loop-spend-preserved g c =
    let xs = c.loop-spend.rest.now in
    let none : Spend = record { node = record { row = 0; place = 0 }; coin = record { w0 = 0; w1 = 0; w2 = 0; w3 = 0 } } in
    let o = (get_or c.args.spends.now c.loop-spend.spend-index none).node.place in
    let here : listed c.try_extend_from_slice.new.self ≡ listed c.loop-spend.row ++ c.split_at.result.0.now = search rules in
    let pushed : listed c.try_push.new.self ≡ listed c.try_extend_from_slice.new.self ++ (c.spent_item.result ∷ []) = search rules in
    let left : c.count-left.result ≡ length (take (before o xs) xs) =
    count_from_yields_List _ _ c.count-left.ensures.ran
    (YieldsList-from_take_while _ (λ x. ltb x.place o) (YieldsList-from_slice xs (cc)) c.take_while.ensures.closure c.take_while.ensures.done (λ x b q k. search (rules, tests))) in
    merging_more c.loop-spend.invariant none c.loop-spend-test.true (left ∙ length-prefix_len (λ (x : Item). ltb x.place o) xs) c.split_at.ensures.front c.split_at.ensures.back here c.spent_item.ensures pushed

pub returns : goal.returns
returns g c =
    let all : listed c.try_extend_from_slice-2.new.self ≡ listed c.loop-spend.row ++ c.loop-spend.rest.now = search rules in
    all ∙ merging_all c.loop-spend.invariant c.loop-spend-test.false
