use Rattle.std.proofs.Common.{◌≡◌, List, map, length, ap, ◌∙◌, arith}
use Rattle.inline_list.specs.InlineList.{listed}
use Rattle.targets.specs.Spends.{targets}
use Rattle.climb.specs.declared.item.Item.{Item}
use Rattle.climb.specs.Rows.{merge, left_of, spent_item}
use Rattle.climb.proofs.Merging.{few_left}
use Rattle.climb.proofs.rise.Rise.work.Goals as goal

pub invariant_of-self : goal.invariant_of-self
invariant_of-self g c =
    let carried = listed c.args.self.now.carried in
    let here : List Item = map (spent_item g.C.Compression.image) (targets c.split_at.result.0.now) in
    let merged : listed c.merge_row.new.row ≡ merge left_of carried here = c.merge_row.ensures ∙ ap (λ (l : List Item). merge left_of l here) c.as_slice.ensures.value in
    let size = ap length c.as_slice-2.ensures.value in
    record { few = few_left g.C.Compression.image carried (listed c.step_row-aside.new.parents) c.count_row.ensures c.split_at.ensures.front c.split_at.ensures.back merged (omega arith) c.args.self.now.few }
