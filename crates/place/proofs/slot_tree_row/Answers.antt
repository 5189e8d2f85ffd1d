use Rattle.std.proofs.Common.{ℕ, ◌<◌, ◌≤◌, is_some, IfSome, Some, None, Option, ap, ◌∙◌, arith}
use Rattle.place.proofs.Trees.{slot_inside}
use Rattle.place.proofs.slot_tree_row.Goals as goal

upper : (x : Option ℕ) → IfSome x (λ k. (0 ≤ k) × (k < 32)) → IfSome x (λ k. k < 32)
upper None h = h
upper (Some k) h = h.1

pub returns : goal.returns
returns c =
    let e = c.tree_row.ensures.value in
    record { value = e; below = ap is_some e ∙ slot_inside c.args.count c.args.slot.number (omega arith); low = upper c.tree_row.result c.tree_row.ensures.range }
