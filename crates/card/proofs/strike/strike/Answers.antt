use Rattle.std.proofs.Common.{◌≡◌, length, ◌+◌, ◌-◌, ◌*◌, ◌/◌, ◌^◌, ◌%◌, Some, None, sym, ap, ◌∙◌, ap₂, arith}
use Rattle.utreexo.specs.Forest.{Struck, at_node, tree_of, tree_row, sibling, value_over, keep_bit, strike, siblings_of}
use Rattle.card.proofs.Striking.{struck_from, struck_top, struck_next, struck_bounds, struck_whole, sibling_within}
use Rattle.card.proofs.strike.strike.Goals as goal

pub loop-row-init : goal.loop-row-init
loop-row-init g c =
    let image = g.C.Compression.image in
    let s = g.K.Keeper.slots c.args.keeper.now in (
      omega arith,
      struck_top image s c.args.slot.number c.in_ok-tree.tree
          ∙ ap₂ (λ o p. record { row = 0; place = o; path = p }) (sym c.runs.ensures.value) (sym c.new-path.ensures),
    )

pub overflow_mul-node : goal.overflow_mul-node
overflow_mul-node g c =
    let image = g.C.Compression.image in
    let s = g.K.Keeper.slots c.args.keeper.now in
    let w = c.args.slot.number in
    let tree = c.in_ok-tree.tree in
    let j = c.loop-row.row - 1 in
    let b = struck_bounds image s w tree j c.loop-row.node.row c.loop-row.node.place c.loop-row.path.items (omega arith) (ap (struck_from image s w tree) (omega arith) ∙ c.loop-row.invariant.1) in
    omega arith

pub overflow_add-node : goal.overflow_add-node
overflow_add-node g c =
    let image = g.C.Compression.image in
    let s = g.K.Keeper.slots c.args.keeper.now in
    let w = c.args.slot.number in
    let tree = c.in_ok-tree.tree in
    let j = c.loop-row.row - 1 in
    let b = struck_bounds image s w tree j c.loop-row.node.row c.loop-row.node.place c.loop-row.path.items (omega arith) (ap (struck_from image s w tree) (omega arith) ∙ c.loop-row.invariant.1) in
    omega (arith, ap (λ x. x % 2) c.runs-place.ensures.value)

pub insert-requires : goal.insert-requires
insert-requires g c =
    let image = g.C.Compression.image in
    let s = g.K.Keeper.slots c.args.keeper.now in
    let w = c.args.slot.number in
    let tree = c.in_ok-tree.tree in
    let j = c.loop-row.row - 1 in
    let b = struck_bounds image s w tree j c.loop-row.node.row c.loop-row.node.place c.loop-row.path.items (omega arith) (ap (struck_from image s w tree) (omega arith) ∙ c.loop-row.invariant.1) in
    (omega arith, (omega arith, omega (arith, c.in_ok-tree.ensures.low)))

pub overflow_add-node-in-None : goal.overflow_add-node-in-None
overflow_add-node-in-None g c =
    let image = g.C.Compression.image in
    let s = g.K.Keeper.slots c.args.keeper.now in
    let w = c.args.slot.number in
    let tree = c.in_ok-tree.tree in
    let j = c.loop-row.row - 1 in
    let b = struck_bounds image s w tree j c.loop-row.node.row c.loop-row.node.place c.loop-row.path.items (omega arith) (ap (struck_from image s w tree) (omega arith) ∙ c.loop-row.invariant.1) in
    omega (arith, c.in_ok-tree.ensures.low)

pub loop-row-preserved-in-Some : goal.loop-row-preserved-in-Some
loop-row-preserved-in-Some g c =
    let image = g.C.Compression.image in
    let s = g.K.Keeper.slots c.args.keeper.now in
    let w = c.args.slot.number in
    let tree = c.in_ok-tree.tree in
    let j = c.loop-row.row - 1 in
    let o = w / 2 ^ j in
    let before : Struck = record { row = c.loop-row.node.row; place = c.loop-row.node.place; path = c.loop-row.path.items } in
    let tree_is : tree_of (length s) (at_node 0 w) ≡ Some tree = sym (c.in_ok-tree.ensures.value ∙ ap (λ n. tree_of n (at_node 0 w)) c.count.ensures) in
    let place = c.sibling_place.ensures ∙ ap sibling c.runs-place.ensures.value in
    let l = sibling_within (length s) w tree j tree_is (omega arith) in
    let v = c.value_over.ensures.within (omega (arith, place)) ∙ ap (value_over image s j) place in
    let e : struck_from image s w tree (j + 1) ≡ before = ap (struck_from image s w tree) (omega arith) ∙ c.loop-row.invariant.1 in (
      omega arith,
      struck_next image s w tree j (omega arith) ∙ ap₂ (keep_bit o) (sym v ∙ c.in-Some.is) e
          ∙ ap₂ (λ z p. record { row = c.loop-row.node.row; place = 2 * c.loop-row.node.place + z % 2; path = p }) (sym c.runs-place.ensures.value) (sym c.insert.ensures.items),
    )

pub loop-row-preserved : goal.loop-row-preserved
loop-row-preserved g c =
    let image = g.C.Compression.image in
    let s = g.K.Keeper.slots c.args.keeper.now in
    let w = c.args.slot.number in
    let tree = c.in_ok-tree.tree in
    let j = c.loop-row.row - 1 in
    let o = w / 2 ^ j in
    let before : Struck = record { row = c.loop-row.node.row; place = c.loop-row.node.place; path = c.loop-row.path.items } in
    let tree_is : tree_of (length s) (at_node 0 w) ≡ Some tree = sym (c.in_ok-tree.ensures.value ∙ ap (λ n. tree_of n (at_node 0 w)) c.count.ensures) in
    let place = c.sibling_place.ensures ∙ ap sibling c.runs-place.ensures.value in
    let l = sibling_within (length s) w tree j tree_is (omega arith) in
    let v = c.value_over.ensures.within (omega (arith, place)) ∙ ap (value_over image s j) place in
    let e : struck_from image s w tree (j + 1) ≡ before = ap (struck_from image s w tree) (omega arith) ∙ c.loop-row.invariant.1 in
    (omega arith, struck_next image s w tree j (omega arith) ∙ ap₂ (keep_bit o) (sym v ∙ c.in-None.is) e)

pub returns : goal.returns
returns g c =
    let image = g.C.Compression.image in
    let s = g.K.Keeper.slots c.args.keeper.now in
    let w = c.args.slot.number in
    let tree = c.in_ok-tree.tree in
    let e : tree_row (length s) w ≡ tree =
    ap (λ x. elim x [ None ↦ 0 | Some k ↦ k ]) (sym (c.in_ok-tree.ensures.value ∙ ap (λ n. tree_of n (at_node 0 w)) c.count.ensures)) in
    sym c.loop-row.invariant.1 ∙ (let z : c.loop-row.row ≡ 0 = omega arith in ap (struck_from image s w tree) z) ∙ struck_whole image s w tree ∙ ap (λ k. strike (siblings_of image s w k) w) (sym e)
