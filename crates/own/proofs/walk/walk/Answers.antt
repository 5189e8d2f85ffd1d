use Rattle.std.proofs.Common.{◌-◌, ◌^◌, ◌<◌, length, sym, ap, ◌∙◌, subst, arith}
use Rattle.utreexo.specs.Forest.{at_node, tree_of, tree_place}
use Rattle.own.specs.Answers.{Finds}
use Rattle.own.proofs.Down.{none_outside}
use Rattle.own.proofs.Going.{Going, going_start, stepped, finds_below, finds_empty, finds_leaf}
use Rattle.own.proofs.walk.walk.Goals as goal

pub loop-left-init : goal.loop-left-init
loop-left-init g c =
    let s = g.K.Keeper.slots c.args.keeper.now in
    let d = c.args.node in
    let n = c.count-count.ensures in
    let small : length s < 2 ^ 32 = omega arith in
    subst (λ p. Going s d.row d.place c.in_ok-row.row p (c.in_ok-row.row - d.row)) (sym (c.tree_place.ensures ∙ ap (λ n. tree_place n c.in_ok-row.row) n))
    (going_start small (ap (λ n. tree_of n (at_node d.row d.place)) (sym n) ∙ sym c.tree_row.ensures.value ∙ c.in_ok-row.was))

pub loop-left-preserved : goal.loop-left-preserved
loop-left-preserved g c =
    let n = c.count-count.ensures in
    (stepped c.loop-left.way c.loop-left.invariant c.in-Some.ensures.0 g.C.Compression.image (omega arith) _ (sym c.step.ensures ∙ c.in-On.is)).0

pub loop-left-smaller : goal.loop-left-smaller
loop-left-smaller g c =
    let n = c.count-count.ensures in
    (stepped c.loop-left.way c.loop-left.invariant c.in-Some.ensures.0 g.C.Compression.image (omega arith) _ (sym c.step.ensures ∙ c.in-On.is)).1

pub returns-in_err-row : goal.returns-in_err-row
returns-in_err-row g c =
    let image = g.C.Compression.image in
    let s = g.K.Keeper.slots c.args.keeper.now in
    let d = c.args.node in
    let n = c.count-count.ensures in
    subst (Finds image s d.row d.place) (sym c.from_residual.ensures)
    (none_outside image s (omega arith) d.row d.place
    (ap (λ n. tree_of n (at_node d.row d.place)) (sym n) ∙ sym c.tree_row.ensures.value ∙ c.in_err-row.was))

pub returns-in-Nothing : goal.returns-in-Nothing
returns-in-Nothing g c =
    let n = c.count-count.ensures in
    stepped c.loop-left.way c.loop-left.invariant c.in-Some.ensures.0 g.C.Compression.image (omega arith) _ (sym c.step.ensures ∙ c.in-Nothing.is)

pub returns-in-Pair : goal.returns-in-Pair
returns-in-Pair g c =
    let n = c.count-count.ensures in
    stepped c.loop-left.way c.loop-left.invariant c.in-Some.ensures.0 g.C.Compression.image (omega arith) _ (sym c.step.ensures ∙ c.in-Pair.is)

pub returns-then-way-gt0 : goal.returns-then-way-gt0
returns-then-way-gt0 g c =
    let n = c.count-count.ensures in
    finds_below c.loop-left.invariant (omega arith) g.C.Compression.image (omega arith) c.if-way-gt0.true

pub returns-in_err-coin : goal.returns-in_err-coin
returns-in_err-coin g c =
    let image = g.C.Compression.image in
    let d = c.args.node in
    let n = c.count-count.ensures in
    subst (Finds image (g.K.Keeper.slots c.args.keeper.now) d.row d.place) (sym c.from_residual-in_err-coin.ensures)
    (finds_empty c.loop-left.invariant (omega arith) image (omega arith) (sym c.coin_in.ensures ∙ c.in_err-coin.was))

pub returns : goal.returns
returns g c =
    let image = g.C.Compression.image in
    let n = c.count-count.ensures in
    finds_leaf c.loop-left.invariant (omega arith) image (omega arith) (omega arith) (sym c.coin_in.ensures ∙ c.in_ok-coin.was)
