use Rattle.std.proofs.Common.{◌^◌, ◌<◌, length, map, ap, ◌∙◌, arith, take_all}
use Rattle.targets.specs.Targets.{placed}
use Rattle.bridge.proofs.Judging.{fresh_there, fresh_more, there, few_nodes, length_made, all_fresh}
use Rattle.bridge.proofs.fresh.fresh_hashes.Goals as goal

pub push-requires : goal.push-requires
push-requires g c =
    let image = g.C.Compression.image in
    let s = g.K.Keeper.slots c.args.keeper.now in
    let t = c.args.targets.now in
    let ds = c.as_slice-node-items.result.now in
    let small : length s < 2 ^ 32 = omega (arith, g.met.K.Keeper.fits c.args.keeper.now, g.met.K.Keeper.small c.args.keeper.now) in
    let few = few_nodes image s t.count c.requires.forest c.of-needed.result ds (placed t) c.as_slice-node-items.ensures.nodes c.of-needed.ensures.positions small c.requires.few in
    let made = length_made image s t.count c.requires.forest c.of-needed.result ds (placed t) c.as_slice-node-items.ensures.nodes c.of-needed.ensures.positions c.loop-node.node-index c.loop-node.hashes.items (omega arith) c.loop-node.invariant in
    (omega arith, omega arith)

pub loop-node-preserved : goal.loop-node-preserved
loop-node-preserved g c =
    let s = g.K.Keeper.slots c.args.keeper.now in
    let t = c.args.targets.now in
    let ds = c.as_slice-node-items.result.now in
    c.push.ensures.items ∙ fresh_more g.C.Compression.image s t.count c.requires.forest ds c.loop-node.node-index _ c.fresh_at.result c.loop-node.hashes.items (omega arith)
    (there g.C.Compression.image s t.count c.requires.forest c.of-needed.result ds _ c.as_slice-node-items.ensures.nodes c.of-needed.ensures.positions c.loop-node.node-index _ (omega arith) c.of-needed.ensures.places)
    c.fresh_at.ensures.fresh c.loop-node.invariant

pub returns : goal.returns
returns g c =
    let image = g.C.Compression.image in
    let s = g.K.Keeper.slots c.args.keeper.now in
    let t = c.args.targets.now in
    let ds = c.as_slice-node-items.result.now in
    c.loop-node.invariant ∙ ap (map (fresh_there image s t.count c.requires.forest)) (take_all c.loop-node.node-index ds (omega arith))
    ∙ all_fresh image s t.count c.requires.forest c.of-needed.result ds (placed t) c.as_slice-node-items.ensures.nodes c.of-needed.ensures.positions
