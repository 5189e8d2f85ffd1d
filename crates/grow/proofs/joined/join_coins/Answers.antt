use Rattle.std.proofs.Common.{◌<◌, map, length, arith}
use Rattle.std.proofs.lemmas.List.{length-map}
use Rattle.utreexo.specs.Wallet.{tree_joined}
use Rattle.shelf.specs.Held.{held_of}
use Rattle.grow.proofs.Joining.{seen_more}
use Rattle.grow.proofs.joined.join_coins.Goals as goal

pub loop-held-preserved : goal.loop-held-preserved
loop-held-preserved c =
    let l = c.loop-held in
    let was = map held_of c.args.coins.now in
    let inside : l.held-index < length was = simp length-map (omega arith) in
    seen_more held_of (tree_joined c.args.row c.args.left c.args.right) was l.held-items l.held-index c.held-item.result c.join_coin.new.held inside (omega arith)
    c.join_coin.ensures l.invariant
