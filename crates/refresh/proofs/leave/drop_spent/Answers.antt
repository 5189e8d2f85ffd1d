use Rattle.std.proofs.Common.{not, sym, ap, ◌∙◌, arith}
use Rattle.targets.specs.Spends.{targets}
use Rattle.refresh.specs.Spent.{stays}
use Rattle.refresh.proofs.Leaving.{coin_stays, coin_leaves, filtered}
use Rattle.refresh.proofs.leave.drop_spent.Goals as goal
use Rattle.refresh.proofs.leave.drop_spent.Goals.{then-not-is_spent, else-not-is_spent}

pub loop-i-preserved : goal.loop-i-preserved
loop-i-preserved c =
    let d = c.index-shelf-i.result in
    elim c.if-not-is_spent.branch [
      | then-not-is_spent w ↦ rw (w.shelf-is, w.kept-is) (coin_stays d c.loop-i.invariant (omega arith) (ap not (sym c.is_spent.ensures ∙ w.if-not-is_spent.true)))
      | else-not-is_spent w ↦ rw (w.shelf-is, w.kept-is) (coin_leaves d c.loop-i.invariant (omega arith) (ap not (sym c.is_spent.ensures ∙ w.if-not-is_spent.false)))
    ]

pub returns : goal.returns
returns c = filtered (stays (targets c.args.spends.now)) c.args.shelf.now.coins c.loop-i.shelf.coins c.loop-i.kept c.loop-i.i c.args.shelf.now.len (omega arith) c.loop-i.invariant
