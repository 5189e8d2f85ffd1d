use Rattle.climb.specs.After.{look}
use Rattle.targets.specs.Targets.{placed}
use Rattle.shelf.specs.Views.{view_of}
use Rattle.refresh.proofs.Shelves.{shelf_is, shelf_straight}
use Rattle.refresh.proofs.Telling.{spends}
use Rattle.refresh.proofs.spend.Goals as goal

pub invariant_of-state-2-clause-standing : goal.invariant_of-state-2-clause-standing
invariant_of-state-2-clause-standing c =
    shelf_straight (look c.args.after.now) _ _ _ _ _ c.drop_spent.ensures c.as_slice.ensures.value c.refresh_all.ensures.refreshed c.args.state.now.count c.args.state.now.standing

pub returns-clause-shelf : goal.returns-clause-shelf
returns-clause-shelf c = shelf_is (look c.args.after.now) _ _ _ _ _ c.drop_spent.ensures c.as_slice.ensures.value c.refresh_all.ensures.refreshed

pub returns-clause-spent : goal.returns-clause-spent
returns-clause-spent c =
    spends c.args.after.now (placed c.args.targets.now) c.args.roots.now (view_of c.args.state.now) _ c.args.state.now.standing
    (shelf_is (look c.args.after.now) _ _ _ _ _ c.drop_spent.ensures c.as_slice.ensures.value c.refresh_all.ensures.refreshed)
