use Rattle.std.proofs.Common.{◌≡◌, take, ap, ◌∙◌, refl, arith}
use Rattle.undo.specs.Marks.{listed}
use Rattle.undo.proofs.Loops.{fills, ended}
use Rattle.undo.proofs.Undoing.{fills_so, undone_if}
use Rattle.undo.proofs.mark.Mark.undo.Goals as goal

pub returns-clause-after : goal.returns-clause-after
returns-clause-after g c =
    let m = c.args.self.now in
    let s = g.K.Keeper.slots c.args.keeper.now in
    let done : g.K.Keeper.slots c.loop-entry.keeper ≡ fills (listed m) (g.K.Keeper.slots c.cut_to.new.keeper) = ended fills c.args.self.now.blanked c.loop-entry.entry-index _ _ (omega arith) refl c.loop-entry.invariant.1 in
    done ∙ ap (fills (listed m)) c.cut_to.ensures.after ∙ fills_so (listed m) (take m.count s)

pub returns-clause-undone : goal.returns-clause-undone
returns-clause-undone g c =
    let m = c.args.self.now in
    let s = g.K.Keeper.slots c.args.keeper.now in
    let done : g.K.Keeper.slots c.loop-entry.keeper ≡ fills (listed m) (g.K.Keeper.slots c.cut_to.new.keeper) = ended fills c.args.self.now.blanked c.loop-entry.entry-index _ _ (omega arith) refl c.loop-entry.invariant.1 in
    λ able. done ∙ ap (fills (listed m)) c.cut_to.ensures.after ∙ fills_so (listed m) (take m.count s) ∙ undone_if m s able
