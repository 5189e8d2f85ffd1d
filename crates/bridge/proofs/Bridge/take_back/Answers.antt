use Rattle.std.proofs.Common.{ap, ◌∙◌, sym}
use Rattle.undo.specs.Marks.{marks_of, undo_in}
use Rattle.bridge.proofs.Changing.{back}
use Rattle.bridge.proofs.Bridge.take_back.Goals as goal

pub invariant_of-self-2 : goal.invariant_of-self-2
invariant_of-self-2 g c =
    let b = c.args.self.now in
    record {
      undoable = (back (g.K.Keeper.slots b.keeper) (g.K.Keeper.slots c.undo.new.keeper) c.in-Some.mark c.undo.ensures.undone g.C.Compression.image (g.K.Keeper.limit b.keeper) (g.K.Keeper.limit c.undo.new.keeper)
          (marks_of b.marks) (marks_of c.pop.new.self) c.undo.ensures.same b.undoable (sym (ap undo_in c.in-Some.is) ∙ c.pop.ensures.value) c.pop.ensures.after).1;
    }

pub returns : goal.returns
returns g c =
    let b = c.args.self.now in
    (back (g.K.Keeper.slots b.keeper) (g.K.Keeper.slots c.undo.new.keeper) c.in-Some.mark c.undo.ensures.undone g.C.Compression.image (g.K.Keeper.limit b.keeper) (g.K.Keeper.limit c.undo.new.keeper)
    (marks_of b.marks) (marks_of c.pop.new.self) c.undo.ensures.same b.undoable (sym (ap undo_in c.in-Some.is) ∙ c.pop.ensures.value) c.pop.ensures.after).0
