use Rattle.std.proofs.Common.{◌≡◌, ◌∙◌, refl, arith}
use Rattle.undo.specs.Marks.{listed}
use Rattle.undo.proofs.Loops.{blanks, ended}
use Rattle.undo.proofs.Blanking.{blanks_so}
use Rattle.undo.proofs.mark.Mark.blank.Goals as goal

pub returns-clause-after : goal.returns-clause-after
returns-clause-after g c =
    let s = g.K.Keeper.slots c.args.keeper.now in
    let done : g.K.Keeper.slots c.loop-entry.keeper ≡ blanks (listed c.args.self.now) s = ended blanks c.args.self.now.blanked c.loop-entry.entry-index _ _ (omega arith) refl c.loop-entry.invariant.1 in
    done ∙ blanks_so (listed c.args.self.now) s
