use Rattle.undo.proofs.Table.{none_held}
use Rattle.undo.proofs.marks.Marks.new.Goals as goal

pub returns : goal.returns
returns c = none_held _ c.new-2.ensures
