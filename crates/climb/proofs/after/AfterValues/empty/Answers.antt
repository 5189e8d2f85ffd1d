use Rattle.climb.proofs.Lookups.{empty_look}
use Rattle.climb.proofs.after.AfterValues.empty.Goals as goal

pub returns : goal.returns
returns c = empty_look 32 c.new-row.result c.new-row.ensures
