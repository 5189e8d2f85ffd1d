use Rattle.laws.proofs.Lone.{path_fresh}
use Rattle.laws.proofs.paths_fresh.Goals as goal

pub returns : goal.returns
returns c = path_fresh
