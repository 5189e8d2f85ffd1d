use Rattle.laws.proofs.Laws.{inside_exactly}
use Rattle.laws.proofs.inside_exactly.Goals as goal

pub returns : goal.returns
returns c = inside_exactly
