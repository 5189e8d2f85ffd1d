use Rattle.laws.proofs.Laws.{live_positions}
use Rattle.laws.proofs.live_positions.Goals as goal

pub returns : goal.returns
returns c = live_positions
