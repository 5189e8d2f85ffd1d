use Rattle.promise.proofs.cards_watched.Goals as goal
use Rattle.promise.proofs.Served.{cards_watched}

pub returns : goal.returns
returns c = cards_watched
