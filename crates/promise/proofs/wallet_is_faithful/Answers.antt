use Rattle.promise.proofs.wallet_is_faithful.Goals as goal
use Rattle.promise.proofs.Promise.{faithful}

pub returns : goal.returns
returns c = faithful
