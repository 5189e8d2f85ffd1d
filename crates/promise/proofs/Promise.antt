-- The whole promise.
use Rattle.std.proofs.Common.{ℕ}
use Rattle.utreexo.specs.Values.{Image}
use Rattle.utreexo.specs.Promise.{Faithful}
use Rattle.promise.proofs.Runs.{wallet_follows, wallet_caught}
use Rattle.promise.proofs.Served.{served}

-- for every image and every number of places
pub faithful : (image : Image) (places : ℕ) → Faithful image places
faithful image places = (wallet_follows image places, wallet_caught image places, served image places)
