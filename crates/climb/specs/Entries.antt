-- What is claimed of a place, as the code holds it.
use Rattle.std.specs.Prelude.{ℕ}
use Rattle.utreexo.specs.Values.{Image}
use Rattle.utreexo.specs.Claims.{Proof, Claim, claim_at, claimed, after}
use Rattle.climb.specs.declared.item.Item.{Item}

module _ (image : Image) (p : Proof) where
  abbrev pub item_of : Claim → ℕ → Item
  item_of c o = record { place = o; claim = claimed image c; left = after image c }

  -- the item of place o of row r
  abbrev pub entry : ℕ → ℕ → Item
  entry r o = item_of (claim_at p r o) o
