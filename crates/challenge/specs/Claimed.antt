-- The coin that a target names.
use Rattle.std.specs.Prelude.{Some, None, Option}
use Rattle.utreexo.specs.declared.types.Coin.{Coin}
use Rattle.utreexo.specs.Claims.{Target}

abbrev pub coin_of : Option Target → Option Coin
coin_of None = None
coin_of (Some t) = Some t.coin
