-- What a written block spends.
use Rattle.std.specs.Prelude.{◌≡◌, ℕ, Bool, true, not, is_some, List, length, Some, None, Option}
use Rattle.utreexo.specs.declared.types.Coin.{Coin}
use Rattle.utreexo.specs.Values.{Image}
use Rattle.utreexo.specs.Forest.{Slots, locate}
use Rattle.utreexo.specs.Checks.{named}
use Rattle.utreexo.specs.Collection.{coin_at, no_coin, coins_at, fresh}
use Rattle.bridge.specs.declared.written.Spending.{Spending}

-- the coin that has a position
abbrev pub coin_having : Image → Slots → ℕ → Option Coin
coin_having image s p = elim (locate (length s) p) [ None ↦ None | Some e ↦ coin_at image s e ]

-- whether no coin has a position
abbrev pub lacks : Image → Slots → ℕ → Bool
lacks image s p = elim (locate (length s) p) [ None ↦ true | Some e ↦ not (is_some (coin_at image s e)) ]

-- where there is none it is of no account
abbrev pub coin_or : Option Coin → Coin
coin_or None = no_coin
coin_or (Some c) = c

-- these are the coins that have the positions, and the fresh proof for them
pub record Spends (image : Image) (s : Slots) (ps : List ℕ) (k : Spending) : Type 0 where
  pub spent : k.spent.items ≡ coins_at image s ps
  pub hashes : k.hashes.items ≡ fresh image s (named (length s) ps (coins_at image s ps))
