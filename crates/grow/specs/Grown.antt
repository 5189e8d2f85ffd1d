-- One coin more, and what becomes of a coin of the shelf when trees are joined.
use Rattle.std.specs.Prelude.{ℕ, ◌%◌, cond, Option, ◌==◌}
use Rattle.utreexo.specs.declared.types.Coin.{Coin}
use Rattle.utreexo.specs.declared.types.Value.{Value}
use Rattle.utreexo.specs.Values.{Image}
use Rattle.utreexo.specs.Wallet.{View, add}

-- the definition, shut: it goes through 32 rows, and open it would compute all of them at once
unfoldable pub added : Image → View → Coin → View
added image v c = add image v c

-- of two roots, that of the tree which is not at this place
abbrev pub other : ℕ → Option Value → Option Value → Option Value
other top left right = cond (top % 2 == 0) right left
