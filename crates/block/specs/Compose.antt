-- Compose: what the code writes, in terms of the definitions.
use Rattle.std.specs.Prelude.{◌≡◌, ℕ, ◌+◌, ◌≤◌, List, ◌++◌, map, length, take, drop}
use Rattle.utreexo.specs.declared.types.Coin.{Coin}
use Rattle.utreexo.specs.declared.types.Position.{Position}
use Rattle.utreexo.specs.declared.types.Value.{Value}
use Rattle.utreexo.specs.Bytes.{Bytes}
use Rattle.utreexo.specs.Blocks.{Block}
use Rattle.block.specs.declared.entry.Counts.{Counts}

-- the positions' numbers
abbrev pub numbers : List Position → List ℕ
numbers ps = map (λ p. p.number) ps

-- so many targets, spent coins, hashes and new coins are within the limits
abbrev pub Few : ℕ → ℕ → ℕ → ℕ → Type 0
Few t d h a = (t ≡ d) × (d ≤ 32) × (h ≤ 992) × (a ≤ 32)

-- the block of the four lists
abbrev pub block_of : List Position → List Coin → List Value → List Coin → Block
block_of targets spent hashes coins = record { targets = numbers targets; spent = spent; hashes = hashes; coins = coins }

-- its three counts
abbrev pub counts_of : List Coin → List Value → List Coin → Counts
counts_of spent hashes coins = record { spent = length spent; hashes = length hashes; coins = length coins }

-- bytes put into others at an offset
abbrev pub placed : ℕ → Bytes → Bytes → Bytes
placed at new old = take at old ++ (new ++ drop (at + length new) old)
