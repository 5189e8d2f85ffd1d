-- Inputs, their images, and how the values of two runs are joined.
use Rattle.std.specs.Prelude.{◌^◌, ◌<◌, Bool, false, ◌&&◌, Some, None, Option, ◌==◌}
use Rattle.utreexo.specs.declared.types.Coin.{Coin}
use Rattle.utreexo.specs.declared.types.Value.{Value}
use Rattle.utreexo.specs.declared.types.Input.{Input}
use Rattle.utreexo.specs.declared.types.Input.TheVariants.{Leaf, Pair}

-- A compression gives each input one image, which is a value.
abbrev pub Image : Type 0
Image = Input → Value

-- equality of coins, of values and of inputs, as a test
abbrev pub same_coin : Coin → Coin → Bool
same_coin a b = a.w0 == b.w0 && (a.w1 == b.w1 && (a.w2 == b.w2 && a.w3 == b.w3))

abbrev pub same_value : Value → Value → Bool
same_value a b = a.w0 == b.w0 && (a.w1 == b.w1 && (a.w2 == b.w2 && a.w3 == b.w3))

abbrev pub same_input : Input → Input → Bool
same_input (Leaf a) (Leaf b) = same_coin a b
same_input (Leaf a) (Pair l r) = false
same_input (Pair l r) (Leaf b) = false
same_input (Pair l r) (Pair k s) = same_value l k && same_value r s

-- The value over a run, from the values over its halves: where one is absent, the other; else the image of the pair.
abbrev pub join : Image → Option Value → Option Value → Option Value
join image None b = b
join image (Some a) None = Some a
join image (Some a) (Some b) = Some (image (Pair a b))

-- the words of a record are 64-bit words
abbrev pub CoinFits : Coin → Type 0
CoinFits c = (c.w0 < 2 ^ 64) × (c.w1 < 2 ^ 64) × (c.w2 < 2 ^ 64) × (c.w3 < 2 ^ 64)

abbrev pub ValueFits : Value → Type 0
ValueFits v = (v.w0 < 2 ^ 64) × (v.w1 < 2 ^ 64) × (v.w2 < 2 ^ 64) × (v.w3 < 2 ^ 64)

abbrev pub InputFits : Input → Type 0
InputFits (Leaf c) = CoinFits c
InputFits (Pair l r) = ValueFits l × ValueFits r

-- an input of 64-bit words has an image of 64-bit words
abbrev pub ImageFits : Image → Type 0
ImageFits image = (i : Input) → InputFits i → ValueFits (image i)
