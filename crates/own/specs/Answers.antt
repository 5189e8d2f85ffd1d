-- What the code finds at a node, as the input, the slot and the coin of the definitions.
use Rattle.std.specs.Prelude.{◌≡◌, ℕ, ◌/◌, ◌^◌, ◌<◌, length, Some, None, Option}
use Rattle.utreexo.specs.declared.types.Coin.{Coin}
use Rattle.utreexo.specs.declared.types.Value.{Value}
use Rattle.utreexo.specs.declared.types.Input.{Input}
use Rattle.utreexo.specs.declared.types.Input.TheVariants.{Leaf as LeafInput, Pair as PairInput}
use Rattle.utreexo.specs.Values.{Image}
use Rattle.utreexo.specs.Forest.{Slots, at_node, value_over}
use Rattle.utreexo.specs.Claims.{no_value}
use Rattle.utreexo.specs.Collection.{own_input, slot_at, coin_at, value_at}
use Rattle.own.specs.declared.Own.{Own}
use Rattle.own.specs.declared.Own.TheVariants.{Leaf, Pair}
use Rattle.own.specs.declared.walk.Found.{Found}

abbrev pub input_of : Own → Input
input_of (Leaf slot coin) = LeafInput coin
input_of (Pair left right) = PairInput left right

abbrev pub input_in : Option Own → Option Input
input_in None = None
input_in (Some x) = Some (input_of x)

-- a pair has no slot and no coin
abbrev pub slot_in : Option Own → Option ℕ
slot_in None = None
slot_in (Some (Leaf slot coin)) = Some slot.number
slot_in (Some (Pair left right)) = None

abbrev pub coin_in : Option Own → Option Coin
coin_in None = None
coin_in (Some (Leaf slot coin)) = Some coin
coin_in (Some (Pair left right)) = None

-- a value, or zero
abbrev pub or_zero : Option Value → Value
or_zero None = no_value
or_zero (Some v) = v

-- these are what the definitions have at place o of row r
pub record Stands (image : Image) (s : Slots) (r o : ℕ) (x : Option Own) : Type 0 where
  pub input : own_input image s r o ≡ input_in x
  pub slot : slot_at image s (at_node r o) ≡ slot_in x
  pub coin : coin_at image s (at_node r o) ≡ coin_in x

-- so is what the walk finds; and the value there is that over the run
abbrev pub Finds : Image → Slots → ℕ → ℕ → Option Found → Type 0
Finds image s r o None = Stands image s r o None
Finds image s r o (Some x) =
    Stands image s r o (Some x.own)
    × (value_over image s x.run.row x.run.place ≡ value_at image s (at_node r o))
    × (x.run.place < length s / 2 ^ x.run.row)
