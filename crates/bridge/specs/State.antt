-- What the code's bridge means, and what look up answers.
use Rattle.std.specs.Prelude.{◌≡◌, ℕ, [], length, Some, None, Option, Result}
use Rattle.refusal.specs.declared.Refusal.{Refusal}
use Rattle.utreexo.specs.declared.types.Slot.{Slot}
use Rattle.utreexo.specs.Forest.{Slots}
use Rattle.utreexo.specs.Bridge.{Bridge as Model, Found, looked_up}
use Rattle.utreexo.specs.Bytes.{Bytes}
use Rattle.utreexo.specs.Values.{Image}
use Rattle.utreexo.specs.Collection.{held_at, card_bytes}
use Rattle.utreexo.specs.Outcomes.{answered, Writes}
use Rattle.utreexo.specs.declared.types.Coin.{Coin}
use Rattle.undo.specs.Marks.{marks_of}
use Rattle.compression.specs.declared.Compression.{Ghosts as CompressionGhosts}
use Rattle.keeper.specs.declared.Keeper.{Ghosts as KeeperGhosts}
use Rattle.bridge.specs.declared.Bridge.{Bridge}

-- the bridge of the definitions, by what its keeper means
abbrev pub bridge_of : {C K : Type 0} {c : CompressionGhosts C} {k : KeeperGhosts K C} → Bridge C K c k → Model
bridge_of {k} b = record { capacity = k.limit b.keeper; slots = k.slots b.keeper; marks = marks_of b.marks }

-- the number of a slot, if there is one
abbrev pub number_in : Option Slot → Option ℕ
number_in None = None
number_in (Some w) = Some w.number

-- the card of the slot that was found, if one was
abbrev pub found_card : Image → Slots → Option ℕ → Bytes
found_card image s None = []
found_card image s (Some w) = card_bytes (length s) (held_at image s w)

-- What look up answers, by some slot that find may give, with the output before and after it.
pub record LooksUp (image : Image) (s : Slots) (c : Coin) (before after : Bytes) (r : Result ℕ Refusal) : Type 0 where
  pub found : Option ℕ
  pub finds : Found s c found
  pub answer : answered r after ≡ looked_up image s found before
  pub left : Writes (found_card image s found) before after r
