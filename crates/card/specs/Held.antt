-- What the code finds of a slot, as records of the definitions.
use Rattle.std.specs.Prelude.{List, [], ◌∷◌, Some, None, Option}
use Rattle.utreexo.specs.Forest.{Struck as StruckBits}
use Rattle.utreexo.specs.Wallet.{Held as HeldCoin}
use Rattle.card.specs.declared.Live.{Live}
use Rattle.card.specs.declared.strike.Struck.{Struck}

abbrev pub struck_of : Struck → StruckBits
struck_of k = record { row = k.node.row; place = k.node.place; path = k.path.items }

abbrev pub held_of : Live → HeldCoin
held_of h = record { coin = h.coin; row = h.struck.node.row; place = h.struck.node.place; path = h.struck.path.items }

-- none, or the one
abbrev pub held_in : Option Live → List HeldCoin
held_in None = []
held_in (Some h) = held_of h ∷ []
