-- The card that is shown.
use Rattle.std.specs.Prelude.{ℕ, [], Some, None}
use Rattle.utreexo.specs.Bytes.{Bytes}
use Rattle.utreexo.specs.Lists.{first}
use Rattle.utreexo.specs.Wallet.{View, card_of}
use Rattle.shelf.specs.Finding.{has_position}

-- the card of the first coin on the shelf with the position p; no byte where none has it
abbrev pub card_at : View → ℕ → Bytes
card_at v p = elim (first (has_position v.count p) v.shelf) [ None ↦ [] | Some h ↦ card_of v.count h ]
