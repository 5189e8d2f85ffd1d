-- The code's wallet as the definitions have it.
use Rattle.std.specs.Prelude.{map}
use Rattle.utreexo.specs.Checks.{push}
use Rattle.utreexo.specs.Wallet.{Wallet}
use Rattle.history.specs.Stack.{room, stack}
use Rattle.shelf.specs.Views.{view_of}
use Rattle.wallet.specs.declared.Wallet.{Wallet as WalletCode}

-- its marks are those that the ring holds in the lent slice
abbrev pub wallet_of : {C : Type 0} → WalletCode C → Wallet
wallet_of w = record { room = room w.marks.now; view = view_of w.state; marks = map view_of (stack w.marks.now w.ring) }

-- the wallet once its state is a mark
abbrev pub marked : Wallet → Wallet
marked w = record { room = w.room; view = w.view; marks = push w.room w.view w.marks }
