-- The code's state as what a wallet knows.
use Rattle.utreexo.specs.Wallet.{View}
use Rattle.shelf.specs.declared.state.State.{State}
use Rattle.shelf.specs.Held.{shelf_of}

abbrev pub view_of : State → View
view_of s = record { count = s.count; roots = s.roots; shelf = shelf_of s.shelf }
