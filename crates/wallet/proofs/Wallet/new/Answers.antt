use Rattle.std.proofs.Common.{◌≡◌, [], map, length, sym, subst}
use Rattle.utreexo.specs.Wallet.{Wallet, new_wallet}
use Rattle.utreexo.specs.Register.{new_register}
use Rattle.history.specs.Stack.{room, stack}
use Rattle.history.proofs.Turns.{stack_empty}
use Rattle.promise.specs.Agreement.{Agrees}
use Rattle.promise.proofs.Agreement.{new_agrees}
use Rattle.promise.proofs.Promise.{faithful}
use Rattle.shelf.specs.Views.{view_of}
use Rattle.wallet.specs.State.{wallet_of}
use Rattle.wallet.proofs.Wallet.new.Goals as goal

pub returns : goal.returns
returns g c =
    let places = length c.args.marks.now in
    let image = g.C.Compression.image in
    let none : stack c.args.marks.now c.new.result ≡ [] = stack_empty c.args.marks.now c.new.result c.new.ensures in
    let e : wallet_of {C = g.row.C.Denot} (record { state = c.empty.result; ring = c.new.result; marks = c.args.marks; compression = record {} }) ≡ new_wallet places =
    λ i. record { room = room c.args.marks.now; view = c.empty.ensures i; marks = map view_of (none i) } in
    record {
      empty = e;
      agrees = subst (λ (w : Wallet). Agrees image w (new_register places)) (sym e) (new_agrees image places);
      promise = faithful image places;
    }
