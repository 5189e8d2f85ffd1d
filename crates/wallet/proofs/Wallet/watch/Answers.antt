use Rattle.std.proofs.Common.{◌≡◌, [], rules}
use Rattle.utreexo.specs.Checks.{granted, step}
use Rattle.utreexo.specs.Wallet.{watch, with_view, wallet_step}
use Rattle.promise.proofs.Agreement.{call_keeps}
use Rattle.shelf.specs.Views.{view_of}
use Rattle.utreexo.specs.Outcomes.{answer_of}
use Rattle.wallet.specs.State.{wallet_of}
use Rattle.wallet.proofs.Steps.{watched_step}
use Rattle.wallet.proofs.Wallet.watch.Goals as goal

pub returns-in_err-self-clause-keeps : goal.returns-in_err-self-clause-keeps
returns-in_err-self-clause-keeps g c =
    let image = g.C.Compression.image in
    let w = wallet_of {C = g.row.C.Denot} c.args.self.now in
    let b = c.args.card.now in
    let s : wallet_step image (watch b) w ≡ step (answer_of c.from_residual.result) w = search rules in
    call_keeps image (watch b) w w (answer_of c.from_residual.result) s

pub returns : goal.returns
returns g c =
    let image = g.C.Compression.image in
    let w = wallet_of {C = g.row.C.Denot} c.args.self.now in
    let b = c.args.card.now in
    let v = view_of c.in_ok-self.field-0 in
    let s = watched_step image w b v c.in_ok-self.ensures.0 c.in_ok-self.ensures.1 in
    record { step = s; keeps = call_keeps image (watch b) w (with_view w v) (granted []) s }
