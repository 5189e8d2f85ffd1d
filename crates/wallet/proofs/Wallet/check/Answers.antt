use Rattle.utreexo.specs.Wallet.{check_block}
use Rattle.promise.proofs.Agreement.{call_keeps}
use Rattle.utreexo.specs.Outcomes.{answer_of}
use Rattle.wallet.specs.State.{wallet_of}
use Rattle.wallet.proofs.Steps.{checked_step}
use Rattle.wallet.proofs.Wallet.check.Goals as goal

pub returns : goal.returns
returns g c =
    let image = g.C.Compression.image in
    let w = wallet_of {C = g.row.C.Denot} c.args.self.now in
    let b = c.args.block.now in
    let s = checked_step image w b c.checked.result c.checked.ensures in
    record { step = s; keeps = call_keeps image (check_block b) w w (answer_of c.checked.result) s }
