use Rattle.std.proofs.Common.{◌≡◌, [], ap, rules}
use Rattle.utreexo.specs.Checks.{granted, step}
use Rattle.utreexo.specs.Wallet.{take_block, with_view, wallet_step}
use Rattle.promise.proofs.Agreement.{call_keeps}
use Rattle.shelf.specs.Views.{view_of}
use Rattle.utreexo.specs.Outcomes.{answer_of}
use Rattle.wallet.specs.State.{wallet_of}
use Rattle.wallet.proofs.Steps.{taken_step}
use Rattle.wallet.proofs.Wallet.take.Goals as goal

pub returns-in_err-next-clause-keeps : goal.returns-in_err-next-clause-keeps
returns-in_err-next-clause-keeps g c =
    let image = g.C.Compression.image in
    let w = wallet_of {C = g.row.C.Denot} c.args.self.now in
    let b = c.args.block.now in
    let s : wallet_step image (take_block b) w ≡ step (answer_of c.from_residual.result) w = search rules in
    call_keeps image (take_block b) w w (answer_of c.from_residual.result) s

pub returns : goal.returns
returns g c =
    let image = g.C.Compression.image in
    let w = wallet_of {C = g.row.C.Denot} c.args.self.now in
    let b = c.args.block.now in
    let v = view_of c.in_ok-next.next in
    let after = wallet_of {C = g.row.C.Denot} c.mark.new.self in
    let room = ap (λ w. w.room) c.mark.ensures in
    let marks = ap (λ w. w.marks) c.mark.ensures in
    let s = taken_step image w b after.room v after.marks c.in_ok-next.ensures.0 room c.in_ok-next.ensures.1 marks in
    record { step = s; keeps = call_keeps image (take_block b) w (with_view after v) (granted []) s }
