use Rattle.utreexo.specs.Wallet.{let_go, with_view}
use Rattle.promise.proofs.Agreement.{call_keeps}
use Rattle.shelf.specs.Views.{view_of}
use Rattle.utreexo.specs.Outcomes.{answer_of}
use Rattle.wallet.specs.State.{wallet_of}
use Rattle.wallet.proofs.Steps.{let_go_step, view_kept}
use Rattle.wallet.proofs.Wallet.let_go.Goals as goal

pub returns : goal.returns
returns g c =
    let image = g.C.Compression.image in
    let w = wallet_of {C = g.row.C.Denot} c.args.self.now in
    let p = c.args.position.number in
    let v = view_of c.let_go.new.self in
    let s = let_go_step image w p v c.let_go.result c.let_go.ensures.answer (view_kept c.let_go.new.self c.args.self.now.state c.let_go.result c.let_go.ensures.refused) in
    record { step = s; keeps = call_keeps image (let_go p) w (with_view w v) (answer_of c.let_go.result) s }
