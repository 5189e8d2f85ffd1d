use Rattle.std.proofs.Common.{[], map, sym, ◌∙◌}
use Rattle.utreexo.specs.Checks.{granted, refused}
use Rattle.utreexo.specs.Wallet.{take_back}
use Rattle.history.specs.Stack.{room, stack}
use Rattle.promise.proofs.Agreement.{call_keeps}
use Rattle.shelf.specs.Views.{view_of}
use Rattle.wallet.specs.State.{wallet_of}
use Rattle.wallet.proofs.Steps.{no_mark_step, back_step}
use Rattle.wallet.proofs.Wallet.take_back.Goals as goal

pub returns-in_default : goal.returns-in_default
returns-in_default g c =
    let image = g.C.Compression.image in
    let w = wallet_of {C = g.row.C.Denot} c.args.self.now in
    let s = no_mark_step image w.room w.view (stack c.args.self.now.marks.now c.args.self.now.ring) (sym c.newest-newest.ensures.newest ∙ c.in_default.is) in
    record { step = s; keeps = call_keeps image take_back w w (refused 14) s }

pub returns : goal.returns
returns g c =
    let image = g.C.Compression.image in
    let w = wallet_of {C = g.row.C.Denot} c.args.self.now in
    let marks = c.args.self.now.marks.now in
    let ring = c.newest-newest.result.1 in
    let s = back_step image w.room w.view (stack marks c.args.self.now.ring) (stack marks ring) c.in-Some.state (sym c.newest-newest.ensures.newest ∙ c.in-Some.is) c.newest-newest.ensures.older in
    record {
      step = s;
      keeps = call_keeps image take_back w (record { room = room marks; view = view_of c.in-Some.state; marks = map view_of (stack marks ring) }) (granted []) s;
    }
