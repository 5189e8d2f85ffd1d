use Rattle.std.proofs.Common.{ap, sym}
use Rattle.utreexo.specs.Checks.{step}
use Rattle.utreexo.specs.Outcomes.{answered}
use Rattle.utreexo.specs.Wallet.{show}
use Rattle.promise.proofs.Agreement.{call_keeps}
use Rattle.wallet.specs.State.{wallet_of}
use Rattle.wallet.proofs.Wallet.show.Goals as goal

pub returns : goal.returns
returns g c =
    let image = g.C.Compression.image in
    let w = wallet_of {C = g.row.C.Denot} c.args.self.now in
    let s = ap (λ a. step a w) (sym c.show.ensures.answer) in
    record {
      step = s;
      keeps = call_keeps image (show c.args.position.number c.args.out.now) w w (answered c.show.result c.show.new.out) s;
      left = c.show.ensures.left;
    }
