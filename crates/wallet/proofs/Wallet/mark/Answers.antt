use Rattle.std.proofs.Common.{map, min, ap, ◌∙◌}
use Rattle.history.specs.Stack.{room, stack}
use Rattle.shelf.specs.Views.{view_of}
use Rattle.wallet.proofs.Steps.{marks_pushed}
use Rattle.wallet.proofs.Wallet.mark.Goals as goal

pub returns : goal.returns
returns g c =
    let s = c.args.self.now in
    let marks = ap (map view_of) c.push.ensures ∙ marks_pushed (room s.marks.now) s.state (stack s.marks.now s.ring) in
    let places = ap (λ n. min n 64) c.push.auto.marks in
    λ i. record { room = places i; view = view_of s.state; marks = marks i }
