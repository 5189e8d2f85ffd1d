use Rattle.std.proofs.Common.{◌^◌, ◌<◌, length, sym, ap, ◌∙◌, arith}
use Rattle.own.specs.Answers.{or_zero}
use Rattle.own.proofs.Slots.{fresh_there}
use Rattle.own.proofs.fresh_at.Goals as goal

pub returns-clause-fresh : goal.returns-clause-fresh
returns-clause-fresh g c =
    let s = g.K.Keeper.slots c.args.keeper.now in
    let d = c.args.node in
    let small : length s < 2 ^ 32 = omega (arith, g.met.K.Keeper.fits c.args.keeper.now, g.met.K.Keeper.small c.args.keeper.now) in
    λ here. c.or_zero.ensures ∙ ap or_zero c.value_at.ensures ∙ sym (fresh_there g.C.Compression.image s small d.row d.place here)
