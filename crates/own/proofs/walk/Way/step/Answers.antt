use Rattle.std.proofs.Common.{◌≡◌, ◌-◌, ◌*◌, ◌+◌, sym, ap, ap₂, ◌∙◌, arith}
use Rattle.own.specs.declared.walk.Step.TheVariants.{On}
use Rattle.own.specs.Steps.{step_from}
use Rattle.own.proofs.Going.{halves_read}
use Rattle.own.proofs.walk.Way.step.Goals as goal

pub returns-in-None-None : goal.returns-in-None-None
returns-in-None-None g c =
    let image = g.C.Compression.image in
    let s = g.K.Keeper.slots c.args.keeper.now in
    let (l, r) = halves_read image s c.args.self.run c.requires.high c.requires.within c.requires.left c.requires.right c.value_over.ensures.within c.value_over-2.ensures.within in
    sym (ap₂ (step_from c.args.self c.args.place) (l ∙ c.in-None-None.is-0) (r ∙ c.in-None-None.is-1))

pub returns-in-Some-None : goal.returns-in-Some-None
returns-in-Some-None g c =
    let image = g.C.Compression.image in
    let s = g.K.Keeper.slots c.args.keeper.now in
    let (l, r) = halves_read image s c.args.self.run c.requires.high c.requires.within c.requires.left c.requires.right c.value_over.ensures.within c.value_over-2.ensures.within in
    let q : 2 * c.args.self.run.place ≡ 2 * c.args.self.run.place + 0 = omega arith in
    ap (λ u. On (record { run = u; bits = c.args.self.bits })) (c.requires.left ∙ ap (λ p. record { row = c.args.self.run.row - 1; place = p }) q)
    ∙ sym (ap₂ (step_from c.args.self c.args.place) (l ∙ c.in-Some-None.is-0) (r ∙ c.in-Some-None.is-1))
