use Rattle.std.proofs.Common.{length, sym, ◌∙◌, arith}
use Rattle.std.proofs.lemmas.Bool.{ltb-false}
use Rattle.laws.proofs.Slots.{slot_low}
use Rattle.card.specs.Held.{struck_of}
use Rattle.card.proofs.Cards.{held_found}
use Rattle.card.proofs.held.Goals as goal

-- a slot that has a coin is within the count
pub returns-in_err-struck : goal.returns-in_err-struck
returns-in_err-struck g c =
    let s = g.K.Keeper.slots c.args.keeper.now in
    let i = c.args.slot.number in
    let l = slot_low s i c.in_ok-coin.coin (sym c.coin_in.ensures ∙ c.in_ok-coin.was) in
    let m = ltb-false i (length s) c.in_err-struck.ensures in
    absurd (omega arith)

pub returns : goal.returns
returns g c =
    sym (held_found g.C.Compression.image (g.K.Keeper.slots c.args.keeper.now) c.args.slot.number c.in_ok-coin.coin (struck_of c.in_ok-struck.struck)
    (sym c.coin_in.ensures ∙ c.in_ok-coin.was) c.in_ok-struck.ensures)
