use Rattle.std.proofs.Common.{◌≡◌, ◌^◌, ◌<◌, [], ◌∷◌, length, Some, ap, ◌∙◌, sym, ap₂, subst, arith}
use Rattle.std.proofs.lemmas.Option.{same_Some}
use Rattle.utreexo.specs.Forest.{at_node}
use Rattle.utreexo.specs.Blocks.{composed}
use Rattle.utreexo.specs.Checks.{compose}
use Rattle.utreexo.specs.Outcomes.{Writes}
use Rattle.utreexo.specs.Wallet.{Held, position_of}
use Rattle.utreexo.specs.Collection.{held_at, card_bytes}
use Rattle.place.specs.Nodes.{number_of, position_at}
use Rattle.card.specs.Held.{held_in}
use Rattle.card.proofs.Cards.{card_number, card_composed, number_none}
use Rattle.card.proofs.card.Goals as goal

-- a live slot has a position
pub returns-in_default-position_of-clause-answer : goal.returns-in_default-position_of-clause-answer
returns-in_default-position_of-clause-answer g c =
    let image = g.C.Compression.image in
    let s = g.K.Keeper.slots c.args.keeper.now in
    let i = c.args.slot.number in
    let k = c.in-Some.live.struck in
    let h : Held = record { coin = c.in-Some.live.coin; row = k.node.row; place = k.node.place; path = k.path.items } in
    let small : length s < 2 ^ 32 = omega (arith, c.count.ensures) in
    let e : held_at image s i ≡ h ∷ [] = sym c.held.ensures ∙ ap held_in c.in-Some.is in
    let at = ap (λ n. position_at n (at_node h.row h.place)) c.count.ensures in
    absurd (number_none image s i h e small c.position_of.result (c.position_of.ensures ∙ at) c.in_default-position_of.is)

pub returns-clause-answer : goal.returns-clause-answer
returns-clause-answer g c =
    let image = g.C.Compression.image in
    let s = g.K.Keeper.slots c.args.keeper.now in
    let i = c.args.slot.number in
    let k = c.in-Some.live.struck in
    let h : Held = record { coin = c.in-Some.live.coin; row = k.node.row; place = k.node.place; path = k.path.items } in
    let small : length s < 2 ^ 32 = omega (arith, c.count.ensures) in
    let e : held_at image s i ≡ h ∷ [] = sym c.held.ensures ∙ ap held_in c.in-Some.is in
    let at = ap (λ n. position_at n (at_node h.row h.place)) c.count.ensures in
    let number = same_Some c.in-Some-position_of.position.number (position_of (length s) h) (card_number image s i h e small (Some c.in-Some-position_of.position) (sym (ap number_of c.in-Some-position_of.is) ∙ c.position_of.ensures ∙ at)) in
    c.compose.ensures.answer ∙ ap₂ (λ n p. compose (n ∷ []) (h.coin ∷ []) p [] c.args.out.now) number c.as_slice.ensures.value
    ∙ card_composed image s i h e (omega (arith, c.as_slice.ensures.fits, ap length c.as_slice.ensures.value)) c.args.out.now

pub returns-clause-left : goal.returns-clause-left
returns-clause-left g c =
    let image = g.C.Compression.image in
    let s = g.K.Keeper.slots c.args.keeper.now in
    let i = c.args.slot.number in
    let k = c.in-Some.live.struck in
    let h : Held = record { coin = c.in-Some.live.coin; row = k.node.row; place = k.node.place; path = k.path.items } in
    let small : length s < 2 ^ 32 = omega (arith, c.count.ensures) in
    let e : held_at image s i ≡ h ∷ [] = sym c.held.ensures ∙ ap held_in c.in-Some.is in
    let at = ap (λ n. position_at n (at_node h.row h.place)) c.count.ensures in
    let number = same_Some c.in-Some-position_of.position.number (position_of (length s) h) (card_number image s i h e small (Some c.in-Some-position_of.position) (sym (ap number_of c.in-Some-position_of.is) ∙ c.position_of.ensures ∙ at)) in
    subst (λ r. Writes r c.args.out.now c.compose.new.out c.compose.result)
    (ap₂ (λ n p. composed (record { targets = n ∷ []; spent = h.coin ∷ []; hashes = p; coins = [] })) number c.as_slice.ensures.value
    ∙ sym (ap (card_bytes (length s)) e))
    c.compose.ensures.left
