use Rattle.std.proofs.Common.{eqb, Some, None, sym, ap, ◌∙◌, rules, tests}
use Rattle.std.specs.Option.{option_map}
use denote.Ref.{Bor}
use Rattle.std.proofs.lemmas.Iterator.{YieldsList-from_slice}
use Rattle.std.proofs.lemmas.Iterator.Search.{find_from_yields_List}
use Rattle.climb.specs.declared.item.Item.{Item}
use Rattle.challenge.proofs.Claiming.{claim_looked}
use Rattle.challenge.proofs.claims.Claims.value.Goals as goal

pub returns-in-Some : goal.returns-in-Some
returns-in-Some g c =
    let claims = c.args.self.now in
    let d = c.args.node in
    let row = c.row-row.result.now in
    let e = find_from_yields_List (λ (i : Item). eqb i.place d.place) _ _ c.find.result c.find.ensures.ran (YieldsList-from_slice row (cc)) (λ x b q k. search (rules, tests)) in
    claim_looked g.C.Compression.image claims.targets.now claims.hashes.now claims.table.now claims.small claims.filled d c.requires c.row-row.ensures.items (Some c.in-Some.item.now)
    (ap (option_map (λ (b : Bor Item). b.now)) (sym c.in-Some.is) ∙ e)

pub returns-in-None : goal.returns-in-None
returns-in-None g c =
    let claims = c.args.self.now in
    let d = c.args.node in
    let row = c.row-row.result.now in
    let e = find_from_yields_List (λ (i : Item). eqb i.place d.place) _ _ c.find.result c.find.ensures.ran (YieldsList-from_slice row (cc)) (λ x b q k. search (rules, tests)) in
    c.hash.ensures
    ∙ claim_looked g.C.Compression.image claims.targets.now claims.hashes.now claims.table.now claims.small claims.filled d c.requires c.row-row.ensures.items None
    (ap (option_map (λ (b : Bor Item). b.now)) (sym c.in-None.is) ∙ e)
