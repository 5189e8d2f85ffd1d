use Rattle.std.proofs.Common.{◌∙◌, ap, rules, tests}
use Rattle.std.proofs.lemmas.Iterator.{YieldsList-from_slice}
use Rattle.std.proofs.lemmas.Iterator.Search.{find_from_yields_List}
use Rattle.targets.specs.declared.spend.Spend.{Spend}
use Rattle.utreexo.specs.Claims.{target_at}
use Rattle.place.specs.Nodes.{node_of}
use Rattle.challenge.specs.Claimed.{coin_of}
use Rattle.challenge.proofs.Claiming.{same_place, coin_found}
use Rattle.challenge.proofs.claims.Claims.coin.Goals as goal

pub returns : goal.returns
returns g c =
    let ss = c.as_slice.result.now in
    let d = c.args.node in
    coin_found d ss c.find.result c.map.result
    (find_from_yields_List (λ (s : Spend). same_place s.node d) _ _ c.find.result c.find.ensures.ran (YieldsList-from_slice ss (cc)) (λ x b q k. search (rules, tests))) (search rules)
    ∙ ap (λ ts. coin_of (target_at ts (node_of d))) c.as_slice.ensures.value
