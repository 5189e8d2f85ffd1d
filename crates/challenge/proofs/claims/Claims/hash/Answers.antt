use Rattle.std.proofs.Common.{◌∙◌, rules, tests}
use Rattle.std.proofs.lemmas.Iterator.{YieldsList-from_slice, YieldsList-from_zip}
use Rattle.std.proofs.lemmas.Iterator.Search.{find_from_yields_List}
use Rattle.utreexo.specs.Bytes.{Bytes}
use Rattle.place.specs.declared.Node.{Node}
use Rattle.challenge.proofs.Claiming.{same_place, hash_read, hash_found}
use Rattle.challenge.proofs.claims.Claims.hash.Goals as goal

pub returns : goal.returns
returns g c =
    let claims = c.args.self.now in
    let ds = claims.needed.now in
    let d = c.args.node in
    hash_read c.find.result c.map_or.result c.map_or.ensures (λ e. search rules) (λ p h. search rules)
    ∙ hash_found claims.targets.now claims.hashes.now ds d claims.small c.requires claims.positions claims.places c.as_chunks.ensures.front
    (find_from_yields_List (λ (p : Node × Bytes). same_place p.0 d) c.find.new.self _ c.find.result c.find.ensures.ran
    (YieldsList-from_zip (YieldsList-from_slice ds (cc)) (YieldsList-from_slice c.as_chunks.result.0.now (cc))) (λ x b q k. search (rules, tests)))
