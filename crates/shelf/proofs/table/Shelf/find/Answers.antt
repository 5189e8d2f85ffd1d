use Rattle.std.proofs.Common.{◌∙◌, ap, rules, tests}
use Rattle.std.proofs.lemmas.Iterator.{YieldsList-from_slice}
use Rattle.std.proofs.lemmas.Iterator.Search.{position_from_yields_List}
use Rattle.place.specs.Nodes.{node_of}
use Rattle.shelf.specs.Held.{held_of}
use Rattle.shelf.specs.Finding.{index_of, is_at}
use Rattle.shelf.proofs.Finding.{found, index_map}
use Rattle.shelf.proofs.table.Shelf.find.Goals as goal

pub returns : goal.returns
returns c =
    let rs = c.as_slice.result.now in
    let p = is_at (node_of c.args.node) in
    position_from_yields_List (λ r. p (held_of r)) _ _ _ c.position.ensures.ran (YieldsList-from_slice rs (cc)) (λ x b q k. search (rules, tests))
    ∙ found (λ r. p (held_of r)) rs ∙ index_map held_of p rs ∙ ap (index_of p) c.as_slice.ensures
