use Rattle.std.proofs.Common.{eqb, ◌∙◌, rules, tests}
use Rattle.std.proofs.lemmas.Iterator.{YieldsList-from_slice}
use Rattle.std.proofs.lemmas.Iterator.Search.{find_from_yields_List}
use Rattle.climb.proofs.Lookups.{lookup_find}
use Rattle.climb.proofs.after.methods.item_at.Goals as goal

pub returns : goal.returns
returns c =
    let xs = c.args.items.now in
    c.copied.ensures ∙ find_from_yields_List (λ x. eqb x.place c.args.place) _ _ c.find.result c.find.ensures.ran (YieldsList-from_slice xs (cc)) (λ x b q k. search (rules, tests)) ∙ lookup_find xs c.args.place
