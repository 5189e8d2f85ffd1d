use Rattle.std.proofs.Common.{List, [], reverse, length, get_or, refl, sym, ap, ◌∙◌, arith}
use Rattle.std.proofs.lemmas.List.{length_push}
use Rattle.std.proofs.lemmas.Iterator.Adapters.{YieldsList-from_rev_slice}
use Rattle.std.proofs.lemmas.Iterator.Consumers.{YieldsList-turn, YieldsList-end}
use Rattle.climb.specs.declared.item.Item.{Item}
use Rattle.climb.specs.After.{row_lists}
use Rattle.climb.specs.Claimed.{claims}
use Rattle.challenge.proofs.RowVisits.{row_visited, left_verdict, verdict_more, verdict_found, verdict_none, there}
use Rattle.challenge.proofs.visit.visit_row.Goals as goal

pub loop-item-init : goal.loop-item-init
loop-item-init g c = λ on. refl

pub visit_place-requires-clause-inside : goal.visit_place-requires-clause-inside
visit_place-requires-clause-inside g c =
    let t = c.args.claims.now in
    let row : List Item = get_or (row_lists t.table.now) c.args.row [] in
    let k = YieldsList-turn (YieldsList-from_rev_slice row cc) c.loop-item.yielded _ c.loop-item.yielded_by _ _ c.in-Some.item c.in-Some.is c.next.ensures.steps in
    (there g.C.Compression.image (claims t.targets.now t.hashes.now) c.args.row (t.filled c.args.row c.requires.low) t.small (length c.loop-item.yielded) c.in-Some.item.now k.0 k.1).0

pub visit_place-requires-clause-covered : goal.visit_place-requires-clause-covered
visit_place-requires-clause-covered g c =
    let t = c.args.claims.now in
    let row : List Item = get_or (row_lists t.table.now) c.args.row [] in
    let k = YieldsList-turn (YieldsList-from_rev_slice row cc) c.loop-item.yielded _ c.loop-item.yielded_by _ _ c.in-Some.item c.in-Some.is c.next.ensures.steps in
    (there g.C.Compression.image (claims t.targets.now t.hashes.now) c.args.row (t.filled c.args.row c.requires.low) t.small (length c.loop-item.yielded) c.in-Some.item.now k.0 k.1).1

pub returns-in-Some-visit_place : goal.returns-in-Some-visit_place
returns-in-Some-visit_place g c = λ on.
    let image = g.C.Compression.image in
    let s = g.K.Keeper.slots c.args.keeper.now in
    let t = c.args.claims.now in
    let p = claims t.targets.now t.hashes.now in
    let row : List Item = get_or (row_lists t.table.now) c.args.row [] in
    let k = YieldsList-turn (YieldsList-from_rev_slice row cc) c.loop-item.yielded _ c.loop-item.yielded_by _ _ c.in-Some.item c.in-Some.is c.next.ensures.steps in
    verdict_found image s p c.args.row (reverse row) (length c.loop-item.yielded) c.in-Some.item.now _ k.0 k.1 c.in-Some-visit_place.ensures on
    ∙ sym (c.loop-item.invariant on) ∙ row_visited image p c.args.row (t.filled c.args.row c.requires.low) s on

pub loop-item-preserved : goal.loop-item-preserved
loop-item-preserved g c = λ on.
    let image = g.C.Compression.image in
    let s = g.K.Keeper.slots c.args.keeper.now in
    let t = c.args.claims.now in
    let p = claims t.targets.now t.hashes.now in
    let row : List Item = get_or (row_lists t.table.now) c.args.row [] in
    let k = YieldsList-turn (YieldsList-from_rev_slice row cc) c.loop-item.yielded _ c.loop-item.yielded_by _ _ c.in-Some.item c.in-Some.is c.next.ensures.steps in
    c.loop-item.invariant on ∙ verdict_more image s p c.args.row (reverse row) (length c.loop-item.yielded) c.in-Some.item.now k.0 k.1 c.in_default.ensures on
    ∙ ap (λ i. left_verdict image s p c.args.row (reverse row) i on) (sym (length_push c.loop-item.yielded c.in-Some.item))

pub returns : goal.returns
returns g c = λ on.
    let image = g.C.Compression.image in
    let s = g.K.Keeper.slots c.args.keeper.now in
    let t = c.args.claims.now in
    let p = claims t.targets.now t.hashes.now in
    let row : List Item = get_or (row_lists t.table.now) c.args.row [] in
    let k = YieldsList-end (YieldsList-from_rev_slice row cc) c.loop-item.yielded _ c.loop-item.yielded_by _ _ c.in-None.is c.next.ensures.steps in
    verdict_none image s p c.args.row (reverse row) (length c.loop-item.yielded) (omega (arith, k.1)) on
    ∙ sym (c.loop-item.invariant on) ∙ row_visited image p c.args.row (t.filled c.args.row c.requires.low) s on
