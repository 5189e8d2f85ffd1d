use Rattle.std.proofs.Common.{◌≤◌, length, ap, ◌∙◌, ap₂, sym, arith, rules, tests}
use Rattle.std.proofs.lemmas.List.{length-map}
use Rattle.std.proofs.lemmas.Iterator.{YieldsList-from_slice}
use Rattle.std.proofs.lemmas.Iterator.Search.{any_from_yields_List}
use Rattle.utreexo.specs.Checks.{named}
use Rattle.utreexo.specs.Collection.{fresh, write_causes}
use Rattle.block.specs.Compose.{numbers}
use Rattle.proof.proofs.Chain.{passed}
use Rattle.bridge.specs.Spends.{lacks, Spends}
use Rattle.bridge.proofs.Writing.{any_lacks, not_placed, too_many, missing, all_pass}
use Rattle.bridge.proofs.written.spend.Goals as goal

pub returns-in_err-targets : goal.returns-in_err-targets
returns-in_err-targets g c =
    let image = g.C.Compression.image in
    let s = g.K.Keeper.slots c.args.keeper.now in
    let ps = numbers c.args.positions.now in
    let cs = c.args.coins.now in
    let few : length ps ≤ 32 = omega (arith, length-map c.args.positions.now (λ p. p.number)) in
    let few_coins : length cs ≤ 32 = omega arith in
    let are = c.as_slice.ensures.value ∙ c.coins_at-spent.ensures in
    passed (write_causes image s ps cs) (Spends image s ps) c.from_residual.result c.in_err-targets.field-0.0 c.from_residual.ensures.1
    (not_placed image s ps cs few few_coins c.count-count.result c.count-count.ensures c.as_slice.result.now are _ c.in_err-targets.ensures)

pub returns-in_err-check_limit : goal.returns-in_err-check_limit
returns-in_err-check_limit g c =
    let image = g.C.Compression.image in
    let s = g.K.Keeper.slots c.args.keeper.now in
    let ps = numbers c.args.positions.now in
    let cs = c.args.coins.now in
    let few : length ps ≤ 32 = omega (arith, length-map c.args.positions.now (λ p. p.number)) in
    let few_coins : length cs ≤ 32 = omega arith in
    let are = c.as_slice.ensures.value ∙ c.coins_at-spent.ensures in
    passed (write_causes image s ps cs) (Spends image s ps) c.from_residual-in_err-check_limit.result c.in_err-check_limit.field-0.0 c.from_residual-in_err-check_limit.ensures.1
    (too_many image s ps cs few few_coins c.count-count.result c.count-count.ensures c.as_slice.result.now are c.in_ok-targets.ensures.0 _ c.in_err-check_limit.ensures.judged)

pub returns-then-any : goal.returns-then-any
returns-then-any g c =
    let image = g.C.Compression.image in
    let s = g.K.Keeper.slots c.args.keeper.now in
    let ps = numbers c.args.positions.now in
    let cs = c.args.coins.now in
    let few : length ps ≤ 32 = omega (arith, length-map c.args.positions.now (λ p. p.number)) in
    let few_coins : length cs ≤ 32 = omega arith in
    let are = c.as_slice.ensures.value ∙ c.coins_at-spent.ensures in
    let lacking =
    any_from_yields_List (λ p. lacks image s p.number) c.any.new.self _ c.any.result c.any.ensures.ran (YieldsList-from_slice c.args.positions.now (cc)) (λ x b q k. search (rules, tests))
    ∙ any_lacks image s c.args.positions.now in
    missing image s ps cs few few_coins c.count-count.result c.count-count.ensures c.as_slice.result.now are c.in_ok-targets.ensures.0 c.in_ok-check_limit.ensures.room (sym lacking ∙ c.if-any.true)

pub returns : goal.returns
returns g c =
    let image = g.C.Compression.image in
    let s = g.K.Keeper.slots c.args.keeper.now in
    let ps = numbers c.args.positions.now in
    let cs = c.args.coins.now in
    let few : length ps ≤ 32 = omega (arith, length-map c.args.positions.now (λ p. p.number)) in
    let few_coins : length cs ≤ 32 = omega arith in
    let are = c.as_slice.ensures.value ∙ c.coins_at-spent.ensures in
    let lacking =
    any_from_yields_List (λ p. lacks image s p.number) c.any.new.self _ c.any.result c.any.ensures.ran (YieldsList-from_slice c.args.positions.now (cc)) (λ x b q k. search (rules, tests))
    ∙ any_lacks image s c.args.positions.now in (
      all_pass image s ps cs few few_coins c.count-count.result c.count-count.ensures c.as_slice.result.now are c.in_ok-targets.ensures.0 c.in_ok-check_limit.ensures.room (sym lacking ∙ c.if-any.false),
      record {
        spent = c.coins_at-spent.ensures;
        hashes = c.fresh_hashes-hashes.ensures ∙ ap (fresh image s) (c.in_ok-targets.ensures.1.named_so ∙ ap₂ (λ n cs. named n ps cs) c.count-count.ensures are);
      },
    )
