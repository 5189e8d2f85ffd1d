use Rattle.std.proofs.Common.{◌≡◌, get_or, Some, None, rules}
use Rattle.std.proofs.lemmas.Iterator.{first_from_Range}
use Rattle.bridge.proofs.Finding.{none_found}
use Rattle.bridge.proofs.Bridge.find.Goals as goal

pub returns-in_err-number : goal.returns-in_err-number
returns-in_err-number g c =
    let s = g.K.Keeper.slots c.args.self.now.keeper in
    none_found s c.args.coin c.count.result c.find.result _ c.from_residual.result c.count.ensures c.in_err-number.was c.from_residual.ensures
    (first_from_Range _ _ _ c.find.result (λ w. get_or s w None ≡ Some c.args.coin) (λ w. get_or s w None ≡ Some c.args.coin → ⊥) c.find.ensures.ran (λ x q k. search rules) (λ x q k. search rules))
