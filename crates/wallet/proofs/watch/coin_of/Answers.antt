use Rattle.std.proofs.Common.{List, get_or, ap, arith, rules}
use Rattle.utreexo.specs.declared.types.Value.{Value}
use Rattle.utreexo.specs.Claims.{no_value}
use Rattle.climb.specs.Held.{hashes_in}
use Rattle.targets.specs.Spends.{target_of}
use Rattle.wallet.specs.Cards.{held_with}
use Rattle.wallet.proofs.Filling.{made, hashes_first}
use Rattle.wallet.proofs.watch.coin_of.Goals as goal

pub returns : goal.returns
returns c =
    let bytes = c.args.hashes.now in
    let few = c.requires in
    let path = made _ _ (λ i. get_or (hashes_in bytes) i no_value) no_value (λ i r f' call. search rules) c.from_fn.result 31 c.from_fn.ensures.items in
    ap (λ (p : List Value). held_with (target_of c.args.target) p) (hashes_first bytes c.from_fn.result (omega arith) path)
