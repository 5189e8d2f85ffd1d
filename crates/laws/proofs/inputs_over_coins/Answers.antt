use Rattle.laws.proofs.Beneath.{inputs_over_coins}
use Rattle.laws.proofs.inputs_over_coins.Goals as goal

pub returns : goal.returns
returns c = inputs_over_coins
