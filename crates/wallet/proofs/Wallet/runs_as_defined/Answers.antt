use Rattle.wallet.proofs.Running.{as_defined}
use Rattle.wallet.proofs.Wallet.runs_as_defined.Goals as goal

pub returns : goal.returns
returns g c = as_defined g.C.Compression.image c.args.self.now
