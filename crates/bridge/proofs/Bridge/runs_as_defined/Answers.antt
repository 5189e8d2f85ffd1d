use Rattle.bridge.proofs.Running.{as_defined}
use Rattle.bridge.proofs.Bridge.runs_as_defined.Goals as goal

pub returns : goal.returns
returns g c = as_defined g.met.C.Compression.fits c.args.self.now
