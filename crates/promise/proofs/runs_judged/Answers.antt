use Rattle.promise.proofs.runs_judged.Goals as goal
use Rattle.promise.proofs.Runs.{run_judged}

pub returns : goal.returns
returns c = run_judged
