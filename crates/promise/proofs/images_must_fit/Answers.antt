use Rattle.promise.proofs.Hypotheses.{images_must_fit}
use Rattle.promise.proofs.images_must_fit.Goals as goal

pub returns : goal.returns
returns c = images_must_fit
