use Rattle.std.proofs.Common.{refl}
use Rattle.replay.proofs.Called.{validation_run}
use Rattle.replay.proofs.validation.run.Goals as goal

pub returns : goal.returns
returns c = validation_run _ _ _ refl refl refl c.run_within.ensures
