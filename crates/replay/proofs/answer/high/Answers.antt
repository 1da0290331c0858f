use Rattle.std.proofs.Common.{refl}
use Rattle.replay.specs.Answer.{high_of}
use Rattle.replay.proofs.answer.high.Goals as goal

pub returns : goal.returns
unfolding high_of
returns c = refl
