use Rattle.std.proofs.Common.{refl}
use Rattle.replay.specs.Answer.{low_of}
use Rattle.replay.proofs.answer.low.Goals as goal

pub returns : goal.returns
unfolding low_of
returns c = refl
