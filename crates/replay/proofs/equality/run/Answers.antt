use Rattle.std.proofs.Common.{refl}
use Rattle.replay.proofs.Called.{equality_run}
use Rattle.replay.proofs.equality.run.Goals as goal

pub returns : goal.returns
returns c = equality_run _ _ _ refl c.equal-for_enum.ensures c.equal-for_unique.ensures c.word.ensures c.judge-wrong.ensures c.word-2.ensures c.judge.ensures c.after.ensures
