use Rattle.std.proofs.Common.{refl}
use Rattle.replay.proofs.Called.{navigation_run}
use Rattle.replay.proofs.navigation.run.Goals as goal

pub returns : goal.returns
returns c = navigation_run _ _ _ refl c.after-path_at.ensures c.word.ensures c.after-answer_at.ensures c.part.ensures c.find-found.ensures c.compare.ensures c.after.ensures
