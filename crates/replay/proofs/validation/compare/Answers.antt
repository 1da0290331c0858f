use Rattle.std.proofs.Common.{refl}
use Rattle.replay.proofs.Called.{left-run}
use Rattle.replay.proofs.validation.compare.Goals as goal

pub returns : goal.returns
returns c = left-run _ _ _ c.after-answer_at.ensures c.word-count.ensures c.word-kinds.ensures c.after-instance_at.ensures c.after.ensures c.after-kinds_at.ensures c.compare-answered.ensures refl c.word.ensures c.compare_path-walked.ensures c.word-length.ensures c.compare_path.ensures c.after-2.ensures
