use Rattle.replay.proofs.Judging.{pattern_read}
use Rattle.replay.proofs.answer.stored_pattern.Goals as goal

pub returns : goal.returns
returns c = pattern_read _ _ c.number.ensures c.float_of.ensures c.pattern.ensures
