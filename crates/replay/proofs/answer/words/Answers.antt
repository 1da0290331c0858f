use Rattle.replay.proofs.Judging.{words-laid}
use Rattle.replay.proofs.answer.words.Goals as goal

pub returns : goal.returns
returns c = words-laid _ c.pattern-value.ensures c.pattern-bound.ensures c.low.ensures c.high.ensures c.low-2.ensures c.high-2.ensures
