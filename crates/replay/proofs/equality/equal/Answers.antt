use Rattle.replay.proofs.Called.{equal_word}
use Rattle.replay.proofs.equality.equal.Goals as goal

pub returns : goal.returns
returns c = equal_word _ _ _ _ c.word-first.ensures c.word-second.ensures c.equal_nodes.ensures
