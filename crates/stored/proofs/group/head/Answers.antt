use Rattle.stored.proofs.Unpacking.{head_read}
use Rattle.stored.proofs.group.head.Goals as goal

pub returns : goal.returns
returns c = head_read _ _ c.word.ensures c.word-2.ensures c.word-3.ensures
