use Rattle.replay.proofs.Judging.{used_compiled, used_none}
use Rattle.replay.proofs.answer.used.Goals as goal

pub returns-then-compiled : goal.returns-then-compiled
returns-then-compiled c = used_compiled _ _ _ _ c.if-compiled.true c.word.ensures

pub returns : goal.returns
returns c = used_none _ _ _ _ c.if-compiled.false
