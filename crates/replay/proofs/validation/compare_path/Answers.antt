use Rattle.std.proofs.Common.{arith}
use Rattle.replay.specs.Calls.{path_wrong}
use Rattle.replay.proofs.Judging.{wrong-none, wrong_more, wrong_all}
use Rattle.replay.proofs.validation.compare_path.Goals as goal

pub loop-k-init : goal.loop-k-init
loop-k-init c = wrong-none _ _ _

pub loop-k-preserved : goal.loop-k-preserved
loop-k-preserved c = wrong_more _ _ _ _ c.loop-k.invariant c.expected.ensures c.word.ensures c.judge-wrong.ensures

pub returns : goal.returns
unfolding path_wrong
returns c = wrong_all _ _ _ _ _ c.loop-k.invariant (omega arith)
