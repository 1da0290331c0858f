use Rattle.std.proofs.Common.{refl, arith}
use Rattle.replay.proofs.Judging.{wrong-none, wrong_more, compared_all}
use Rattle.replay.proofs.answer.compare.Goals as goal

pub loop-k-init : goal.loop-k-init
loop-k-init c = wrong-none _ _ _

pub loop-k-preserved : goal.loop-k-preserved
loop-k-preserved c = wrong_more _ _ _ _ c.loop-k.invariant c.expected-e.ensures refl c.judge-wrong.ensures

pub returns : goal.returns
returns c = compared_all _ _ _ _ _ c.words-found.ensures c.loop-k.invariant (omega arith)
