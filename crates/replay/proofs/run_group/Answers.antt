use Rattle.std.proofs.Common.{arith}
use Rattle.replay.proofs.Running.{calls-none, calls_more, group-run}
use Rattle.replay.proofs.run_group.Goals as goal

pub loop-init : goal.loop-init
loop-init c = calls-none _ _ _ _

pub loop-preserved : goal.loop-preserved
loop-preserved c = calls_more _ _ _ _ _ c.loop.invariant c.run_call-run.ensures

pub returns : goal.returns
returns c = group-run _ _ _ _ _ c.unpack-group.ensures c.word-count.ensures c.after.ensures c.placed-run.ensures c.group_tables-t.ensures c.loop.invariant (omega arith)
