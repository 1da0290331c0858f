use Rattle.std.proofs.Common.{arith}
use Rattle.replay.proofs.Running.{call_navigates, call_validates, call_compares, call_unknown}
use Rattle.replay.proofs.run_call.Goals as goal

pub returns-in-0 : goal.returns-in-0
returns-in-0 c = call_navigates _ _ _ _ c.in-0.is c.run.ensures c.counted.ensures

pub returns-in-1 : goal.returns-in-1
returns-in-1 c = call_validates _ _ _ _ c.in-1.is c.run-in-1.ensures c.counted-in-1.ensures

pub returns-in-3 : goal.returns-in-3
returns-in-3 c = call_compares _ _ _ _ c.in-3.is c.run-in-3.ensures c.counted-in-3.ensures

pub returns-in_default : goal.returns-in_default
returns-in_default c = call_unknown _ _ _ _ (λ e. omega arith) (λ e. omega arith) (λ e. omega arith) c.fails.ensures
