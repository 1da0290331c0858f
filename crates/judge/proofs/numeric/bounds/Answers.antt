use native.Mathlib.Omega.{arith}
use Rattle.judge.proofs.Numbers.{bound_at, bounds_are}
use Rattle.judge.proofs.numeric.bounds.Goals as goal

pub returns : goal.returns
returns c = bounds_are _ _ (bound_at _ _ _ 0 (omega arith) c.real_at.ensures c.number_minimum.ensures) (bound_at _ _ _ 1 (omega arith) c.real_at-2.ensures c.number_maximum.ensures) (bound_at _ _ _ 2 (omega arith) c.real_at-3.ensures c.number_exclusive_minimum.ensures) (bound_at _ _ _ 3 (omega arith) c.real_at-4.ensures c.number_exclusive_maximum.ensures) (bound_at _ _ _ 4 (omega arith) c.real_at-5.ensures c.number_multiple.ensures)
