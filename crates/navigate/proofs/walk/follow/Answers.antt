use mathlib.Core.Path.{◌∙◌}
use native.Mathlib.Omega.{arith}
use Rattle.navigate.proofs.Walking.{walk_begin, walk_more, walk_stop, walk_end}
use Rattle.navigate.proofs.walk.follow.Goals as goal

pub loop-i-init : goal.loop-i-init
loop-i-init c = (c.step_count-n.ensures, walk_begin _ _ _ _ _ _ _)

pub returns-in_err-at : goal.returns-in_err-at
returns-in_err-at c = c.from_residual.ensures ∙ walk_stop _ _ _ _ _ _ _ _ _ c.loop-i.invariant.0 c.loop-i.invariant.1 (omega arith) c.wanted_at-key.ensures c.step_into.ensures c.in_err-at.was

pub loop-i-preserved : goal.loop-i-preserved
loop-i-preserved c = (c.loop-i.invariant.0, walk_more _ _ _ _ _ _ _ _ _ c.loop-i.invariant.0 c.loop-i.invariant.1 (omega arith) c.wanted_at-key.ensures c.step_into.ensures c.in_ok-at.was)

pub returns : goal.returns
returns c = walk_end _ _ _ _ _ _ _ _ c.loop-i.invariant.1 (omega (arith, c.loop-i.invariant.0))
