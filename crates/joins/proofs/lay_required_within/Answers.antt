use mathlib.Core.Path.{refl}
use Rattle.joins.specs.Joins.{required_of}
use native.Mathlib.Omega.{arith}
use Rattle.joins.proofs.Limits as laws
use Rattle.joins.proofs.lay_required_within.Goals as goal

pub returns-then-at-gt-MOST_LINKS : goal.returns-then-at-gt-MOST_LINKS
returns-then-at-gt-MOST_LINKS c = laws.filled-past _ _ _ (omega arith)

pub loop-base-init : goal.loop-base-init
loop-base-init c = laws.laying_none _ _ _ _ (omega arith)

pub returns-in_err-end : goal.returns-in_err-end
unfolding required_of
returns-in_err-end c = rw c.from_residual.ensures (laws.laying_full _ _ _ _ _ _ _ c.loop-base.invariant c.loop-base-test.true _ _ (rw (c.required_first-first.ensures, c.required_count-count.ensures) refl) c.in_err-end.ensures)

pub loop-base-preserved : goal.loop-base-preserved
unfolding required_of
loop-base-preserved c = laws.laying_more _ _ _ _ _ _ _ c.loop-base.invariant c.loop-base-test.true _ _ (rw (c.required_first-first.ensures, c.required_count-count.ensures) refl) _ c.in_ok-end.ensures

pub returns : goal.returns
returns c = laws.laying_end _ _ _ _ _ _ _ c.loop-base.invariant c.loop-base-test.false
