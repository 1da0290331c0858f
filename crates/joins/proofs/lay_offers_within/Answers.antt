use native.Mathlib.Omega.{arith}
use Rattle.joins.proofs.Laws.{offered_at}
use Rattle.joins.proofs.Limits as laws
use Rattle.joins.proofs.lay_offers_within.Goals as goal

pub returns-then-at-gt-MOST_LINKS : goal.returns-then-at-gt-MOST_LINKS
returns-then-at-gt-MOST_LINKS c = laws.filled-past _ _ _ (omega arith)

pub loop-base-init : goal.loop-base-init
loop-base-init c = laws.laying_none _ _ _ _ (omega arith)

pub returns-in_err-end : goal.returns-in_err-end
returns-in_err-end c = rw c.from_residual.ensures (laws.laying_full _ _ _ _ _ _ _ c.loop-base.invariant c.loop-base-test.true _ _ (offered_at _ _ _ _ _ c.offer-w.ensures) c.in_err-end.ensures)

pub loop-base-preserved : goal.loop-base-preserved
loop-base-preserved c = laws.laying_more _ _ _ _ _ _ _ c.loop-base.invariant c.loop-base-test.true _ _ (offered_at _ _ _ _ _ c.offer-w.ensures) _ c.in_ok-end.ensures

pub returns : goal.returns
returns c = laws.laying_end _ _ _ _ _ _ _ c.loop-base.invariant c.loop-base-test.false
