use native.Mathlib.Omega.{arith}
use Rattle.joins.proofs.Laws as laws
use Rattle.joins.proofs.Limits.{offer_unlimited}
use Rattle.joins.proofs.lay_offers.Goals as goal

pub loop-base-init : goal.loop-base-init
loop-base-init c = laws.laying_none _ _ _

pub returns-in_err-end : goal.returns-in_err-end
returns-in_err-end c = rw c.from_residual.ensures (laws.laying_full _ _ _ _ _ _ c.loop-base.invariant c.loop-base-test.true _ _ (laws.offered_at _ _ _ _ _ c.offer-w.ensures) (offer_unlimited _ _ _ (omega arith) _ _ c.in_err-end.ensures))

pub loop-base-preserved : goal.loop-base-preserved
loop-base-preserved c = laws.laying_more _ _ _ _ _ _ c.loop-base.invariant c.loop-base-test.true _ _ (laws.offered_at _ _ _ _ _ c.offer-w.ensures) _ (offer_unlimited _ _ _ (omega arith) _ _ c.in_ok-end.ensures)

pub returns : goal.returns
returns c = laws.laying_end _ _ _ _ _ _ c.loop-base.invariant c.loop-base-test.false
