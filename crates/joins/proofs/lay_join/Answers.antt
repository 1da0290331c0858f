use native.Mathlib.Omega.{arith}
use Rattle.joins.proofs.Laws as laws
use Rattle.joins.proofs.Limits.{offer_unlimited}
use Rattle.joins.proofs.lay_join.Goals as goal

pub returns-then-n-le1 : goal.returns-then-n-le1
returns-then-n-le1 c = laws.join_few _ c.args.room.now _ _ _ (omega arith)

pub returns-in_err-end : goal.returns-in_err-end
returns-in_err-end c = rw c.from_residual.ensures (laws.join_many _ _ _ _ _ (omega arith) _ (laws.then_full _ _ _ c.in_err-end.ensures _))

pub returns-in_err-last : goal.returns-in_err-last
returns-in_err-last c = rw c.from_residual-in_err-last.ensures (laws.join_many _ _ _ _ _ (omega arith) _ (laws.then_none _ _ _ _ c.in_ok-end.ensures _ _ (offer_unlimited _ _ _ (omega arith) _ _ c.in_err-last.ensures)))

pub returns : goal.returns
returns c = laws.join_many _ _ _ _ _ (omega arith) _ (laws.then_some _ _ _ _ c.in_ok-end.ensures _ _ _ (offer_unlimited _ _ _ (omega arith) _ _ c.in_ok-last.ensures))
