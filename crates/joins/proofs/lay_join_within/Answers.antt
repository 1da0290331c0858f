use native.Mathlib.Omega.{arith}
use Rattle.joins.proofs.Limits as laws
use Rattle.joins.proofs.lay_join_within.Goals as goal

pub returns-then-at-gt-MOST_LINKS : goal.returns-then-at-gt-MOST_LINKS
returns-then-at-gt-MOST_LINKS c = laws.filled-past _ _ _ (omega arith)

pub returns-then-n-lt2 : goal.returns-then-n-lt2
returns-then-n-lt2 c = laws.join_few _ _ c.args.room.now _ _ _ (omega arith) c.if-n-lt2.true

pub returns-in_err-end : goal.returns-in_err-end
returns-in_err-end c = rw c.from_residual.ensures (laws.join_many _ _ _ _ _ _ c.if-n-lt2.false _ (laws.then_full _ _ _ _ c.in_err-end.ensures _))

pub returns-in_err-last : goal.returns-in_err-last
returns-in_err-last c = rw c.from_residual-in_err-last.ensures (laws.join_many _ _ _ _ _ _ c.if-n-lt2.false _ (laws.then_none _ _ _ _ _ c.in_ok-end.ensures _ _ c.in_err-last.ensures))

pub returns : goal.returns
returns c = laws.join_many _ _ _ _ _ _ c.if-n-lt2.false _ (laws.then_some _ _ _ _ _ c.in_ok-end.ensures _ _ _ c.in_ok-last.ensures)
