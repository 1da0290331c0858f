use native.Mathlib.Omega.{arith}
use Rattle.merge.proofs.Limits as laws
use Rattle.merge.proofs.merge_all_within.Goals as goal

pub returns-then-at-gt-MOST_LINKS : goal.returns-then-at-gt-MOST_LINKS
returns-then-at-gt-MOST_LINKS c = laws.placed-past _ _ _ (omega arith)

pub loop-base-init : goal.loop-base-init
loop-base-init c = laws.gathering_none _ _ _ _ _ _ _ (omega arith)

pub returns-in_err-n : goal.returns-in_err-n
returns-in_err-n c = rw c.from_residual.ensures (laws.gathering_full _ _ _ _ _ _ _ _ _ _ c.loop-base.invariant c.loop-base-test.true _ _ c.schema_word-first.ensures c.schema_word-count.ensures _ c.in_err-n.ensures)

pub loop-base-preserved : goal.loop-base-preserved
loop-base-preserved c = laws.gathering_more _ _ _ _ _ _ _ _ _ _ c.loop-base.invariant c.loop-base-test.true _ _ c.schema_word-first.ensures c.schema_word-count.ensures _ _ c.in_ok-n.ensures

pub returns : goal.returns
returns c = laws.gathering_end _ _ _ _ _ _ _ _ _ _ c.loop-base.invariant c.loop-base-test.false
