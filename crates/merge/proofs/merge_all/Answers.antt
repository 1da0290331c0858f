use Rattle.merge.proofs.Laws as laws
use Rattle.merge.proofs.merge_all.Goals as goal

pub loop-object-init : goal.loop-object-init
loop-object-init c = laws.gathering_none _ _ _ _ _ _

pub returns-in_err-n : goal.returns-in_err-n
returns-in_err-n c = rw c.from_residual.ensures (laws.gathering_full _ _ _ _ _ _ _ _ _ c.loop-object.invariant c.loop-object-test.true _ _ c.schema_word-first.ensures c.schema_word-count.ensures _ c.in_err-n.ensures)

pub loop-object-preserved : goal.loop-object-preserved
loop-object-preserved c = laws.gathering_more _ _ _ _ _ _ _ _ _ c.loop-object.invariant c.loop-object-test.true _ _ c.schema_word-first.ensures c.schema_word-count.ensures _ _ c.in_ok-n.ensures

pub returns : goal.returns
returns c = laws.gathering_end _ _ _ _ _ _ _ _ _ c.loop-object.invariant c.loop-object-test.false
