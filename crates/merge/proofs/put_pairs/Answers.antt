use Rattle.merge.proofs.Laws as laws
use Rattle.merge.proofs.put_pairs.Goals as goal

pub returns-in_err-n : goal.returns-in_err-n
returns-in_err-n c = rw c.from_residual.ensures (laws.merging_full _ _ _ _ _ _ _ _ _ c.loop-k.invariant c.loop-k-test.true _ _ c.pair_key-key.ensures c.pair_value-value.ensures _ c.in_err-n.ensures)

pub loop-k-preserved : goal.loop-k-preserved
loop-k-preserved c = laws.merging_more _ _ _ _ _ _ _ _ _ c.loop-k.invariant c.loop-k-test.true _ _ c.pair_key-key.ensures c.pair_value-value.ensures _ _ c.in_ok-n.ensures

pub returns : goal.returns
returns c = laws.merging_end _ _ _ _ _ _ _ _ _ c.loop-k.invariant c.loop-k-test.false
