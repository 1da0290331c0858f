use native.Mathlib.Omega.{arith}
use Rattle.merge.proofs.Limits as laws
use Rattle.merge.proofs.put_pairs_within.Goals as goal
use Rattle.merge.proofs.put_pairs_within.Goals.{then-at-gt-MOST_LINKS-via-then-at-gt-MOST_LINKS, then-at-gt-MOST_LINKS-via-else-at-gt-MOST_LINKS+then-at-n}

pub returns-then-at-gt-MOST_LINKS : goal.returns-then-at-gt-MOST_LINKS
returns-then-at-gt-MOST_LINKS c =
    elim c.then-at-gt-MOST_LINKS.branch [
      | then-at-gt-MOST_LINKS-via-then-at-gt-MOST_LINKS w ↦ laws.put_all_past _ _ _ _ _ (omega arith)
      | then-at-gt-MOST_LINKS-via-else-at-gt-MOST_LINKS+then-at-n w ↦ laws.put_all_past _ _ _ _ _ (omega arith)
    ]

pub returns-in_err-n : goal.returns-in_err-n
returns-in_err-n c = rw c.from_residual.ensures (laws.merging_full _ _ _ _ _ _ _ _ _ _ c.loop-k.invariant c.loop-k-test.true _ _ c.pair_key-key.ensures c.pair_value-value.ensures _ c.in_err-n.ensures)

pub loop-k-preserved : goal.loop-k-preserved
loop-k-preserved c = laws.merging_more _ _ _ _ _ _ _ _ _ _ c.loop-k.invariant c.loop-k-test.true _ _ c.pair_key-key.ensures c.pair_value-value.ensures _ _ c.in_ok-n.ensures

pub returns : goal.returns
returns c = laws.merging_end _ _ _ _ _ _ _ _ _ _ c.loop-k.invariant c.loop-k-test.false
