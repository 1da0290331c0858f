use native.Mathlib.Omega.{arith}
use Rattle.joins.proofs.Limits as laws
use Rattle.joins.proofs.lay_list_within.Goals as goal

pub returns-then-at-gt-MOST_LINKS : goal.returns-then-at-gt-MOST_LINKS
returns-then-at-gt-MOST_LINKS c = laws.filled-past _ _ _ (omega arith)

pub returns-then-most-count : goal.returns-then-most-count
returns-then-most-count c = laws.list_short _ _ _ _ _ (λ z. omega arith)

pub loop-k-init : goal.loop-k-init
loop-k-init c = laws.copying_none _ _ _ _ _ (omega arith) (omega arith)

pub loop-k-preserved : goal.loop-k-preserved
loop-k-preserved c = laws.copying_more _ _ _ _ _ _ _ c.loop-k.invariant _ c.loop-k-test.true c.word.ensures

pub returns : goal.returns
returns c = laws.copying_end _ _ _ _ _ _ _ c.loop-k.invariant c.loop-k-test.false
