use Rattle.joins.proofs.Laws as laws
use Rattle.joins.proofs.tallied.Goals as goal

pub returns-then-w-eq-NONE : goal.returns-then-w-eq-NONE
returns-then-w-eq-NONE c = laws.tally-none _ _ c.if-w-eq-NONE.true

pub returns : goal.returns
returns c = laws.tally_more _ _ c.if-w-eq-NONE.false
