use Rattle.joins.proofs.Laws as laws
use Rattle.joins.proofs.lay_list.Goals as goal

pub returns-then-room-count : goal.returns-then-room-count
returns-then-room-count c = laws.list_short _ _ _ _ c.if-room-count.true

pub loop-i-init : goal.loop-i-init
loop-i-init c = laws.copying_none _ _ _ _ c.if-room-count.false

pub loop-i-preserved : goal.loop-i-preserved
loop-i-preserved c = laws.copying_more _ _ _ _ _ _ c.loop-i.invariant _ c.loop-i-test.true c.word.ensures

pub returns : goal.returns
returns c = laws.copying_end _ _ _ _ _ _ c.loop-i.invariant c.loop-i-test.false
