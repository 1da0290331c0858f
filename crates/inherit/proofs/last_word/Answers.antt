use Rattle.inherit.proofs.Steps as steps
use Rattle.inherit.proofs.last_word.Goals as goal

pub loop-base-init : goal.loop-base-init
loop-base-init c = steps.reading_none _ _ _ _ _ _

pub loop-base-preserved : goal.loop-base-preserved
loop-base-preserved c = steps.reading_more _ _ _ _ _ _ _ _ c.loop-base.invariant _ _ _ c.loop-base-test.true c.note_field-test.ensures c.note_field-w.ensures c.or_word-last.ensures

pub returns : goal.returns
returns c = steps.reading_end _ _ _ _ _ _ _ _ c.loop-base.invariant c.loop-base-test.false
