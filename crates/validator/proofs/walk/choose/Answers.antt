use native.Mathlib.Omega.{arith}
use Rattle.validator.proofs.Leaves as leaves
use Rattle.validator.proofs.walk.choose.Goals as goal

pub returns-then-object_closed-eq1 : goal.returns-then-object_closed-eq1
returns-then-object_closed-eq1 c = leaves.chosen_closed _ _ _ _ _ _ _ _ _ c.properties_first-first.ensures c.properties_count-count.ensures c.property.ensures _ c.in-None.is c.object_closed.ensures (omega arith)

pub returns-then-more : goal.returns-then-more
returns-then-more c = leaves.chosen_skip _ _ _ _ _ _ _ _ _ c.properties_first-first.ensures c.properties_count-count.ensures c.property.ensures _ c.in-None.is c.object_closed.ensures _ c.additional_properties-more.ensures (omega arith) c.if-more.true

pub returns-in-Some : goal.returns-in-Some
returns-in-Some c = leaves.chosen_part _ _ _ _ _ _ _ _ _ c.properties_first-first.ensures c.properties_count-count.ensures c.property.ensures _ c.in-Some.is

pub returns-else-more : goal.returns-else-more
returns-else-more c = leaves.chosen_more _ _ _ _ _ _ _ _ _ c.properties_first-first.ensures c.properties_count-count.ensures c.property.ensures _ c.in-None.is c.object_closed.ensures _ c.additional_properties-more.ensures (omega arith) c.if-more.false
