use native.Mathlib.Omega.{arith}
use Rattle.validator.proofs.AtOnce.{gone_begin, gone_more, gone_ordered, gone_judged, all_nothing}
use Rattle.validator.proofs.quick.accepts_entries.Goals as goal

pub loop-k-init : goal.loop-k-init
loop-k-init c = gone_begin _ _ _ _ _ _ c.node_b-count.ensures

pub returns-in_default : goal.returns-in_default
returns-in_default c = all_nothing _ _

pub loop-k-preserved : goal.loop-k-preserved
loop-k-preserved c = gone_more _ _ _ _ _ c.loop-k.invariant (omega arith) c.entry_place.ensures c.in-Some.is (rw (← c.properties_first-first.ensures) c.pair_value-part.ensures) c.entry_value-value.ensures c.accepts_leaf.ensures c.if-not-accepts_leaf.false c.rises-ordered.ensures

pub returns-then-not-accepts_leaf : goal.returns-then-not-accepts_leaf
returns-then-not-accepts_leaf c = all_nothing _ _

pub returns-then-ordered : goal.returns-then-ordered
returns-then-ordered c = rw c.if-ordered.true (gone_ordered _ _ _ _ _ c.loop-k.invariant c.node_b-count.ensures (omega arith) c.if-ordered.true)

pub returns-else-ordered : goal.returns-else-ordered
returns-else-ordered c = gone_judged _ _ _ _ _ c.loop-k.invariant c.node_b-count.ensures (omega arith) _ c.check_keys.ensures c.is_ok.ensures.value
