use mathlib.Core.Path.{refl, sym, ◌∙◌}
use Rattle.merge.proofs.Laws as laws
use Rattle.merge.proofs.put_pair.Goals as goal

pub loop-place-init : goal.loop-place-init
loop-place-init c = (laws.seek-none _ _ _ _ c.requires, refl)

pub returns-then-same : goal.returns-then-same
returns-then-same c = laws.seek_hit _ _ _ _ _ _ c.loop-place.invariant.0 _ c.loop-place.invariant.1 c.loop-place-test.true (sym c.same.ensures ∙ c.if-same.true)

pub loop-place-preserved : goal.loop-place-preserved
loop-place-preserved c = (laws.seek_more _ _ _ _ _ _ c.loop-place.invariant.0 _ c.loop-place.invariant.1 c.loop-place-test.true (sym c.same.ensures ∙ c.if-same.false), c.loop-place.invariant.1)

pub returns-then-room-end : goal.returns-then-room-end
returns-then-room-end c = laws.seek_full _ _ _ _ _ _ c.loop-place.invariant.0 _ c.loop-place.invariant.1 c.loop-place-test.false c.if-room-end.true

pub returns : goal.returns
returns c = laws.seek_new _ _ _ _ _ _ c.loop-place.invariant.0 _ c.loop-place.invariant.1 c.loop-place-test.false c.if-room-end.false
