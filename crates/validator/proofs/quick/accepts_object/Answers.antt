use Rattle.validator.proofs.Early.{says_nothing}
use Rattle.validator.proofs.AtOnce.{object_at_once}
use Rattle.validator.proofs.quick.accepts_object.Goals as goal

pub returns-then-object_passes : goal.returns-then-object_passes
returns-then-object_passes c = object_at_once _ _ _ _ _ _ c.object_passes.ensures c.if-object_passes.true c.accepts_entries.ensures

pub returns-else-object_passes : goal.returns-else-object_passes
returns-else-object_passes c = rw c.if-object_passes.false (says_nothing _)
