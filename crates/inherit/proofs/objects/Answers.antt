use mathlib.Core.Path.{◌∙◌}
use Rattle.inherit.proofs.Steps as steps
use Rattle.inherit.proofs.objects.Goals as goal

pub returns : goal.returns
returns c = c.all_of_kind.ensures ∙ steps.objects_are _ _
