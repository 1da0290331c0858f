use mathlib.Core.Path.{◌∙◌}
use Rattle.json_equality.proofs.Steps as steps
use Rattle.json_equality.proofs.keys.is_last.Goals as goal

pub returns : goal.returns
returns c = c.eq.ensures ∙ steps.last_at _ _ _ _ _ _ c.last_entry.ensures _
