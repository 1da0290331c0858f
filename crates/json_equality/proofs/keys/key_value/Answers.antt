use mathlib.Core.Path.{◌∙◌}
use Rattle.json_equality.proofs.Steps as steps
use Rattle.json_equality.proofs.keys.key_value.Goals as goal

pub returns-in_err-last : goal.returns-in_err-last
returns-in_err-last c = c.from_residual.ensures ∙ steps.value_missing _ _ _ _ _ _ c.last_entry.ensures c.in_err-last.was

pub returns : goal.returns
returns c = steps.value_is _ _ _ _ _ _ c.last_entry.ensures c.in_ok-last.was c.entry_value.ensures
