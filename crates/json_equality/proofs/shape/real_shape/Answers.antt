use mathlib.Core.Path.{sym, ◌∙◌}
use Rattle.text.specs.Choice.{pick_yes, pick_no}
use Rattle.json_equality.specs.Value.{real_shape}
use Rattle.json_equality.proofs.shape.real_shape.Goals as goal

pub returns-then-is_finite : goal.returns-then-is_finite
unfolding real_shape
returns-then-is_finite c = sym (pick_yes _ _ (sym c.is_finite.ensures ∙ c.if-is_finite.true))

pub returns : goal.returns
unfolding real_shape
returns c = sym (pick_no _ _ (sym c.is_finite.ensures ∙ c.if-is_finite.false))
