use mathlib.Core.Path.{sym, ap, ◌∙◌}
use borrow.Author.Tests.{eq-eqb, ne_eqb}
use Rattle.text.specs.Choice.{pick_yes, pick_no}
use Rattle.json_equality.specs.Value.{real_shape, parsed_shape}
use Rattle.json_equality.proofs.shape.parsed_shape.Goals as goal

pub returns-then-place-eq-NONE : goal.returns-then-place-eq-NONE
unfolding parsed_shape
returns-then-place-eq-NONE c = sym (pick_yes _ _ (eq-eqb _ _ c.if-place-eq-NONE.true))

pub returns : goal.returns
unfolding parsed_shape
returns c = c.real_shape.ensures ∙ ap real_shape c.number.ensures ∙ sym (pick_no _ _ (ne_eqb _ _ c.if-place-eq-NONE.false))
