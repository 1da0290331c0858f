use mathlib.Core.Path.{sym, ap, ◌∙◌}
use Rattle.checker.specs.Flat.{parts_of, range_parts}
use Rattle.checker.proofs.flat.PartsFromRange.from.Goals as goal

pub returns-in-BelowMinimum : goal.returns-in-BelowMinimum
unfolding parts_of
returns-in-BelowMinimum c = c.reals.ensures ∙ sym (ap range_parts c.in-BelowMinimum.is)

pub returns-in-AboveMaximum : goal.returns-in-AboveMaximum
unfolding parts_of
returns-in-AboveMaximum c = c.reals-in-AboveMaximum.ensures ∙ sym (ap range_parts c.in-AboveMaximum.is)

pub returns-in-AtOrBelowExclusiveMinimum : goal.returns-in-AtOrBelowExclusiveMinimum
unfolding parts_of
returns-in-AtOrBelowExclusiveMinimum c = c.reals-in-AtOrBelowExclusiveMinimum.ensures ∙ sym (ap range_parts c.in-AtOrBelowExclusiveMinimum.is)

pub returns-in-AtOrAboveExclusiveMaximum : goal.returns-in-AtOrAboveExclusiveMaximum
unfolding parts_of
returns-in-AtOrAboveExclusiveMaximum c = c.reals-in-AtOrAboveExclusiveMaximum.ensures ∙ sym (ap range_parts c.in-AtOrAboveExclusiveMaximum.is)
