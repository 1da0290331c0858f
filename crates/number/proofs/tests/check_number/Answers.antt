use Rattle.std.proofs.Common.{sym, ◌∙◌}
use Rattle.number.proofs.Passing as passing
use Rattle.number.proofs.tests.check_number.Goals as goal

-- `number::tests::check_number` meets its contract. Assumes nothing.
pub returns-then-value-bounds : goal.returns-then-value-bounds
returns-then-value-bounds c = passing.under_minimum _ _ c.if-value-bounds.true

pub returns-then-value-bounds-2 : goal.returns-then-value-bounds-2
returns-then-value-bounds-2 c = passing.over_maximum _ _ c.if-value-bounds.false c.if-value-bounds-2.true

pub returns-then-value-bounds-3 : goal.returns-then-value-bounds-3
returns-then-value-bounds-3 c = passing.at_exclusive_minimum _ _ c.if-value-bounds.false c.if-value-bounds-2.false c.if-value-bounds-3.true

pub returns-then-value-bounds-4 : goal.returns-then-value-bounds-4
returns-then-value-bounds-4 c = passing.at_exclusive_maximum _ _ c.if-value-bounds.false c.if-value-bounds-2.false c.if-value-bounds-3.false c.if-value-bounds-4.true

pub returns-then-not_multiple : goal.returns-then-not_multiple
returns-then-not_multiple c = passing.after_range _ _ c.if-value-bounds.false c.if-value-bounds-2.false c.if-value-bounds-3.false c.if-value-bounds-4.false (sym c.not_multiple.ensures ∙ c.if-not_multiple.true)

pub returns : goal.returns
returns c = passing.after_range _ _ c.if-value-bounds.false c.if-value-bounds-2.false c.if-value-bounds-3.false c.if-value-bounds-4.false (sym c.not_multiple.ensures ∙ c.if-not_multiple.false)
