use mathlib.Core.Path.{sym, ◌∙◌}
use Rattle.joins.proofs.Laws as laws
use Rattle.joins.proofs.any_closed.Goals as goal

pub returns-then-any_base_closed : goal.returns-then-any_base_closed
returns-then-any_base_closed c = rw c.if-any_base_closed.true (laws.closed_yes _ c.args.own _ (sym c.any_base_closed.ensures ∙ c.if-any_base_closed.true))

pub returns-else-any_base_closed : goal.returns-else-any_base_closed
returns-else-any_base_closed c = laws.closed_no _ c.args.own _ (sym c.any_base_closed.ensures ∙ c.if-any_base_closed.false)
