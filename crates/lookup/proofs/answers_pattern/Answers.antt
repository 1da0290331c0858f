use mathlib.Core.Path.{sym, ◌∙◌}
use Rattle.lookup.proofs.Keys.{pattern_same, pattern_other}
use Rattle.lookup.proofs.answers_pattern.Goals as goal

pub returns-then-same : goal.returns-then-same
returns-then-same c = pattern_same _ _ _ _ _ _ c.pattern_text.ensures (sym c.same.ensures ∙ c.if-same.true) c.subject_text.ensures c.same-then-same.ensures

pub returns-else-same : goal.returns-else-same
returns-else-same c = c.if-same.false ∙ pattern_other _ _ _ _ _ _ c.pattern_text.ensures (sym c.same.ensures ∙ c.if-same.false)
