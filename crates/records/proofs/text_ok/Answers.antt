use mathlib.Core.Path.{◌∙◌}
use Rattle.records.proofs.Cases.{text_plain, text_inside, text_outside}
use Rattle.records.proofs.text_ok.Goals as goal

pub returns-then-plain : goal.returns-then-plain
returns-then-plain c = c.if-plain.true ∙ text_plain _ _ _ (cc) (cc)

pub returns-else-plain : goal.returns-else-plain
returns-else-plain c = text_inside _ _ _ (cc) (cc)

pub returns-else-fits : goal.returns-else-fits
returns-else-fits c = c.if-fits.false ∙ text_outside _ _ _ (cc)
