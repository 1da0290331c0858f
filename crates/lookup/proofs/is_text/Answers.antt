use native.Mathlib.Omega.{arith}
use mathlib.Core.Path.{sym, ap, ◌∙◌}
use mathlib.Core.Bool.{not}
use borrow.Author.Tests.{eq-eqb}
use Rattle.text.proofs.Bytes.{same_text_number}
use Rattle.lookup.proofs.Keys.{text_other, text_compared}
use Rattle.lookup.proofs.is_text.Goals as goal

pub returns-then-t-text : goal.returns-then-t-text
returns-then-t-text c = eq-eqb _ _ c.if-t-text.true ∙ sym (same_text_number _ _ _ _ (omega arith))

pub returns-then-not-other_length : goal.returns-then-not-other_length
returns-then-not-other_length c = text_compared _ _ _ _ c.requires c.text.ensures.bytes c.same_from_end.ensures

pub returns-else-not-other_length : goal.returns-else-not-other_length
returns-else-not-other_length c = ap not c.if-not-other_length.false ∙ text_other _ _ _ _ c.requires c.other_length.ensures c.if-not-other_length.false
