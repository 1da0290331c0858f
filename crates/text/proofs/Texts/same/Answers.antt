use mathlib.Core.Path.{sym, ◌∙◌}
use borrow.Author.Tests.{eq-eqb}
use Rattle.text.specs.Text.{same_text}
use Rattle.text.proofs.Bytes.{same_text_number}
use Rattle.text.proofs.Texts.same.Goals as goal

pub returns-then-m-n : goal.returns-then-m-n
returns-then-m-n c = eq-eqb _ _ c.if-m-n.true ∙ sym (same_text_number _ _ _ _ c.if-m-n.true)

pub returns-else-m-n : goal.returns-else-m-n
unfolding same_text
returns-else-m-n c = cc
