use mathlib.Core.Path.{◌∙◌}
use Rattle.stored.proofs.Reading.{word_in, word_past}
use Rattle.stored.proofs.input.word_at.Goals as goal

pub returns-then-i-bytes : goal.returns-then-i-bytes
returns-then-i-bytes c = c.word_of.ensures ∙ word_in _ _ c.if-i-bytes.true

pub returns : goal.returns
returns c = word_past _ _ c.if-i-bytes.false
