use Rattle.text.specs.Text.{text_length}
use Rattle.text.proofs.Texts.length.Goals as goal

pub returns-clause-value : goal.returns-clause-value
unfolding text_length
returns-clause-value c = c.word.ensures.value
