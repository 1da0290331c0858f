use Rattle.text.specs.Text.{text_start}
use Rattle.text.proofs.Texts.start.Goals as goal

pub returns : goal.returns
unfolding text_start
returns c = c.word.ensures.value
