use Rattle.stored.specs.Input.{word_of}
use Rattle.stored.proofs.input.word_of.Goals as goal

pub returns : goal.returns
unfolding word_of
returns c = c.from_le_bytes.ensures
