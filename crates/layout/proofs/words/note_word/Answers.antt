use Rattle.layout.specs.Layout.{note_word}
use Rattle.layout.proofs.words.note_word.Goals as goal

pub returns : goal.returns
unfolding note_word
returns c = c.word.ensures
