use Rattle.layout.specs.Layout.{node_word}
use Rattle.layout.proofs.Tables.node_word.Goals as goal

pub returns : goal.returns
unfolding node_word
returns c = c.word.ensures
