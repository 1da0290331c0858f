use Rattle.layout.specs.Layout.{schema_word}
use Rattle.layout.proofs.schema.schema_word.Goals as goal

pub returns : goal.returns
unfolding schema_word
returns c = c.word.ensures
