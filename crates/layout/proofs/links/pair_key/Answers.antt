use Rattle.layout.specs.Layout.{pair_key}
use Rattle.layout.proofs.links.pair_key.Goals as goal

pub returns : goal.returns
unfolding pair_key
returns c = c.word.ensures
