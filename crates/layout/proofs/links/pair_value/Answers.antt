use Rattle.layout.specs.Layout.{pair_value}
use Rattle.layout.proofs.links.pair_value.Goals as goal

pub returns : goal.returns
unfolding pair_value
returns c = c.word.ensures
