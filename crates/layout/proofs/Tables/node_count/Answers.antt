use Rattle.layout.specs.Layout.{node_count}
use mathlib.Core.Path.{refl}
use Rattle.layout.proofs.Tables.node_count.Goals as goal

pub returns : goal.returns
unfolding node_count
returns c = refl
