use Rattle.layout.specs.Layout.{entry_count}
use mathlib.Core.Path.{refl}
use Rattle.layout.proofs.words.entry_count.Goals as goal

pub returns : goal.returns
unfolding entry_count
returns c = refl
