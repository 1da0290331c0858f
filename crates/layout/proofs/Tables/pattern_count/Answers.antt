use Rattle.layout.specs.Layout.{pattern_count}
use mathlib.Core.Path.{refl}
use Rattle.layout.proofs.Tables.pattern_count.Goals as goal

pub returns : goal.returns
unfolding pattern_count
returns c = refl
