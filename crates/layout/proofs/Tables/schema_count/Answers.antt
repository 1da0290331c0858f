use Rattle.layout.specs.Layout.{schema_count}
use mathlib.Core.Path.{refl}
use Rattle.layout.proofs.Tables.schema_count.Goals as goal

pub returns : goal.returns
unfolding schema_count
returns c = refl
