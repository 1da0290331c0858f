use Rattle.layout.specs.Layout.{note_count}
use mathlib.Core.Path.{refl}
use Rattle.layout.proofs.Tables.note_count.Goals as goal

pub returns : goal.returns
unfolding note_count
returns c = refl
