use mathlib.Core.Path.{refl}
use Rattle.text.specs.Text.{text_count}
use Rattle.text.proofs.Texts.count.Goals as goal

pub returns : goal.returns
unfolding text_count
returns c = refl
