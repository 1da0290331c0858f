use mathlib.Core.Path.{refl}
use Rattle.navigate.specs.Path.{step_count}
use Rattle.navigate.proofs.path.step_count.Goals as goal

pub returns : goal.returns
unfolding step_count
returns c = refl
