use mathlib.Core.Path.{ap, ◌∙◌}
use Rattle.checker.specs.Flat.{flat_of}
use Rattle.checker.proofs.qy_navigate.Goals as goal

pub returns : goal.returns
returns c = c.from.ensures ∙ ap flat_of c.navigate.ensures
