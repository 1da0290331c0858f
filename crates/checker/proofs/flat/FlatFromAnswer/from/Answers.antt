use mathlib.Core.Path.{ap}
use Rattle.checker.specs.Flat.{flat_with, flat_of}
use Rattle.checker.proofs.flat.FlatFromAnswer.from.Goals as goal

pub returns : goal.returns
unfolding flat_of
returns c = ap (flat_with c.args.answer) c.from-parts.ensures
