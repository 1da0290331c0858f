use Rattle.number.proofs.Patterns.{finite_below}
use Rattle.number.proofs.real.is_finite.Goals as goal

-- `number::real::is_finite` meets its contract. Assumes nothing.
pub returns : goal.returns
returns c = finite_below c.args.bits
