use Rattle.lookup.specs.Lookup.{entry_value}
use Rattle.lookup.proofs.entry_value.Goals as goal

pub returns : goal.returns
unfolding entry_value
returns c = cc
