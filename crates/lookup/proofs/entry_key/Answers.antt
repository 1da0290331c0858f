use Rattle.lookup.specs.Lookup.{entry_key}
use Rattle.lookup.proofs.entry_key.Goals as goal

pub returns : goal.returns
unfolding entry_key
returns c = cc
