use Rattle.lookup.specs.Lookup.{entry_has_key}
use Rattle.lookup.proofs.entry_has_key.Goals as goal

pub returns : goal.returns
unfolding entry_has_key
returns c = cc
