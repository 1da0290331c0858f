use borrow.Author.Rules.{rules}
use Rattle.stored.specs.Stored.{number_of}
use Rattle.stored.proofs.pair.Goals as goal

pub returns : goal.returns
unfolding number_of
returns c = search rules
