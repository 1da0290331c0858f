use borrow.Author.Rules.{rules}
use Rattle.stored.specs.Stored.{number_of, number_at}
use Rattle.stored.proofs.number.Goals as goal

pub returns : goal.returns
unfolding number_of number_at
returns c = search rules
