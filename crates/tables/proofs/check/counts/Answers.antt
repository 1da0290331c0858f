use Rattle.records.specs.Records.{counts_in}
use Rattle.tables.proofs.check.counts.Goals as goal

pub returns : goal.returns
unfolding counts_in
returns c = cc
