use Rattle.merge.specs.Pairs.{record_pairs}
use Rattle.joins.proofs.lay_merged.Goals as goal

pub returns : goal.returns
unfolding record_pairs
returns c = rw (c.schema_word-first.ensures, c.schema_word-count.ensures) at c.lay_pairs_within.ensures
