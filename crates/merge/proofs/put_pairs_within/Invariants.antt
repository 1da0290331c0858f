use Rattle.merge.proofs.Limits as laws
use Rattle.text.specs.Text.{same_text}
use Rattle.merge.proofs.put_pairs_within.Given as goal

abbrev pub invariant-loop-k : goal.invariant-loop-k
invariant-loop-k l = laws.Merging (same_text l.texts.pool.now l.texts.records.now) l.at l.links l.initial.room l.room l.first l.count l.initial.n l.k l.n
