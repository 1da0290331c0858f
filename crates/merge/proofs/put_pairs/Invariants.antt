use Rattle.merge.proofs.Laws as laws
use Rattle.text.specs.Text.{same_text}
use Rattle.merge.proofs.put_pairs.Given as goal

abbrev pub invariant-loop-k : goal.invariant-loop-k
invariant-loop-k l = laws.Merging (same_text l.texts.pool.now l.texts.records.now) l.links l.initial.room l.room l.first l.count l.initial.n l.k l.n
