use Rattle.merge.proofs.Laws as laws
use Rattle.text.specs.Text.{same_text}
use Rattle.merge.proofs.merge_all.Given as goal

abbrev pub invariant-loop-object : goal.invariant-loop-object
invariant-loop-object l = laws.Gathering (same_text l.texts.pool.now l.texts.records.now) l.schemas l.links l.bases l.initial.room l.room l.k l.object-index l.n
