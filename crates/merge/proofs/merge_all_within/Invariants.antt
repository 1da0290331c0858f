use Rattle.merge.proofs.Limits as laws
use Rattle.text.specs.Text.{same_text}
use Rattle.merge.proofs.merge_all_within.Given as goal

abbrev pub invariant-loop-base : goal.invariant-loop-base
invariant-loop-base l = laws.Gathering (same_text l.texts.pool.now l.texts.records.now) l.at l.schemas l.links l.bases l.initial.room l.room l.k l.base-index l.n
