use mathlib.Core.Path.{◌≡◌}
use Rattle.merge.proofs.Limits as laws
use Rattle.text.specs.Text.{same_text}
use Rattle.merge.specs.Pairs.{pair}
use Rattle.merge.proofs.put_pair_within.Given as goal

abbrev pub invariant-loop-k : goal.invariant-loop-k
invariant-loop-k l = laws.Seeking (same_text l.texts.pool.now l.texts.records.now) l.at l.initial.room l.n (pair l.key l.value) l.k × (l.room ≡ l.initial.room)
