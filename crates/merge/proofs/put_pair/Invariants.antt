use mathlib.Core.Path.{◌≡◌}
use Rattle.merge.proofs.Laws as laws
use Rattle.text.specs.Text.{same_text}
use Rattle.merge.specs.Pairs.{pair}
use Rattle.merge.proofs.put_pair.Given as goal

abbrev pub invariant-loop-place : goal.invariant-loop-place
invariant-loop-place l = laws.Seeking (same_text l.texts.pool.now l.texts.records.now) l.initial.room l.n (pair l.key l.value) l.place × (l.room ≡ l.initial.room)
