use mathlib.Core.Path.{◌≡◌}
use Prim.Native.Nat.{◌-◌}
use Rattle.layout.specs.Layout.{pattern_count}
use Rattle.lookup.specs.Find.{first_from}
use Rattle.lookup.specs.Lookup.{answers_pattern}
use Rattle.lookup.proofs.pattern_answer.Given as goal

abbrev pub invariant-loop-i : goal.invariant-loop-i
invariant-loop-i l = (l.i-end ≡ pattern_count l.t.patterns.now) × (first_from (answers_pattern l.t.texts.pool.now l.t.texts.records.now l.t.patterns.now l.pattern l.subject) l.i (l.i-end - l.i) ≡ first_from (answers_pattern l.t.texts.pool.now l.t.texts.records.now l.t.patterns.now l.pattern l.subject) 0 (pattern_count l.t.patterns.now))
