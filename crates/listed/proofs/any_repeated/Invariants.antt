use Prim.Native.Nat.{◌-◌, ◌+◌}
use mathlib.Core.Path.{◌≡◌}
use Rattle.schema.specs.Look.{slice}
use Rattle.judge.specs.Judge.{any_repeated}
use Rattle.listed.proofs.any_repeated.Given as goal

abbrev pub invariant-loop-i : goal.invariant-loop-i
invariant-loop-i l = any_repeated l.way l.t.texts.pool.now l.t.texts.records.now l.t.nodes.now l.t.links.now l.t.numbers.now (slice l.t.links.now (l.first + l.i) (l.count - l.i)) ≡ any_repeated l.way l.t.texts.pool.now l.t.texts.records.now l.t.nodes.now l.t.links.now l.t.numbers.now (slice l.t.links.now l.first l.count)
