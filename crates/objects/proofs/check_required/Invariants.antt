use Prim.Native.Nat.{◌-◌, ◌+◌}
use mathlib.Core.Path.{◌≡◌}
use Rattle.layout.specs.Layout.{properties_first, properties_count, required_first, required_count}
use Rattle.schema.specs.Look.{slice}
use Rattle.judge.specs.Judge.{required_verdict}
use Rattle.objects.proofs.check_required.Given as goal

abbrev pub invariant-loop-i : goal.invariant-loop-i
invariant-loop-i l = required_verdict l.t.texts.pool.now l.t.texts.records.now l.t.nodes.now l.t.links.now (properties_first l.t.schemas.now l.s) (properties_count l.t.schemas.now l.s) l.n (slice l.t.links.now (l.first + l.i) (l.count - l.i)) ≡ required_verdict l.t.texts.pool.now l.t.texts.records.now l.t.nodes.now l.t.links.now (properties_first l.t.schemas.now l.s) (properties_count l.t.schemas.now l.s) l.n (slice l.t.links.now (required_first l.t.schemas.now l.s) (required_count l.t.schemas.now l.s))
