use Rattle.glance.proofs.Keys.{Asked}
use Rattle.glance.proofs.object.required_pass.Given as goal

abbrev pub invariant-loop-i : goal.invariant-loop-i
invariant-loop-i l = Asked l.t.nodes.now l.t.schemas.now l.t.links.now l.n l.s l.first l.count l.i
