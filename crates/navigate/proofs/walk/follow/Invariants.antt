use mathlib.Core.Path.{◌≡◌}
use Rattle.navigate.specs.Path.{step_count, steps_of}
use Rattle.navigate.specs.Walk.{navigate_over}
use Rattle.navigate.proofs.Steps.{steps_from}
use Rattle.navigate.proofs.walk.follow.Given as goal

abbrev pub invariant-loop-i : goal.invariant-loop-i
invariant-loop-i l = (l.n ≡ step_count l.path) × (navigate_over l.t.texts.pool.now l.t.texts.records.now l.t.nodes.now l.t.links.now l.wanted l.at (steps_from l.path l.i) ≡ navigate_over l.t.texts.pool.now l.t.texts.records.now l.t.nodes.now l.t.links.now l.wanted l.node (steps_of l.path))
