use mathlib.Core.Path.{◌≡◌}
use Rattle.layout.specs.Walk.{first}
use Rattle.navigate.specs.Path.{step_count, step_ok, first_bad_step}
use Rattle.navigate.proofs.path.first_bad_step.Given as goal

abbrev pub invariant-loop-i : goal.invariant-loop-i
invariant-loop-i l = (l.n ≡ step_count l.path) × (first (step_ok l.count l.path) l.i l.n ≡ first_bad_step l.count l.path)
