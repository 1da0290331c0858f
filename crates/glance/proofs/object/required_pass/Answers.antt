use native.Mathlib.Omega.{arith}
use Rattle.std.proofs.Common.{rules}
use Rattle.glance.proofs.Says.{no_required}
use Rattle.glance.proofs.Keys.{asked_begin, asked_more, asked_end}
use Rattle.glance.proofs.object.required_pass.Goals as goal

pub loop-i-init : goal.loop-i-init
loop-i-init c = asked_begin _ _ _ _ _ c.required_first-first.ensures c.required_count-count.ensures

pub loop-i-preserved : goal.loop-i-preserved
loop-i-preserved c = asked_more _ _ _ _ _ _ _ _ c.loop-i.invariant (omega arith) c.link-text.ensures c.has_number.ensures (search rules)

pub returns-then-not-has_number : goal.returns-then-not-has_number
returns-then-not-has_number c = no_required _ _ _ _ _

pub returns : goal.returns
returns c = asked_end _ _ _ _ _ _ _ _ c.loop-i.invariant (omega arith)
