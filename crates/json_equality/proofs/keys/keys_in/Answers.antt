use mathlib.Core.Path.{sym, ◌∙◌}
use native.Mathlib.Omega.{arith}
use Rattle.layout.proofs.Walk.{every_more, every-stop, every-end}
use Rattle.json_equality.proofs.Steps as steps
use Rattle.json_equality.proofs.keys.keys_in.Goals as goal

pub loop-k-init : goal.loop-k-init
loop-k-init c = (omega arith, steps.keys_start _ _ _ _ _ _ c.node_b-k-end.ensures)

pub returns-then-not-key_in : goal.returns-then-not-key_in
returns-then-not-key_in c = every-stop _ _ _ c.loop-k.invariant.1 (omega arith) (sym c.key_in.ensures ∙ c.if-not-key_in.true)

pub loop-k-preserved : goal.loop-k-preserved
loop-k-preserved c = (omega arith, every_more _ _ _ c.loop-k.invariant.1 (omega arith) (sym c.key_in.ensures ∙ c.if-not-key_in.false))

pub returns : goal.returns
returns c = every-end _ _ _ c.loop-k.invariant.1 c.loop-k.invariant.0 (omega arith)
