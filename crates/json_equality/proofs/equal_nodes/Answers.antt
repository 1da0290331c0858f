use mathlib.Core.Path.{ap, ◌∙◌}
use Prim.Native.Nat.{ℕ, ◌+◌}
use Rattle.layout.specs.Layout.{node_count}
use native.Mathlib.Omega.{arith}
use Rattle.json_equality.proofs.Walk as walk
use Rattle.json_equality.proofs.equal_nodes.Goals as goal

pub overflow_add-depth : goal.overflow_add-depth
unfolding node_count
overflow_add-depth c = omega (arith, c.node_count-depth.ensures)

pub returns : goal.returns
returns c = c.equal_at.ensures ∙ walk.at_top _ _ _ _ _ _ _ _ _ (ap (λ (n : ℕ). n + 1) c.node_count-depth.ensures)
