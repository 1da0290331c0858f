use mathlib.Core.Path.{◌≡◌}
use Prim.Native.Nat.{◌≤◌, ◌-◌}
use Rattle.layout.specs.Layout.{node_count}
use Rattle.layout.specs.Walk.{first}
use Rattle.records.specs.Records.{node_ok}
use Rattle.tables.proofs.walk.nodes_fault.Given as goal

abbrev pub invariant-loop-node : goal.invariant-loop-node
invariant-loop-node l = (l.node ≤ node_count l.t.nodes.now) × (first (node_ok l.z l.t.links.now l.t.nodes.now) l.node (node_count l.t.nodes.now) ≡ first (node_ok l.z l.t.links.now l.t.nodes.now) 0 (node_count l.t.nodes.now))

abbrev pub decreases-loop-node : goal.decreases-loop-node
decreases-loop-node l = node_count l.t.nodes.now - l.node
