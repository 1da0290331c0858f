use mathlib.Core.Path.{refl}
use native.Mathlib.Omega.{arith}
use borrow.Author.Rules.{rules}
use Rattle.layout.proofs.Walk.{first_more}
use Rattle.tables.proofs.Loops.{bad_here, none_bad, node_there, nodes_over}
use Rattle.tables.proofs.walk.nodes_fault.Goals as goal

pub loop-node-init : goal.loop-node-init
loop-node-init c = (search rules, refl)

pub overflow_add-node-in-loop-node : goal.overflow_add-node-in-loop-node
overflow_add-node-in-loop-node c = omega (arith, node_there c.args.t.now.nodes.now c.loop-node.node (omega arith), c.requires)

pub loop-node-smaller : goal.loop-node-smaller
loop-node-smaller c = omega (arith, node_there c.args.t.now.nodes.now c.loop-node.node (omega arith))

pub loop-node-preserved : goal.loop-node-preserved
loop-node-preserved c = (omega (arith, node_there c.args.t.now.nodes.now c.loop-node.node (omega arith)), first_more _ _ _ c.loop-node.invariant.1 (node_there c.args.t.now.nodes.now c.loop-node.node (omega arith)) (cc))

pub returns-then-not-node_ok : goal.returns-then-not-node_ok
returns-then-not-node_ok c = bad_here _ _ _ _ _ c.loop-node.invariant.1 (node_there c.args.t.now.nodes.now c.loop-node.node (omega arith)) (cc)

pub returns : goal.returns
returns c = none_bad _ _ _ _ _ c.loop-node.invariant.1 c.loop-node.invariant.0 (nodes_over c.args.t.now.nodes.now c.loop-node.node (omega arith))
