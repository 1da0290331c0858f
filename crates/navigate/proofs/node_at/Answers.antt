use native.Mathlib.Omega.{arith}
use mathlib.Core.Path.{refl, ap, ◌∙◌}
use Rattle.navigate.specs.Navigate.{answered}
use Rattle.navigate.proofs.Answering.{bad_tables, bad_path, no_node, walk_found, answered_found}
use Rattle.navigate.proofs.node_at.Goals as goal

pub returns-in_err-check_tables : goal.returns-in_err-check_tables
returns-in_err-check_tables c = bad_tables _ _ _ _ c.check_tables.ensures c.in_err-check_tables.was (grind arith)

pub returns-in_err-check_path : goal.returns-in_err-check_path
returns-in_err-check_path c = bad_path _ _ _ _ c.check_tables.ensures c.in_ok-check_tables.was c.count.ensures c.check_path.ensures c.in_err-check_path.was (grind arith)

pub returns-then-node_count-node : goal.returns-then-node_count-node
returns-then-node_count-node c = no_node _ _ _ _ c.check_tables.ensures c.in_ok-check_tables.was c.count.ensures c.check_path.ensures c.in_ok-check_path.was c.node_count.ensures c.if-node_count-node.true refl

pub returns : goal.returns
returns c =
    walk_found _ _ _ _ c.check_tables.ensures c.in_ok-check_tables.was c.count.ensures c.check_path.ensures c.in_ok-check_path.was c.node_count.ensures c.if-node_count-node.false c.follow.ensures
    (ap answered c.ok_or.ensures.value ∙ answered_found _)
