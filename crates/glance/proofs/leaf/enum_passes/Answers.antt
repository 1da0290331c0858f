use native.Mathlib.Omega.{arith}
use Prim.Native.Nat.{◌+◌}
use mathlib.Core.Path.{sym, ◌∙◌}
use lib.ListN.{get_or}
use Rattle.std.proofs.Common.{rules, tests}
use Rattle.std.proofs.lemmas.Iterator.{YieldsList-from_range}
use Rattle.std.proofs.lemmas.Iterator.Search.{any_from_yields_List}
use Rattle.layout.specs.Layout.{node_a, list_first, list_count}
use Rattle.glance.specs.Glance.{Passes, numbered}
use Rattle.glance.proofs.Says.{no_verdict}
use Rattle.glance.proofs.Leaves.{enum_fine}
use Rattle.glance.proofs.leaf.enum_passes.Goals as goal

pub returns-then-node_kind-ne-STRING : goal.returns-then-node_kind-ne-STRING
returns-then-node_kind-ne-STRING c = no_verdict _

pub returns : goal.returns
unfolding Passes
returns c = λ h.
    let by_number = any_from_yields_List (λ k. numbered c.args.t.now.nodes.now (node_a c.args.t.now.nodes.now c.args.n) (get_or c.args.t.now.links.now (list_first c.args.t.now.schemas.now c.args.s + k) 0)) _ _ c.any.result c.any.ensures.ran (YieldsList-from_range 0 (list_count c.args.t.now.schemas.now c.args.s) (list_count c.args.t.now.schemas.now c.args.s) (search rules) (omega arith)) (λ x b q k. search (rules, tests)) in
    enum_fine _ _ _ _ _ _ _ _ _ (sym c.node_kind.ensures ∙ c.if-node_kind-ne-STRING.false) (sym by_number ∙ h)
