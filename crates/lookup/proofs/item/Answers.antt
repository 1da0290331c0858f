use Prim.Native.Nat.{ℕ, ◌+◌}
use mathlib.Core.Path.{ap, ◌∙◌}
use lib.ListN.{get_or}
use Rattle.lookup.specs.Lookup.{item_node}
use Rattle.lookup.proofs.item.Goals as goal

pub returns : goal.returns
unfolding item_node
returns c = c.link.ensures ∙ ap (λ (first : ℕ). get_or c.args.t.now.links.now (first + c.args.k) 0) c.node_a-first.ensures
