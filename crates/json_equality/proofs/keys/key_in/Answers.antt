use mathlib.Core.Path.{ap, ◌∙◌}
use mathlib.Core.Bool.{not}
use borrow.Author.Tests.{ne_eqb}
use Rattle.json_equality.proofs.Steps as steps
use Rattle.json_equality.proofs.keys.key_in.Goals as goal

pub returns-then-node_kind-ne-STRING : goal.returns-then-node_kind-ne-STRING
returns-then-node_kind-ne-STRING c =
    ap not (ne_eqb _ _ c.if-node_kind-ne-STRING.true) ∙ steps.key_other _ _ _ _ _ _ _ c.entry_key-key.ensures c.node_kind.ensures c.if-node_kind-ne-STRING.true

pub returns-else-node_kind-ne-STRING : goal.returns-else-node_kind-ne-STRING
returns-else-node_kind-ne-STRING c =
    c.is_some.ensures ∙ steps.key_asked _ _ _ _ _ _ _ c.entry_key-key.ensures c.node_kind.ensures c.if-node_kind-ne-STRING.false c.node_a.ensures c.last_entry.ensures
