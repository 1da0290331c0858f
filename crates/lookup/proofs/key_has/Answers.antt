use mathlib.Core.Path.{◌∙◌}
use borrow.Author.Tests.{ne_eqb}
use Rattle.lookup.proofs.Keys.{key_string, key_other}
use Rattle.lookup.proofs.key_has.Goals as goal

pub returns-then-node_kind-eq-STRING : goal.returns-then-node_kind-eq-STRING
returns-then-node_kind-eq-STRING c = key_string _ _ _ _ _ c.node_kind.ensures c.if-node_kind-eq-STRING.true c.node_a.ensures c.is_text.ensures

pub returns-else-node_kind-eq-STRING : goal.returns-else-node_kind-eq-STRING
returns-else-node_kind-eq-STRING c = ne_eqb _ _ c.if-node_kind-eq-STRING.false ∙ key_other _ _ _ _ _ c.node_kind.ensures c.if-node_kind-eq-STRING.false
