use Rattle.json_equality.proofs.Steps as steps
use Rattle.json_equality.proofs.keys.counterpart.Goals as goal

pub returns-then-node_kind-ne-STRING : goal.returns-then-node_kind-ne-STRING
returns-then-node_kind-ne-STRING c = steps.part_other _ _ _ _ _ _ _ c.entry_key-key.ensures c.node_kind.ensures c.if-node_kind-ne-STRING.true c.entry_value.ensures

pub returns-then-not-is_last : goal.returns-then-not-is_last
returns-then-not-is_last c = steps.part_covered _ _ _ _ _ _ _ c.entry_key-key.ensures c.node_kind.ensures c.if-node_kind-ne-STRING.false c.node_a-text.ensures c.is_last.ensures (c.if-not-is_last.true) c.entry_value-then-not-is_last.ensures

pub returns : goal.returns
returns c = steps.part_is _ _ _ _ _ _ _ c.entry_key-key.ensures c.node_kind.ensures c.if-node_kind-ne-STRING.false c.node_a-text.ensures c.is_last.ensures (c.if-not-is_last.false) c.key_value.ensures
