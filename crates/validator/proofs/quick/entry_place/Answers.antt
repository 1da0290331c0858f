use Rattle.validator.proofs.AtOnce.{place_other, place_string}
use Rattle.validator.proofs.quick.entry_place.Goals as goal

pub returns-then-node_kind-ne-STRING : goal.returns-then-node_kind-ne-STRING
returns-then-node_kind-ne-STRING c = place_other _ _ _ _ _ _ _ _ c.entry_key-key.ensures c.node_kind.ensures c.if-node_kind-ne-STRING.true

pub returns : goal.returns
returns c = place_string _ _ _ _ _ _ _ _ c.entry_key-key.ensures c.node_kind.ensures c.if-node_kind-ne-STRING.false c.properties_first-first.ensures c.properties_count-count.ensures c.node_a.ensures c.property_place.ensures
