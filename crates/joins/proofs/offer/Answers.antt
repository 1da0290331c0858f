use Rattle.joins.proofs.Laws as laws
use Rattle.joins.proofs.offer.Goals as goal

pub returns-then-not-names : goal.returns-then-not-names
returns-then-not-names c = laws.offer_additional _ _ _ _ _ c.if-not-names.true c.additional_properties.ensures

pub returns-then-detects : goal.returns-then-detects
returns-then-detects c = laws.offer_out _ _ _ _ _ c.if-not-names.false c.property_names-w.ensures _ c.detects.ensures c.if-detects.true

pub returns-else-detects : goal.returns-else-detects
returns-else-detects c = laws.offer_name _ _ _ _ _ c.if-not-names.false c.property_names-w.ensures _ c.detects.ensures c.if-detects.false
