use Rattle.rules.proofs.Parts.{rule_list, rule_object, rule_plain}
use Rattle.rules.proofs.schemas.schema_rule.Goals as goal

pub returns-then-is_list : goal.returns-then-is_list
returns-then-is_list c = rule_list _ _ _ _ _ _ _ (cc) (cc)

pub returns-then-kind-eq-OBJECT : goal.returns-then-kind-eq-OBJECT
returns-then-kind-eq-OBJECT c = rule_object _ _ _ _ _ _ _ c.if-kind-eq-OBJECT.true c.object_ok.ensures

pub returns : goal.returns
returns c = rule_plain _ _ _ _ _ _ _ (cc) c.if-kind-eq-OBJECT.false c.plain_rule.ensures
