use Rattle.validator.proofs.Early.{says_nothing, accepts-boolean}
use Rattle.validator.proofs.AtOnce.{glance_number, glance_string, glance_enum}
use Rattle.validator.proofs.quick.accepts_leaf.Goals as goal

pub returns-then-level-eq0 : goal.returns-then-level-eq0
returns-then-level-eq0 c = says_nothing _

pub returns-in-1 : goal.returns-in-1
returns-in-1 c = accepts-boolean _ _ _ _ _ _ c.if-level-eq0.false c.schema_kind.ensures _ _ c.is_ok.ensures.value c.validate_boolean.ensures c.in-1.is

pub returns-in-2 : goal.returns-in-2
returns-in-2 c = glance_number _ _ _ _ _ _ c.if-level-eq0.false c.schema_kind.ensures _ c.number_passes.ensures c.in-2.is

pub returns-in-3 : goal.returns-in-3
returns-in-3 c = glance_string _ _ _ _ _ _ c.if-level-eq0.false c.schema_kind.ensures _ c.string_passes.ensures c.in-3.is

pub returns-in-5 : goal.returns-in-5
returns-in-5 c = glance_enum _ _ _ _ _ _ c.if-level-eq0.false c.schema_kind.ensures _ c.enum_passes.ensures c.in-5.is

pub returns-in_default : goal.returns-in_default
returns-in_default c = says_nothing _
